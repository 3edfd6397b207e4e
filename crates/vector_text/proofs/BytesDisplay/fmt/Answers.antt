use Rattle.std.proofs.Common.{rules, sym, ap, ◌∙◌, ◌≡◌, ◌+◌, ◌++◌, [], true, take, slice_index_or}
use Rattle.std.proofs.lemmas.Grind.{put_two}
use Rattle.std.proofs.lemmas.Fmt.{hex_byte}
use Rattle.std.proofs.lemmas.List.{take_more, flat_map_more}
use Rattle.vector_text.specs.Text.{byte_text, bytes_text}
use Rattle.vector_text.proofs.BytesDisplay.fmt.Goals as goal

pub loop-byte-preserved : goal.loop-byte-preserved
loop-byte-preserved g c p =
    let bytes = c.args.self.now.0.now in
    let i = c.loop-byte.byte-index in
    let b = slice_index_or bytes i 0 in
    let more : bytes_text (take i bytes) ++ byte_text b ≡ bytes_text (take (i + 1) bytes) =
    flat_map_more byte_text [] (take i bytes) b ∙ sym (ap bytes_text (take_more bytes i 0 (search rules))) in
    put_two _ _ _ _ _ (byte_text b) _ (c.loop-byte.invariant p) (rw (← hex_byte true b (search rules)) (search rules)) more
