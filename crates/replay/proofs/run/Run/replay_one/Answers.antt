use Rattle.std.proofs.Common.{ℕ, ◌≡◌, ◌+◌, ◌-◌, ◌∙◌, List, ap, sym, take, drop, arith}
use Rattle.payload.specs.Field.{Bytes}
use Rattle.wire_log.specs.Kinds.{number_of_kind}
use Rattle.wire_log.specs.Oldest.{row_found}
use Rattle.replay.proofs.Halving.{runs_1}
use Rattle.replay.proofs.run.Run.replay_one.Goals as goal

-- a slice between two places
part_of : (a n : ℕ) (l : List ℕ) → take (a + n - a) l ≡ take n l
part_of a n l = let e : a + n - a ≡ n = omega arith in ap (λ (m : ℕ). take m l) e

pub returns : goal.returns
returns c =
    let f = c.unwrap-found.result in
    let bytes : Bytes c.args.file.now = λ i. (c.type_inv.file i).fits in
    runs_1 _ _ c.args.self.now c.replay_record.new.self (number_of_kind f.kind) f.start f.size _ bytes c.requires.0 c.requires.1 (sym (ap row_found c.unwrap-found.ensures) ∙ c.newest.ensures.row)
    (part_of f.start f.size (drop f.start c.args.file.now)) c.replay_record.ensures
