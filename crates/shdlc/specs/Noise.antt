-- 02 (viii), which bytes of a stream are noise. The proof is `noise-bytes` of proofs/Noise.antt. The three parts settle the count of every
-- stream: it has a last mark or none, behind that a first 7E or none, and what precedes that mark is a shorter stream. A count with a
-- delimiter in it, or with bytes of a stretch that is refused, cut off or not ended, does not meet them.
use Rattle.std.specs.Prelude.{ℕ, ◌+◌, ◌≡◌, List, ◌∷◌, ◌++◌, map, length}
use Rattle.shdlc.specs.Stream.{Event, byte, mark, noise}
use Rattle.shdlc.specs.ReadBack.{Unbroken}

pub record NoiseBytes : Type 0 where
  -- "Before the first 7E, and after a mark, bytes are noise": bytes without a 7E at the start of a stream, and after a mark
  pub at_the_start : (bytes : List ℕ) → Unbroken bytes → noise (map byte bytes) ≡ length bytes
  pub after_a_mark : (stream : List Event) (bytes : List ℕ) → Unbroken bytes
      → noise (stream ++ (mark ∷ map byte bytes)) ≡ noise stream + length bytes
  -- "A delimiter isn't noise, nor are bytes of a refused stretch.": nor is any byte from a 7E on, until a mark comes
  pub after_a_7E : (stream : List Event) (bytes : List ℕ) → noise (stream ++ (byte 0x7E ∷ map byte bytes)) ≡ noise stream
