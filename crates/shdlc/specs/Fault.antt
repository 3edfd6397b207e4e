-- 02 (vii), what a place means: where a stretch stops being one that can be unstuffed. The proof is `placed` of proofs/Fault.antt. An
-- unstuffing that counts from 1 or in the unstuffed body, that reports the byte after the 7D or a later fault, or that stops at another
-- place than 65,535, does not meet it.
use Rattle.std.specs.Prelude.{ℕ, min, ◌≡◌, cond, List, [], ◌∷◌, ◌++◌, eqb, length}
use Rattle.std.proofs.Math.Option.{Option, none, some}
use Rattle.refusal.specs.Refusals.{Numbered, ◌carrying◌, served, refused}
use Rattle.shdlc.specs.Stuffing.{escapes, left_of, is_control, unstuff}

-- row 3: "7D not followed by 5E, 5D, 31 or 33, or last in the stretch"
abbrev pub unmeant : Option ℕ → Option ℕ
unmeant none = some 3
unmeant (some b) = none

abbrev pub after_escape : List ℕ → Option ℕ
after_escape [] = some 3
after_escape (b ∷ bytes) = unmeant (left_of escapes b)

-- the refusal, 3 or 4, of a byte that stands before the rest of its stretch; none where the byte is good there
abbrev pub wrong : ℕ → List ℕ → Option ℕ
wrong b rest = cond (eqb b 0x7D) (after_escape rest) (cond (is_control b) (some 4) none)

-- a stretch in three parts: bytes that can be unstuffed, the first byte that is wrong, and the rest, which does not matter but for the
-- byte after a 7D
pub record Broken (stretch : List ℕ) (why : Numbered) : Type 0 where
  pub front : List ℕ
  pub byte : ℕ
  pub rest : List ℕ
  pub parts : stretch ≡ front ++ (byte ∷ rest)
  pub body : List ℕ
  pub good : unstuff front ≡ served body
  pub n : ℕ
  pub bad : wrong byte rest ≡ some n
  pub at : why ≡ n carrying min (length front) 65535

-- a stretch is refused exactly where it is broken, and at the place of the byte that is wrong
pub record Placed : Type 0 where
  pub refused_there : (stretch : List ℕ) (why : Numbered) → Broken stretch why → unstuff stretch ≡ refused why
  pub only_there : (stretch : List ℕ) (why : Numbered) → unstuff stretch ≡ refused why → Broken stretch why
