-- 02 (iv): "the longest run of plain bytes from its place, which ends only before a special byte or at the body's end". The claim is that the
-- stuffing writer may copy it. The proof is `runs` of proofs/RunLaws.antt.
use Rattle.std.specs.Prelude.{ℕ, ◌+◌, ◌≤◌, ◌<◌, ◌≡◌, Bool, true, false, cond, List, [], ◌∷◌, ◌++◌, length, get_or, take, drop}
use Rattle.std.proofs.Math.Option.{Option, none, some}
use Rattle.shdlc.specs.Stuffing.{escapes, right_of, stuff_byte, stuff}

-- a byte is special where it has a row in the table of escapes
abbrev pub is_row : Option ℕ → Bool
is_row none = false
is_row (some e) = true

abbrev pub is_special : ℕ → Bool
is_special b = is_row (right_of escapes b)

-- how long the run at the front of the bytes is
unfoldable pub run_of : List ℕ → ℕ
run_of [] = 0
run_of (b ∷ bytes) = cond (is_special b) 0 (1 + run_of bytes)

pub record Runs : Type 0 where
  -- a special byte is sent as two
  pub special : (b : ℕ) → is_special b ≡ true → length (stuff_byte b) ≡ 2
  -- stuffing a run is copying it
  pub copied : (bytes : List ℕ) → stuff (take (run_of bytes) bytes) ≡ take (run_of bytes) bytes
  pub goes_on : (bytes : List ℕ) → stuff bytes ≡ take (run_of bytes) bytes ++ stuff (drop (run_of bytes) bytes)
  -- a run has no special byte, and what ends it before the bytes do is one
  pub within : (bytes : List ℕ) → run_of bytes ≤ length bytes
  pub plain : (bytes : List ℕ) (i : ℕ) → i < run_of bytes → is_special (get_or bytes i 0) ≡ false
  pub ends : (bytes : List ℕ) → run_of bytes < length bytes → is_special (get_or bytes (run_of bytes) 0) ≡ true
