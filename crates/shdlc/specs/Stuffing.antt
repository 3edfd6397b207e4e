-- 01, Frames on the wire: byte stuffing, and back.
use Rattle.std.specs.Prelude.{ℕ, ◌+◌, min, Bool, cond, ◌||◌, List, [], ◌∷◌, ◌++◌, eqb}
use Rattle.std.proofs.Math.Option.{Option, none, some}
use Rattle.refusal.specs.Refusals.{◌carrying◌, Answered, served, refused}

-- "7E becomes 7D 5E; 7D becomes 7D 5D; 11 becomes 7D 31; 13 becomes 7D 33. All else is sent as it is."
abbrev pub escapes : List (ℕ × ℕ)
escapes = (0x7E, 0x5E) ∷ (0x7D, 0x5D) ∷ (0x11, 0x31) ∷ (0x13, 0x33) ∷ []

-- the right side of a table's row, by its left side
abbrev pub right_of : List (ℕ × ℕ) → ℕ → Option ℕ
right_of [] left = none
right_of (row ∷ rows) left = cond (eqb left row.0) (some row.1) (right_of rows left)

-- the left side of a table's row, by its right side
abbrev pub left_of : List (ℕ × ℕ) → ℕ → Option ℕ
left_of [] right = none
left_of (row ∷ rows) right = cond (eqb right row.1) (some row.0) (left_of rows right)

abbrev pub sent : ℕ → Option ℕ → List ℕ
sent b none = b ∷ []
sent b (some e) = 0x7D ∷ e ∷ []

unfoldable pub stuff_byte : ℕ → List ℕ
stuff_byte b = sent b (right_of escapes b)

unfoldable pub stuff : List ℕ → List ℕ
stuff [] = []
stuff (b ∷ bytes) = stuff_byte b ++ stuff bytes

-- 01, Refusal numbers, row 4: bytes that are sent after a 7D only
abbrev pub is_control : ℕ → Bool
is_control b = eqb b 0x11 || eqb b 0x13

unfoldable pub prepend : ℕ → Answered (List ℕ) → Answered (List ℕ)
prepend b (served body) = served (b ∷ body)
prepend b (refused n) = refused n

-- 02 (vii): "the place, counted from 0 in the stretch, of the 7D in refusal 3 and of the bare byte in refusal 4. Places over 65,535 are
-- reported as 65,535."
abbrev pub reported_place : ℕ → ℕ
reported_place place = min place 65535

-- row 3: "7D not followed by 5E, 5D, 31 or 33"
abbrev pub meant : ℕ → Option ℕ → Answered (List ℕ) → Answered (List ℕ)
meant place none body = refused (3 carrying reported_place place)
meant place (some b) body = prepend b body

-- the bytes of a stretch from a place on unstuffed, or the earliest of 3 and 4; `unstuff_escaped` goes on after a 7D, which stands at
-- the place
unfoldable mutual
  pub unstuff_from : ℕ → List ℕ → Answered (List ℕ)
  unstuff_from place [] = served []
  unstuff_from place (b ∷ bytes) =
      cond (eqb b 0x7D) (unstuff_escaped place bytes)
      (cond (is_control b) (refused (4 carrying reported_place place)) (prepend b (unstuff_from (place + 1) bytes)))

  pub unstuff_escaped : ℕ → List ℕ → Answered (List ℕ)
  unstuff_escaped place [] = refused (3 carrying reported_place place)
  unstuff_escaped place (b ∷ bytes) = meant place (left_of escapes b) (unstuff_from (place + 2) bytes)

-- the bytes of a stretch unstuffed
abbrev pub unstuff : List ℕ → Answered (List ℕ)
unstuff bytes = unstuff_from 0 bytes
