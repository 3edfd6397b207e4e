-- Two logs compared. 02 (x): "It walks both oldest first and prints the exact differences by record place: `differ 3` where kind or body
-- differ, `only-a 4` or `only-b 4` past the shorter log's end, then `same N` with the number of equal places. [..] Where a log is bad, the
-- only line is `refused` with its number from the log's check, the first log's if both are bad."
use Rattle.std.specs.Prelude.{ℕ, ◌+◌, Bool, true, false, cond, ◌&&◌, List, [], ◌∷◌, reverse, ltb, eqb, length}
use Rattle.refusal.specs.Refusals.{number, Answered, served, refused}
use Rattle.refusal.specs.Room.{overlay}
use Rattle.wire_log.specs.Log.{LogRecord, kinds}
use Rattle.wire_log.specs.Check.{records_of}
use Rattle.compare.specs.declared.Compared.{Compared}

-- what is told of a place, as C gets it
abbrev pub same : ℕ
same = 0

abbrev pub differ : ℕ
differ = 1

abbrev pub only_a : ℕ
only_a = 2

abbrev pub only_b : ℕ
only_b = 3

unfoldable pub same_bytes : List ℕ → List ℕ → Bool
same_bytes [] [] = true
same_bytes [] (y ∷ ys) = false
same_bytes (x ∷ xs) [] = false
same_bytes (x ∷ xs) (y ∷ ys) = eqb x y && same_bytes xs ys

-- "where kind or body differ"
unfoldable pub mark_of : LogRecord → LogRecord → ℕ
mark_of x y = cond {A = ℕ} (eqb x.kind y.kind && same_bytes x.body y.body) same differ

-- the marks of two lists of records, all oldest first
unfoldable pub marks_of : List LogRecord → List LogRecord → List ℕ
marks_of [] [] = []
marks_of (x ∷ xs) [] = only_a ∷ marks_of xs []
marks_of [] (y ∷ ys) = only_b ∷ marks_of [] ys
marks_of (x ∷ xs) (y ∷ ys) = mark_of x y ∷ marks_of xs ys

-- "the number of equal places"
unfoldable pub equal_places : List ℕ → ℕ
equal_places [] = 0
equal_places (m ∷ marks) = cond {A = ℕ} (eqb m same) 1 0 + equal_places marks

-- of what the checks give, the newest record first; "the first log's if both are bad"
abbrev pub marks_by : Answered (List LogRecord) → Answered (List LogRecord) → Answered (List ℕ)
marks_by (refused n) (refused m) = refused n
marks_by (refused n) (served ys) = refused n
marks_by (served xs) (refused m) = refused m
marks_by (served xs) (served ys) = served (marks_of (reverse xs) (reverse ys))

-- of two files
unfoldable pub marks_in : List ℕ → List ℕ → Answered (List ℕ)
marks_in a b = marks_by (records_of kinds a) (records_of kinds b)

-- the marks at the start of lent room: how many places there are and how many of them are equal, and what the room then holds
abbrev pub laid_by : Answered (List ℕ) → List ℕ → Answered (ℕ × ℕ) × List ℕ
laid_by (refused n) room = (refused n, room)
laid_by (served marks) room =
    cond (ltb (length room) (length marks)) (refused (number 1), room) (served (length marks, equal_places marks), overlay room 0 marks)

-- what the code answers, as numbers
abbrev pub counts : Compared → ℕ × ℕ
counts compared = (compared.places, compared.same)

unfoldable pub compare : List ℕ → List ℕ → List ℕ → Answered (ℕ × ℕ) × List ℕ
compare a b room = laid_by (marks_in a b) room
