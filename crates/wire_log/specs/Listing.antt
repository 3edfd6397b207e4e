-- The list of a log. 02 (v): "A log that passes the check is listed newest first, each record once; of any other nothing is shown."
-- A caller lends room for some rows and says how many records, the newest, are to be left out: so a long log is listed in parts.
use Rattle.std.specs.Prelude.{ℕ, ◌/◌, cond, List, [], ◌∷◌, reverse, ltb, length, take, drop}
use Rattle.refusal.specs.Refusals.{number, Answered, served, refused}
use Rattle.refusal.specs.Room.{overlay}
use Rattle.wire_log.specs.declared.oldest.Found.{Found}
use Rattle.wire_log.specs.Log.{LogRecord, Rule, joined}
use Rattle.wire_log.specs.Kinds.{number_of_kind}
use Rattle.wire_log.specs.Check.{records_of}

-- a record by its kind, where its body starts in the file, and the body's length
pub record Row : Type 0 where
  pub kind : ℕ
  pub start : ℕ
  pub size : ℕ

abbrev pub rowed : ℕ → ℕ → ℕ → Row
rowed kind start size = record { kind = kind; start = start; size = size }

-- a record that the code found, as a row
abbrev pub row_of : Found → Row
row_of found = rowed (number_of_kind found.kind) found.start found.size

-- the rows of records, the newest first: a body starts where the older records end
unfoldable pub rows_of : List LogRecord → List Row
rows_of [] = []
rows_of (r ∷ older) = rowed r.kind (length (joined (reverse older))) (length r.body) ∷ rows_of older

-- three numbers a row
unfoldable pub numbers_of : List Row → List ℕ
numbers_of [] = []
numbers_of (row ∷ rows) = row.kind ∷ row.start ∷ row.size ∷ numbers_of rows

-- as many rows as fit at the start of the lent room, and how many they are; 1 where there is a row and no room for one
unfoldable pub lay_rows : List Row → List ℕ → Answered ℕ × List ℕ
lay_rows [] room = (served 0, room)
lay_rows (row ∷ rows) room =
    cond (ltb (length room) 3) (refused (number 1), room)
    (served (length (take (length room / 3) (row ∷ rows))), overlay room 0 (numbers_of (take (length room / 3) (row ∷ rows))))

-- of the records that the check gives, from the one that so many others are newer than
abbrev pub list_from : Answered (List LogRecord) → ℕ → List ℕ → Answered ℕ × List ℕ
list_from (refused n) skip room = (refused n, room)
list_from (served records) skip room = lay_rows (drop skip (rows_of records)) room

unfoldable pub list : Rule → List ℕ → ℕ → List ℕ → Answered ℕ × List ℕ
list rule file skip room = list_from (records_of rule file) skip room
