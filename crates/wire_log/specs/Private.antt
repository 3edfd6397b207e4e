-- Contracts of functions that only the library calls: nothing that a reader has to believe.
use Rattle.std.specs.Prelude.{ℕ, ◌+◌, cond, not, List, [], ◌++◌, ltb, length}
use Rattle.refusal.specs.Refusals.{number, Answered, served, refused}
use Rattle.refusal.specs.Room.{overlay}
use Rattle.wire_log.specs.Log.{LogRecord, Rule, record_bytes, closing, most}
use Rattle.wire_log.specs.Check.{start_at, ending_at, records_before}
use Rattle.wire_log.specs.Listing.{Row, rowed}

-- the record that ends at a place, as a row
abbrev pub found_in : List ℕ → ℕ → Answered LogRecord → Answered Row
found_in file place (served r) = served (rowed r.kind (start_at file place) (length r.body))
found_in file place (refused n) = refused n

-- the record that ends some bytes, as a row, and all records in them
abbrev pub last_in : Rule → List ℕ → Answered Row
last_in rule bytes = found_in bytes (length bytes) (ending_at rule bytes (length bytes))

abbrev pub records_in : Rule → List ℕ → Answered (List LogRecord)
records_in rule bytes = records_before rule bytes (length bytes)

-- the records that are served, if they are
abbrev pub shown : Answered (List LogRecord) → List LogRecord
shown (served records) = records
shown (refused n) = []

-- what the writer does with a log whose count and total are known: what is written goes after its records
unfoldable pub laid_after : Rule → ℕ → ℕ → LogRecord → List ℕ → Answered ℕ × List ℕ
laid_after rule count total r buffer =
    cond (not (rule r.kind (length r.body))) (refused (number 22), buffer)
    (cond (ltb most (total + length (record_bytes r))) (refused (number 12), buffer)
    (cond (ltb (length buffer) (total + length (record_bytes r) + 8)) (refused (number 1), buffer)
    (served (total + length (record_bytes r) + 8), overlay buffer total (record_bytes r ++ closing (count + 1) (total + length (record_bytes r))))))
