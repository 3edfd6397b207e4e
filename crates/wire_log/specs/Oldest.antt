-- A log from its oldest record on. A file can only be read back from its end: who goes through it oldest first goes by halves, and asks for
-- the place where the older half ends, and for the record that ends at a place.
use Rattle.std.specs.Prelude.{ℕ, ◌≤◌, ◌≡◌, cond, List, ltb, length, drop, Option, Some, None}
use Rattle.refusal.specs.Refusals.{number, Answered, served, refused}
use Rattle.wire_log.specs.Log.{LogRecord, Rule}
use Rattle.wire_log.specs.Check.{ending_at, records_before}
use Rattle.wire_log.specs.declared.oldest.Found.{Found}
use Rattle.wire_log.specs.Listing.{Row, rowed, row_of}
use Rattle.wire_log.specs.Private.{found_in, shown}

-- the records that end at a place, the newest first; none where one of them is faulty
abbrev pub records_to : Rule → List ℕ → ℕ → List LogRecord
records_to rule file place = shown (records_before rule file place)

-- where there is none, a row of zeros, which is no record's
abbrev pub row_or : Answered Row → Row
row_or (served row) = row
row_or (refused n) = rowed 0 0 0

abbrev pub row_found : Option Found → Row
row_found (Some found) = row_of found
row_found None = rowed 0 0 0

-- the newest of the records that end at a place, by its row
unfoldable pub newest_to : Rule → List ℕ → ℕ → Row
newest_to rule file place = row_or (cond (ltb (length file) place) (refused (number 21)) (found_in file place (ending_at rule file place)))

-- an older place: the records that end there are those that end at the other, without the newest n
abbrev pub LeavesOut : Rule → List ℕ → ℕ → ℕ → ℕ → Type 0
LeavesOut rule file place n older =
    (older ≤ place) × (place ≤ length file → records_to rule file older ≡ drop n (records_to rule file place))
