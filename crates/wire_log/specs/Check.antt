-- The check. 02 (v): "a full check that the records tile the file and their number is the count. [..] Refusals: 20 for a file under 8
-- bytes, a total that differs from what precedes it, or one over 65,000; then, at the newest faulty record, 21 for a trailer cut short or
-- pointing before the start, else 22 for an unknown kind or a kind 3 with a body; then 23 wrong count."
use Rattle.std.specs.Prelude.{ℕ, zero, suc, ◌-◌, Bool, cond, not, ◌||◌, List, [], ◌∷◌, ltb, eqb, length, get_or, take, drop}
use Rattle.refusal.specs.Refusals.{number, Answered, served, refused, in_order}
use Rattle.payload.specs.Field.{big}
use Rattle.wire_log.specs.Log.{LogRecord, Rule, most}

-- the trailer that ends at a place of a file: its kind byte, the body length that it says, and where it says the record starts
unfoldable pub kind_at : List ℕ → ℕ → ℕ
kind_at file place = get_or file (place - 3) 0

unfoldable pub size_at : List ℕ → ℕ → ℕ
size_at file place = big (take 2 (drop (place - 2) file))

unfoldable pub start_at : List ℕ → ℕ → ℕ
start_at file place = place - 3 - size_at file place

unfoldable pub record_at : List ℕ → ℕ → LogRecord
record_at file place = record { kind = kind_at file place; body = take (size_at file place) (drop (start_at file place) file) }

-- the record that ends at a place, or what is wrong with it
unfoldable pub ending_at : Rule → List ℕ → ℕ → Answered LogRecord
ending_at rule file place =
    in_order
    ((ltb place 3, number 21)
    ∷ (ltb (place - 3) (size_at file place), number 21)
    ∷ (not (rule (kind_at file place) (size_at file place)), number 22)
    ∷ [])
    (record_at file place)

-- a record and those before it: what is wrong with the newest comes first
abbrev pub newest_of : Answered LogRecord → Answered (List LogRecord) → Answered (List LogRecord)
newest_of (refused n) (served older) = refused n
newest_of (refused n) (refused m) = refused n
newest_of (served r) (refused n) = refused n
newest_of (served r) (served older) = served (r ∷ older)

-- the records before a place, from the newest to the start of the file; each takes three bytes or more, so that as many turns as bytes
-- are enough
unfoldable pub walk : Rule → List ℕ → ℕ → ℕ → Answered (List LogRecord)
walk rule file zero place = served []
walk rule file (suc turns) place =
    cond (eqb place 0) (served []) (newest_of (ending_at rule file place) (walk rule file turns (start_at file place)))

unfoldable pub records_before : Rule → List ℕ → ℕ → Answered (List LogRecord)
records_before rule file place = walk rule file place place

-- what the closing bytes say
unfoldable pub count_in : List ℕ → ℕ
count_in file = big (take 4 (drop (length file - 8) file))

unfoldable pub total_in : List ℕ → ℕ
total_in file = big (take 4 (drop (length file - 4) file))

-- 20: "a file under 8 bytes, a total that differs from what precedes it, or one over 65,000"
unfoldable pub bad_total : List ℕ → Bool
bad_total file = ltb (length file) 8 || (not (eqb (total_in file) (length file - 8)) || ltb most (total_in file))

-- 23: "wrong count", where the records are good
abbrev pub counted : ℕ → Answered (List LogRecord) → Answered (List LogRecord)
counted count (refused n) = refused n
counted count (served records) = cond (eqb (length records) count) (served records) (refused (number 23))

-- the records of a file, the newest first, or why it is not a log
unfoldable pub records_of : Rule → List ℕ → Answered (List LogRecord)
records_of rule file =
    cond (bad_total file) (refused (number 20)) (counted (count_in file) (records_before rule file (length file - 8)))

-- how many they are: what the check answers
abbrev pub counting : Answered (List LogRecord) → Answered ℕ
counting (served records) = served (length records)
counting (refused n) = refused n
