-- The claims about logs, over the definitions and for all files and records. The proofs are `logs` and `known-kinds` of proofs/Logs.antt. A
-- check that refuses everything, and one that serves too few records, do not meet them.
use Rattle.std.specs.Prelude.{ℕ, ◌+◌, ◌-◌, ◌*◌, ◌/◌, min, ◌≤◌, ◌<◌, ◌≡◌, ◌↔◌, ◌⊎◌, true, false, List, [], ◌∷◌, ◌++◌, map, reverse, length, take, drop}
use Rattle.refusal.specs.Refusals.{Numbered, number, Answered, served, refused}
use Rattle.refusal.specs.Room.{overlay}
use Rattle.payload.specs.Field.{Bytes}
use Rattle.wire_log.specs.Log.{LogRecord, Rule, kinds, recorded, joined, log_of, Follows, Good, most}
use Rattle.wire_log.specs.Check.{kind_at, size_at, count_in, total_in, records_of}
use Rattle.wire_log.specs.Listing.{Row, rows_of, numbers_of, list}
use Rattle.wire_log.specs.Writer.{append}

-- The kinds there are, in 02's words; all else is claimed for every rule. "Kind 1 is request-side bytes, 2 reply-side bytes, 3 a silence
-- mark (empty body)."
pub record Kinds : Type 0 where
  pub known : (kind size : ℕ) → (kinds kind size ≡ true) ↔ ((kind ≡ 1) ⊎ ((kind ≡ 2) ⊎ ((kind ≡ 3) × (size ≡ 0))))

-- none of the three conditions of 20 holds
pub record Sized (file : List ℕ) : Type 0 where
  pub long : 8 ≤ length file
  pub agrees : total_in file ≡ length file - 8
  pub within : total_in file ≤ most

-- a place that is not the start of the file, after which good records stand and nothing else: where the walk looks for the next record
pub record Reached (rule : Rule) (file : List ℕ) (place : ℕ) : Type 0 where
  pub some : 0 < place
  pub newer : List LogRecord
  pub stand : take (length file - 8) file ≡ take place file ++ joined newer
  pub follow : Follows rule newer

-- when the check gives each of its answers
pub record Decides (rule : Rule) (file : List ℕ) : Type 0 where
  -- "20 for a file under 8 bytes, a total that differs from what precedes it, or one over 65,000"
  pub refuses_20 : (records_of rule file ≡ refused (number 20))
      ↔ ((length file < 8) ⊎ ((total_in file ≡ length file - 8 → ⊥) ⊎ (most < total_in file)))
  -- "then, at the newest faulty record, 21 for a trailer cut short or pointing before the start"
  pub refuses_21 : (records_of rule file ≡ refused (number 21))
      ↔ (Sized file × (place : ℕ) × Reached rule file place × ((place < 3) ⊎ (place - 3 < size_at file place)))
  -- "else 22 for an unknown kind or a kind 3 with a body"
  pub refuses_22 : (records_of rule file ≡ refused (number 22))
      ↔ (Sized file × (place : ℕ) × Reached rule file place × (3 ≤ place) × (size_at file place ≤ place - 3)
      × (rule (kind_at file place) (size_at file place) ≡ false))
  -- "then 23 wrong count"
  pub refuses_23 : (records_of rule file ≡ refused (number 23))
      ↔ (Sized file × (records : List LogRecord) × Follows rule records × (take (length file - 8) file ≡ joined records)
      × (length records ≡ count_in file → ⊥))
  -- served is the file of a list of good records, and no other; the list is given newest first
  pub serves : (records : List LogRecord) → (records_of rule file ≡ served (reverse records)) ↔ (Good rule records × (file ≡ log_of records))

-- what the writer does with a buffer that starts with the log of a list of records
pub record Adds (rule : Rule) (records : List LogRecord) (r : LogRecord) (buffer : List ℕ) : Type 0 where
  pub refuses_22 : rule r.kind (length r.body) ≡ false → append rule buffer (length (log_of records)) r ≡ (refused (number 22), buffer)
  pub refuses_12 : rule r.kind (length r.body) ≡ true → most < length (joined (records ++ (r ∷ [])))
      → append rule buffer (length (log_of records)) r ≡ (refused (number 12), buffer)
  pub refuses_1 : Good rule (records ++ (r ∷ [])) → length buffer < length (log_of (records ++ (r ∷ [])))
      → append rule buffer (length (log_of records)) r ≡ (refused (number 1), buffer)
  pub adds : Good rule (records ++ (r ∷ [])) → length (log_of (records ++ (r ∷ []))) ≤ length buffer
      → append rule buffer (length (log_of records)) r
      ≡ (served (length (log_of (records ++ (r ∷ [])))), overlay buffer 0 (log_of (records ++ (r ∷ []))))
  -- and what the buffer then holds is read back
  pub reads_back : Good rule (records ++ (r ∷ [])) → length (log_of (records ++ (r ∷ []))) ≤ length buffer
      → records_of rule (take (length (log_of (records ++ (r ∷ [])))) (append rule buffer (length (log_of records)) r).1)
      ≡ served (r ∷ reverse records)

-- the record that a row leads to
abbrev pub record_in : List ℕ → Row → LogRecord
record_in file row = recorded row.kind (take row.size (drop row.start file))

-- the rows that a call laid, and their numbers in the room
abbrev pub rows_in : Answered ℕ → ℕ
rows_in (served n) = n
rows_in (refused n) = 0

abbrev pub laid_in : Answered ℕ × List ℕ → List ℕ
laid_in outcome = take (3 * rows_in outcome.0) outcome.1

-- the numbers that a caller has who lists part after part, each time from the record after those that it has
unfoldable pub listed_on : Rule → List ℕ → ℕ → List (List ℕ) → List ℕ
listed_on rule file skip [] = []
listed_on rule file skip (room ∷ rooms) =
    laid_in (list rule file skip room) ++ listed_on rule file (skip + rows_in (list rule file skip room).0) rooms

pub record Logs (rule : Rule) : Type 0 where
  pub decides : (file : List ℕ) → Bytes file → Decides rule file
  -- a file is the log of one list of records only
  pub one_list : (xs ys : List LogRecord) → Good rule xs → Good rule ys → log_of xs ≡ log_of ys → xs ≡ ys
  -- "A log that passes the check is listed newest first, each record once": the records that its rows lead to are all of them, the newest
  -- first; and whoever lists on, with whatever room, has the rows from the newest on, none left out and none twice
  pub listed_once : (records : List LogRecord) → Good rule records → map (record_in (log_of records)) (rows_of (reverse records)) ≡ reverse records
  pub in_parts : (file : List ℕ) (listing : List LogRecord) → records_of rule file ≡ served listing → (rooms : List (List ℕ))
      → (n : ℕ) × (listed_on rule file 0 rooms ≡ numbers_of (take n (rows_of listing)))
  -- with room for a row, as many as fit are laid at its start, and all else in it is as it was: so it goes on as long as there is a row
  pub lays : (file : List ℕ) (listing : List LogRecord) → records_of rule file ≡ served listing → (skip : ℕ) (room : List ℕ)
      → skip < length listing → 3 ≤ length room
      → list rule file skip room
      ≡ (
        served (min (length room / 3) (length listing - skip)),
        overlay room 0 (numbers_of (take (length room / 3) (drop skip (rows_of listing)))),
      )
  -- "of any other nothing is shown"
  pub not-shown : (file : List ℕ) (n : Numbered) → records_of rule file ≡ refused n → (skip : ℕ) (room : List ℕ)
      → list rule file skip room ≡ (refused n, room)
  -- the writer: "1 first if past the buffer", "the check's refusals", then as `Adds` says
  pub past : (buffer : List ℕ) (size : ℕ) (r : LogRecord) → length buffer < size → append rule buffer size r ≡ (refused (number 1), buffer)
  pub no_log : (buffer : List ℕ) (size : ℕ) (r : LogRecord) (n : Numbered) → size ≤ length buffer → records_of rule (take size buffer) ≡ refused n
      → append rule buffer size r ≡ (refused n, buffer)
  pub added : (records : List LogRecord) (r : LogRecord) (buffer : List ℕ) → Good rule records
      → take (length (log_of records)) buffer ≡ log_of records → Adds rule records r buffer
