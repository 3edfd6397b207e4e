-- What a log is. 02 (v): "A record is its body, then a trailer of one kind byte and a two-byte big-endian body length, which points back
-- to the record's start. Kind 1 is request-side bytes, 2 reply-side bytes, 3 a silence mark (empty body). The file closes with eight
-- bytes: record count and total record bytes, both u32 big-endian, at most 65,000 total bytes."
use Rattle.std.specs.Prelude.{ℕ, ◌≤◌, ◌≡◌, Bool, true, ◌||◌, ◌&&◌, List, [], ◌∷◌, ◌++◌, eqb, length}
use Rattle.payload.specs.Field.{big_endian}

-- a record of a log
pub record LogRecord : Type 0 where
  pub kind : ℕ
  pub body : List ℕ

abbrev pub recorded : ℕ → List ℕ → LogRecord
recorded kind body = record { kind = kind; body = body }

-- which kinds there are, and how long their bodies may be: the kind, then the body's length
abbrev pub Rule : Type 0
Rule = ℕ → ℕ → Bool

unfoldable pub kinds : Rule
kinds kind size = eqb kind 1 || (eqb kind 2 || (eqb kind 3 && eqb size 0))

-- its body, its kind, and the body's length
unfoldable pub record_bytes : LogRecord → List ℕ
record_bytes r = r.body ++ (r.kind ∷ big_endian 2 (length r.body))

-- the records' bytes, the oldest first
unfoldable pub joined : List LogRecord → List ℕ
joined [] = []
joined (r ∷ records) = record_bytes r ++ joined records

-- the bytes that close a file: the count and the total
unfoldable pub closing : ℕ → ℕ → List ℕ
closing count total = big_endian 4 count ++ big_endian 4 total

-- the file of a list of records, the oldest first
unfoldable pub log_of : List LogRecord → List ℕ
log_of records = joined records ++ closing (length records) (length (joined records))

-- every record is of a kind that there is, with a body as long as that kind's may be
unfoldable pub Follows : Rule → List LogRecord → Type 0
Follows rule [] = Unit {0}
Follows rule (r ∷ records) = (rule r.kind (length r.body) ≡ true) × Follows rule records

-- the most bytes that a log's records may take together
abbrev pub most : ℕ
most = 65000

-- a list of records that can stand in a file
pub record Good (rule : Rule) (records : List LogRecord) : Type 0 where
  pub follows : Follows rule records
  pub within : length (joined records) ≤ most
