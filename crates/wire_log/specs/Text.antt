-- The lines that the program shift-log prints of a log, newest first. ASCII, each line ended by a line feed:
-- `request 7E 00 45 00 BA 7E`, `reply ..`, `silence`; of a file that is no log the one line `refused 21`.
use Rattle.std.specs.Prelude.{ℕ, ◌+◌, ◌/◌, ◌%◌, ◌≤◌, ◌<◌, ◌≡◌, cond, List, [], ◌∷◌, ◌++◌, ltb, eqb, length, take, drop}
use Rattle.refusal.specs.Refusals.{Numbered, number_in, Answered, served, refused}
use Rattle.refusal.specs.Room.{overlay}
use Rattle.payload.specs.Field.{Bytes}
use Rattle.wire_log.specs.Log.{LogRecord, Rule}
use Rattle.wire_log.specs.Check.{records_of}

-- request, reply, silence, and refused with a space
abbrev pub request_word : List ℕ
request_word = 114 ∷ 101 ∷ 113 ∷ 117 ∷ 101 ∷ 115 ∷ 116 ∷ []

abbrev pub reply_word : List ℕ
reply_word = 114 ∷ 101 ∷ 112 ∷ 108 ∷ 121 ∷ []

abbrev pub silence_word : List ℕ
silence_word = 115 ∷ 105 ∷ 108 ∷ 101 ∷ 110 ∷ 99 ∷ 101 ∷ []

abbrev pub refused_word : List ℕ
refused_word = 114 ∷ 101 ∷ 102 ∷ 117 ∷ 115 ∷ 101 ∷ 100 ∷ 32 ∷ []

unfoldable pub word_of : ℕ → List ℕ
word_of kind = cond (eqb kind 1) request_word (cond (eqb kind 2) reply_word silence_word)

-- 0 to 9, A to F
unfoldable pub hex_digit : ℕ → ℕ
hex_digit d = cond (ltb d 10) (48 + d) (55 + d)

-- a space and a byte in hexadecimal
unfoldable pub hex_byte : ℕ → List ℕ
hex_byte b = 32 ∷ hex_digit (b / 16) ∷ hex_digit (b % 16) ∷ []

unfoldable pub hex_bytes : List ℕ → List ℕ
hex_bytes [] = []
hex_bytes (b ∷ bytes) = hex_byte b ++ hex_bytes bytes

-- the line of a record
unfoldable pub line_of : LogRecord → List ℕ
line_of r = word_of r.kind ++ (hex_bytes r.body ++ (10 ∷ []))

unfoldable pub lines_of : List LogRecord → List ℕ
lines_of [] = []
lines_of (r ∷ records) = line_of r ++ lines_of records

-- the line of a refusal; the check's numbers, 20 to 23, have two digits
unfoldable pub refused_line : ℕ → List ℕ
refused_line n = refused_word ++ ((48 + n / 10) ∷ (48 + n % 10) ∷ 10 ∷ [])

abbrev pub text_of : Answered (List LogRecord) → List ℕ
text_of (served records) = lines_of records
text_of (refused n) = refused_line (number_in n)

-- all that is printed of a file
unfoldable pub log_text : Rule → List ℕ → List ℕ
log_text rule file = text_of (records_of rule file)

-- a part of a text in lent room: as much as fits, from a place of the text on; how much it is, and what the room then holds
abbrev pub part_from : List ℕ → ℕ → List ℕ → List ℕ
part_from text from room = take (length room) (drop from text)

abbrev pub window : List ℕ → ℕ → List ℕ → ℕ × List ℕ
window text from room = (length (part_from text from room), overlay room 0 (part_from text from room))

-- what a caller has who asks for part after part, each time from the place after what it has
unfoldable pub printed_on : List ℕ → ℕ → List (List ℕ) → List ℕ
printed_on text from [] = []
printed_on text from (room ∷ rooms) =
    take (window text from room).0 (window text from room).1 ++ printed_on text (from + (window text from room).0) rooms

-- The claim about the parts of a text. The proof is `printed` of proofs/Printed.antt.
pub record Printed (rule : Rule) : Type 0 where
  -- of a log the lines of its records, the newest first; of any other file the one line
  pub lines : (file : List ℕ) (listing : List LogRecord) → records_of rule file ≡ served listing → log_text rule file ≡ lines_of listing
  pub not-shown : (file : List ℕ) (n : Numbered) → records_of rule file ≡ refused n → log_text rule file ≡ refused_line (number_in n)
  -- whatever the room, they are its beginning, nothing left out and nothing twice
  pub begins : (file : List ℕ) (rooms : List (List ℕ)) → (n : ℕ) × (printed_on (log_text rule file) 0 rooms ≡ take n (log_text rule file))
  -- with room for a byte it goes on as long as there is one
  pub goes_on : (file : List ℕ) (from : ℕ) (room : List ℕ) → from < length (log_text rule file) → 0 < length room
      → 0 < (window (log_text rule file) from room).0
  -- and it ends: no text of a file is longer than 195,000 bytes
  pub ends : (file : List ℕ) → Bytes file → length (log_text rule file) ≤ 195000
