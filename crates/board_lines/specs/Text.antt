-- The text that the program replay prints of a board's list, in the words of the supervisory example (host/example/handover.c: print_head,
-- print_entry, node_words); of a refusal the one line `refused 19`. ASCII, each line ended by a line feed.
use Rattle.std.specs.Prelude.{ℕ, ◌+◌, ◌/◌, ◌%◌, ◌≤◌, ◌<◌, Bool, cond, List, [], ◌∷◌, ◌++◌, ltb, eqb, length, Result, Ok, Err}
use Rattle.arrayvec.specs.ArrayVec.{ArrayVec}
use Rattle.refusal.specs.declared.Refusal.{Refusal}
use Rattle.refusal.specs.Refusals.{number_of}
use Rattle.refusal.specs.Room.{overlay}
use Rattle.board.specs.declared.entries.Entry.{Entry}
use Rattle.board.specs.Entries.{count}
use Rattle.lines.specs.Text.{decimal, refused_word}

-- ---- the words
-- `handover board: `
abbrev pub board_word : List ℕ
board_word = 104 ∷ 97 ∷ 110 ∷ 100 ∷ 111 ∷ 118 ∷ 101 ∷ 114 ∷ 32 ∷ 98 ∷ 111 ∷ 97 ∷ 114 ∷ 100 ∷ 58 ∷ 32 ∷ []

-- `empty`
abbrev pub empty_word : List ℕ
empty_word = 101 ∷ 109 ∷ 112 ∷ 116 ∷ 121 ∷ []

-- ` entry`
abbrev pub entry_word : List ℕ
entry_word = 32 ∷ 101 ∷ 110 ∷ 116 ∷ 114 ∷ 121 ∷ []

-- ` entries`
abbrev pub entries_word : List ℕ
entries_word = 32 ∷ 101 ∷ 110 ∷ 116 ∷ 114 ∷ 105 ∷ 101 ∷ 115 ∷ []

-- ` (full)`
abbrev pub full_word : List ℕ
full_word = 32 ∷ 40 ∷ 102 ∷ 117 ∷ 108 ∷ 108 ∷ 41 ∷ []

-- `, none due` and a line feed
abbrev pub none_due_word : List ℕ
none_due_word = 44 ∷ 32 ∷ 110 ∷ 111 ∷ 110 ∷ 101 ∷ 32 ∷ 100 ∷ 117 ∷ 101 ∷ 10 ∷ []

-- `, `
abbrev pub comma_word : List ℕ
comma_word = 44 ∷ 32 ∷ []

-- ` DUE` and a line feed
abbrev pub due_word : List ℕ
due_word = 32 ∷ 68 ∷ 85 ∷ 69 ∷ 10 ∷ []

-- `  I2C `
abbrev pub i2c_word : List ℕ
i2c_word = 32 ∷ 32 ∷ 73 ∷ 50 ∷ 67 ∷ 32 ∷ []

-- `  serial `
abbrev pub serial_word : List ℕ
serial_word = 32 ∷ 32 ∷ 115 ∷ 101 ∷ 114 ∷ 105 ∷ 97 ∷ 108 ∷ 32 ∷ []

-- `: valve forced shut, `
abbrev pub valve_word : List ℕ
valve_word = 58 ∷ 32 ∷ 118 ∷ 97 ∷ 108 ∷ 118 ∷ 101 ∷ 32 ∷ 102 ∷ 111 ∷ 114 ∷ 99 ∷ 101 ∷ 100 ∷ 32 ∷ 115 ∷ 104 ∷ 117 ∷ 116 ∷ 44 ∷ 32 ∷ []

-- `: temporary calibration, `
abbrev pub calibration_word : List ℕ
calibration_word =
    58 ∷ 32 ∷ 116 ∷ 101 ∷ 109 ∷ 112 ∷ 111 ∷ 114 ∷ 97 ∷ 114 ∷ 121 ∷ 32 ∷ 99 ∷ 97 ∷ 108 ∷ 105 ∷ 98 ∷ 114 ∷ 97 ∷ 116 ∷ 105 ∷ 111
    ∷ 110 ∷ 44 ∷ 32 ∷ []

-- `DUE: return it to normal control, or renew it` and a line feed
abbrev pub valve_due_word : List ℕ
valve_due_word =
    68 ∷ 85 ∷ 69 ∷ 58 ∷ 32 ∷ 114 ∷ 101 ∷ 116 ∷ 117 ∷ 114 ∷ 110 ∷ 32 ∷ 105 ∷ 116 ∷ 32 ∷ 116 ∷ 111 ∷ 32 ∷ 110 ∷ 111 ∷ 114 ∷ 109
    ∷ 97 ∷ 108 ∷ 32 ∷ 99 ∷ 111 ∷ 110 ∷ 116 ∷ 114 ∷ 111 ∷ 108 ∷ 44 ∷ 32 ∷ 111 ∷ 114 ∷ 32 ∷ 114 ∷ 101 ∷ 110 ∷ 101 ∷ 119 ∷ 32 ∷ 105
    ∷ 116 ∷ 10 ∷ []

-- `DUE: set a calibration for good, restart the controller, or renew it` and a line feed
abbrev pub calibration_due_word : List ℕ
calibration_due_word =
    68 ∷ 85 ∷ 69 ∷ 58 ∷ 32 ∷ 115 ∷ 101 ∷ 116 ∷ 32 ∷ 97 ∷ 32 ∷ 99 ∷ 97 ∷ 108 ∷ 105 ∷ 98 ∷ 114 ∷ 97 ∷ 116 ∷ 105 ∷ 111 ∷ 110 ∷ 32
    ∷ 102 ∷ 111 ∷ 114 ∷ 32 ∷ 103 ∷ 111 ∷ 111 ∷ 100 ∷ 44 ∷ 32 ∷ 114 ∷ 101 ∷ 115 ∷ 116 ∷ 97 ∷ 114 ∷ 116 ∷ 32 ∷ 116 ∷ 104 ∷ 101 ∷ 32
    ∷ 99 ∷ 111 ∷ 110 ∷ 116 ∷ 114 ∷ 111 ∷ 108 ∷ 108 ∷ 101 ∷ 114 ∷ 44 ∷ 32 ∷ 111 ∷ 114 ∷ 32 ∷ 114 ∷ 101 ∷ 110 ∷ 101 ∷ 119 ∷ 32
    ∷ 105 ∷ 116 ∷ 10 ∷ []

-- ` poll left` and a line feed
abbrev pub poll_word : List ℕ
poll_word = 32 ∷ 112 ∷ 111 ∷ 108 ∷ 108 ∷ 32 ∷ 108 ∷ 101 ∷ 102 ∷ 116 ∷ 10 ∷ []

-- ` polls left` and a line feed
abbrev pub polls_word : List ℕ
polls_word = 32 ∷ 112 ∷ 111 ∷ 108 ∷ 108 ∷ 115 ∷ 32 ∷ 108 ∷ 101 ∷ 102 ∷ 116 ∷ 10 ∷ []

-- ---- the line of an entry: `  serial 12: temporary calibration, 1 poll left`
-- 0 to 9, A to F
unfoldable pub hex_digit : ℕ → ℕ
hex_digit d = cond (ltb d 10) (48 + d) (55 + d)

-- two digits
unfoldable pub hex_byte : ℕ → List ℕ
hex_byte b = hex_digit (b / 16) ∷ hex_digit (b % 16) ∷ []

-- bus 1 is I2C, any other serial
unfoldable pub node_text : ℕ → ℕ → List ℕ
node_text bus address = cond (eqb bus 1) (i2c_word ++ hex_byte address) (serial_word ++ decimal address)

-- kind 1 is a valve, any other a calibration
unfoldable pub kind_text : ℕ → List ℕ
kind_text kind = cond (eqb kind 1) valve_word calibration_word

unfoldable pub due_text : ℕ → List ℕ
due_text kind = cond (eqb kind 1) valve_due_word calibration_due_word

unfoldable pub polls_text : ℕ → List ℕ
polls_text left = decimal left ++ cond (eqb left 1) poll_word polls_word

unfoldable pub left_text : ℕ → ℕ → List ℕ
left_text kind left = cond (eqb left 0) (due_text kind) (polls_text left)

unfoldable pub entry_line : Entry → List ℕ
entry_line e = (node_text e.bus e.address ++ kind_text e.kind) ++ left_text e.kind e.left

unfoldable pub entry_lines : List Entry → List ℕ
entry_lines [] = []
entry_lines (e ∷ entries) = entry_line e ++ entry_lines entries

-- ---- the line above them: `handover board: 2 entries, 1 DUE`
abbrev pub is_due : Entry → Bool
is_due e = eqb e.left 0

unfoldable pub count_text : ℕ → List ℕ
count_text n = cond (eqb n 0) empty_word (decimal n ++ cond (eqb n 1) entry_word entries_word)

unfoldable pub full_text : ℕ → List ℕ
full_text n = cond (eqb n 32) full_word []

unfoldable pub due_count : ℕ → ℕ → List ℕ
due_count n due = cond (eqb due 0) (cond (eqb n 0) (10 ∷ []) none_due_word) ((comma_word ++ decimal due) ++ due_word)

-- of n entries, of which so many are due
unfoldable pub head_line : ℕ → ℕ → List ℕ
head_line n due = ((board_word ++ count_text n) ++ full_text n) ++ due_count n due

-- ---- the whole
unfoldable pub board_lines : List Entry → List ℕ
board_lines entries = head_line (length entries) (count is_due entries) ++ entry_lines entries

unfoldable pub refused_line : ℕ → List ℕ
refused_line n = (refused_word ++ decimal n) ++ (10 ∷ [])

-- of a list's answer: the refusal's number, 0 for none, and the entries
unfoldable pub board_text : ℕ → List Entry → List ℕ
board_text refusal entries = cond (eqb refusal 0) (board_lines entries) (refused_line refusal)

-- of a list by value, or the refusal in its place
abbrev pub list_text : Result (ArrayVec Entry) Refusal → List ℕ
list_text (Ok list) = board_text 0 list.items
list_text (Err why) = board_text (number_of why) []

-- a text at the start of lent room, where it fits, and its length; else 0, and the room as it was
unfoldable pub laid_in : List ℕ → List ℕ → ℕ × List ℕ
laid_in text room = cond (ltb (length room) (length text)) (0, room) (length text, overlay room 0 text)

-- ---- the claim
-- the numbers in entries are such as C's types hold
abbrev pub Held : List Entry → Type 0
Held [] = Unit {0}
Held (e ∷ entries) = (e.address < 256) × (e.left < 65536) × Held entries

-- The claim about the text. The proof is `fits` of proofs/Sizes.antt.
pub record Fits : Type 0 where
  -- with up to 32 entries it fits the program's room
  pub in_room : (refusal : ℕ) (entries : List Entry) → refusal < 256 → length entries ≤ 32 → Held entries
      → length (board_text refusal entries) ≤ 4096
  -- it is never empty, so that 0 says that a text did not fit
  pub some : (refusal : ℕ) (entries : List Entry) → 0 < length (board_text refusal entries)
