-- How long the parts of the text are, and the whole. Assumes nothing.
use Prim.Native.Nat.{ℕ, suc, ◌*◌, ◌≤◌, ◌<◌}
use native.Mathlib.Omega.{arith}
use mathlib.Core.Bool.{Bool, true, false, cond}
use mathlib.Core.List.{List, [], ◌∷◌, ◌++◌}
use lib.Dec.{eqb}
use lib.ListN.{length, length-append}
use Rattle.board.specs.declared.entries.Entry.{Entry}
use Rattle.board.specs.Entries.{count}
use Rattle.lines.specs.Text.{decimal}
use Rattle.lines.proofs.Decimal.{decimal-two, decimal_byte, decimal_u16}
use Rattle.board_lines.specs.Text.{empty_word, entry_word, entries_word, full_word, none_due_word, comma_word, due_word, i2c_word, serial_word, valve_word, calibration_word, valve_due_word, calibration_due_word, poll_word, polls_word, hex_byte, node_text, kind_text, due_text, polls_text, left_text, entry_line, entry_lines, is_due, count_text, full_text, due_count, head_line, board_lines, refused_line, board_text, Held, Fits}

pub node_short : (bus address : ℕ) → address < 256 → length (node_text bus address) ≤ 12
unfolding node_text hex_byte
node_short bus address h = go (eqb bus 1)
  where
    go : (t : Bool) → length (cond t (i2c_word ++ hex_byte address) (serial_word ++ decimal address)) ≤ 12
    go true = omega arith
    go false = omega (arith, decimal_byte address h)

pub kind_short : (kind : ℕ) → length (kind_text kind) ≤ 25
unfolding kind_text
kind_short kind = go (eqb kind 1)
  where
    go : (t : Bool) → length (cond t valve_word calibration_word) ≤ 25
    go true = omega arith
    go false = omega arith

pub due_short : (kind : ℕ) → length (due_text kind) ≤ 69
unfolding due_text
due_short kind = go (eqb kind 1)
  where
    go : (t : Bool) → length (cond t valve_due_word calibration_due_word) ≤ 69
    go true = omega arith
    go false = omega arith

pub polls_short : (left : ℕ) → left < 65536 → length (polls_text left) ≤ 17
unfolding polls_text
polls_short left h = go (eqb left 1)
  where
    go : (t : Bool) → length (decimal left ++ cond t poll_word polls_word) ≤ 17
    go true = rw length-append (omega (arith, decimal_u16 left h))
    go false = rw length-append (omega (arith, decimal_u16 left h))

pub left_short : (kind left : ℕ) → left < 65536 → length (left_text kind left) ≤ 69
unfolding left_text
left_short kind left h = go (eqb left 0)
  where
    go : (t : Bool) → length (cond t (due_text kind) (polls_text left)) ≤ 69
    go true = due_short kind
    go false = omega (arith, polls_short left h)

pub entry_short : (e : Entry) → e.address < 256 → e.left < 65536 → length (entry_line e) ≤ 106
unfolding entry_line
entry_short e h g =
    simp length-append (omega (arith, node_short e.bus e.address h, kind_short e.kind, left_short e.kind e.left g))

lines_short : (entries : List Entry) → Held entries → length (entry_lines entries) ≤ 106 * length entries
unfolding entry_lines
lines_short [] h = omega arith
lines_short (e ∷ entries) h =
    simp length-append (omega (arith, entry_short e h.0 h.1, lines_short entries h.2))

pub count_short : (n : ℕ) → n ≤ 32 → length (count_text n) ≤ 10
unfolding count_text
count_short n h = go (eqb n 0) (eqb n 1)
  where
    go : (t u : Bool) → length (cond t empty_word (decimal n ++ cond u entry_word entries_word)) ≤ 10
    go true u = omega arith
    go false true = rw length-append (omega (arith, decimal-two n (omega arith)))
    go false false = rw length-append (omega (arith, decimal-two n (omega arith)))

pub full_short : (n : ℕ) → length (full_text n) ≤ 7
unfolding full_text
full_short n = go (eqb n 32)
  where
    go : (t : Bool) → length (cond t full_word []) ≤ 7
    go true = omega arith
    go false = omega arith

pub due_count_short : (n due : ℕ) → due ≤ 32 → length (due_count n due) ≤ 11
unfolding due_count
due_count_short n due h = go (eqb due 0) (eqb n 0)
  where
    go : (t u : Bool) → length (cond t (cond u (10 ∷ []) none_due_word) ((comma_word ++ decimal due) ++ due_word)) ≤ 11
    go true true = omega arith
    go true false = omega arith
    go false u = simp length-append (omega (arith, decimal-two due (omega arith)))

pub head_short : (n due : ℕ) → n ≤ 32 → due ≤ 32 → length (head_line n due) ≤ 44
unfolding head_line
head_short n due h g = simp length-append (omega (arith, count_short n h, full_short n, due_count_short n due g))

pub refused_short : (n : ℕ) → n < 256 → length (refused_line n) ≤ 12
unfolding refused_line
refused_short n h = simp length-append (omega (arith, decimal_byte n h))

pub count_within : (f : Entry → Bool) (entries : List Entry) → count f entries ≤ length entries
unfolding count
count_within f [] = omega arith
count_within f (e ∷ entries) = go (f e) (count_within f entries)
  where
    go : (t : Bool) → count f entries ≤ length entries → cond {A = ℕ} t (suc (count f entries)) (count f entries) ≤ suc (length entries)
    go true h = omega arith
    go false h = omega arith

pub board_short : (entries : List Entry) → length entries ≤ 32 → Held entries → length (board_lines entries) ≤ 3436
unfolding board_lines
board_short entries h g =
    simp length-append (omega (
      arith,
      head_short (length entries) (count is_due entries) h (omega (arith, count_within is_due entries)),
      lines_short entries g,
    ))

-- for the functions that append: the most bytes of a number, and of the parts of a line
pub ruleset number = (decimal-two, decimal_byte, decimal_u16)

pub ruleset parts = (node_short, kind_short, due_short, polls_short)

pub ruleset heads = (count_short, full_short, due_count_short)

module _ (refusal : ℕ) (entries : List Entry) where
  text_short : refusal < 256 → length entries ≤ 32 → Held entries → length (board_text refusal entries) ≤ 4096
  unfolding board_text
  text_short r h g = go (eqb refusal 0)
    where
      go : (t : Bool) → length (cond t (board_lines entries) (refused_line refusal)) ≤ 4096
      go true = omega (arith, board_short entries h g)
      go false = omega (arith, refused_short refusal r)

  text_some : 0 < length (board_text refusal entries)
  unfolding board_text board_lines head_line refused_line
  text_some = go (eqb refusal 0)
    where
      go : (t : Bool) → 0 < length (cond t (board_lines entries) (refused_line refusal))
      go true = omega arith
      go false = omega arith

pub fits : Fits
fits = record { in_room = text_short; some = text_some }
