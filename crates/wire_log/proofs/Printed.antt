-- The lines of a log, laid record by record. Assumes nothing.
use mathlib.Core.Path.{◌≡◌, refl, sym, ap, subst, ◌∙◌}
use mathlib.Core.List.{List, [], ◌∷◌, ◌++◌, reverse}
use Prim.Native.Nat.{ℕ, ◌+◌, ◌-◌, ◌*◌, ◌≤◌, ◌<◌}
use native.Mathlib.Omega.{arith}
use lib.ListN.{length, take, drop, length-append, length-take, length-drop}
use lib.Seq.{take-add, drop-drop, length-take-le}
use Rattle.refusal.specs.Refusals.{Numbered, number_in, Answered, served, refused}
use Rattle.refusal.specs.Room.{overlay}
use Rattle.refusal.proofs.Order.{refused_not_served}
use Rattle.refusal.proofs.Room.{length-overlay, take-overlay}
use Rattle.payload.specs.Field.{Bytes}
use Rattle.wire_log.specs.Log.{LogRecord, Rule, recorded, record_bytes, joined}
use Rattle.wire_log.specs.Check.{records_before, counting, records_of}
use Rattle.wire_log.specs.Text.{word_of, line_of, lines_of, refused_line, text_of, log_text, window, printed_on, Printed}
use Rattle.wire_log.specs.Private.{shown}
use Rattle.wire_log.proofs.Walk.{joined_newest}
use Rattle.wire_log.proofs.Tiling.{listed_is}
use Rattle.wire_log.proofs.Turns.{passed}
use Rattle.wire_log.proofs.Parts.{take-length}
use Rattle.wire_log.proofs.Lines.{length-line, lines_within, length_refused}
use Rattle.wire_log.proofs.Windows.{fitting, Laying, laying_start, laying_end, laying_on, window_is}

module _ (rule : Rule) (file : List ℕ) where
  text_is : (listing : List LogRecord) → records_of rule file ≡ served listing → log_text rule file ≡ lines_of listing
  unfolding log_text
  text_is listing e = ap text_of e

  -- of a file that is no log
  pub text_refused : {n : Numbered} → refused n ≡ counting (records_of rule file) → refused_line (number_in n) ≡ log_text rule file
  unfolding log_text
  text_refused h = go (records_of rule file) h
    where
      go : {n : Numbered} (a : Answered (List LogRecord)) → refused n ≡ counting a → refused_line (number_in n) ≡ text_of a
      go (served listing) e = absurd (refused_not_served e)
      go {n = m} (refused n) e = let z : m ≡ n = cc in rw z

  -- where the loop starts
  pub lines_start : (count : ℕ) → served count ≡ counting (records_of rule file) → (out : List ℕ) (from : ℕ)
      → Laying (lines_of (shown (records_before rule file (length file - 8)))) out 0 (take (length out) (drop from (log_text rule file))) out 0 from
  lines_start count checked out from =
      let p = passed rule file count checked in
      rw (p.before, text_is p.listing p.is) (laying_start (lines_of p.listing) out from)

-- one line more
module _ (room : List ℕ) (place : ℕ) (whole out : List ℕ) (o skip : ℕ) where
  pub lines_more : (r : LogRecord) (older : List LogRecord) {records : List LogRecord} {next more : ℕ} {after : List ℕ} → records ≡ r ∷ older
      → Laying (lines_of records) room place whole out o skip
      → (next ≡ o + length (fitting (line_of r) skip (length out) o)) × (after ≡ overlay out o (fitting (line_of r) skip (length out) o))
      → more ≡ skip - length (line_of r) → Laying (lines_of older) room place whole after next more
  unfolding lines_of
  lines_more r older e l w m =
      laying_on (line_of r) (lines_of older) room place whole out o skip (subst (λ (x : List LogRecord). Laying (lines_of x) room place whole out o skip) e l) w m

-- the length of a record's line, of a record found in a file
pub found-line : (kind start size : ℕ) (file : List ℕ) → start + size ≤ length file
    → length (word_of kind) + (3 * size + 1) ≡ length (line_of (recorded kind (take size (drop start file))))
found-line kind start size file h =
    let there : length (take size (drop start file)) ≡ size = length-take-le size (drop start file) (simp length-drop (omega arith)) in
    sym (length-line (recorded kind (take size (drop start file))) ∙ rw there)

-- no line is left
pub lines_over : (room whole out : List ℕ) (o skip : ℕ) (records : List LogRecord) → length records ≤ 0 → Laying (lines_of records) room 0 whole out o skip
    → ◌≡◌ {A = ℕ × List ℕ} (o, out) (length whole, overlay room 0 whole)
unfolding lines_of
lines_over room whole out o skip [] h l = window_is room whole out o (laying_end [] room 0 whole out o skip l (omega arith))
lines_over room whole out o skip (r ∷ records) h l = absurd (omega arith)

-- part after part of a text
module _ (text : List ℕ) where
  part_of : (from : ℕ) (room : List ℕ) → take (window text from room).0 (window text from room).1 ≡ take (window text from room).0 (drop from text)
  part_of from room =
      let part : List ℕ = take (length room) (drop from text) in
      take-overlay room part ∙ sym (take-length (length room) (drop from text))

  pub parts_from : (from : ℕ) (rooms : List (List ℕ)) → (n : ℕ) × (printed_on text from rooms ≡ take n (drop from text))
  unfolding printed_on
  parts_from from [] = (0, refl)
  parts_from from (room ∷ rooms) =
      let m : ℕ = (window text from room).0 in
      let rest = parts_from (from + m) rooms in
      let l : List ℕ = drop from text in
      let next : drop (from + m) text ≡ drop m l = sym (drop-drop m from text) in (
        m + rest.0,
        ap (λ (x : List ℕ). x ++ printed_on text (from + m) rooms) (part_of from room)
            ∙ ap (λ (x : List ℕ). take m l ++ x) (rest.1 ∙ ap (take rest.0) next)
            ∙ sym (take-add m rest.0 l),
      )

  pub on : (from : ℕ) (room : List ℕ) → from < length text → 0 < length room → 0 < (window text from room).0
  on from room h k = omega (arith, length-take (length room) (drop from text), length-drop from text)

  -- a part ends within its text
  pub part_within : (from : ℕ) (room : List ℕ) → from ≤ length text → from + (window text from room).0 ≤ length text
  part_within from room h = omega (arith, length-take (length room) (drop from text), length-drop from text)

  -- what a call for a part leaves: it is within the room and within the text
  pub part_kept : {n : ℕ} {after : List ℕ} (from : ℕ) (room : List ℕ) → (n, after) ≡ window text from room → from ≤ length text
      → (n ≤ length room) × (length after ≡ length room) × (from + n ≤ length text)
  part_kept {n} {after} from room e h =
      let part : List ℕ = take (length room) (drop from text) in
      let many : n ≡ length part = ap (λ (w : ℕ × List ℕ). w.0) e in
      let short : length part ≤ length room = omega (arith, length-take (length room) (drop from text)) in
      let kept : length after ≡ length room = ap (λ (w : ℕ × List ℕ). length w.1) e ∙ length-overlay room 0 part (omega arith) in
      (omega arith, kept, omega (arith, part_within from room h))

length-joined : (listing : List LogRecord) → length (joined (reverse listing)) ≡ length (joined listing)
unfolding joined
length-joined [] = refl
length-joined (r ∷ older) =
    ap length (joined_newest r older) ∙ omega (arith, length-append (joined (reverse older)) (record_bytes r), length-joined older, length-append (record_bytes r) (joined older))

module _ (rule : Rule) (file : List ℕ) (bytes : Bytes file) where
  pub text_short : length (log_text rule file) ≤ 195000
  unfolding log_text
  text_short = go (records_of rule file) refl
    where
      go : (a : Answered (List LogRecord)) → records_of rule file ≡ a → length (text_of a) ≤ 195000
      go (refused n) e = omega (arith, length_refused (number_in n))
      go (served listing) e = omega (arith, lines_within listing, length-joined listing, (listed_is rule file bytes listing e).0.within)

pub printed : (rule : Rule) → Printed rule
printed rule = record {
  lines = λ file listing e. text_is rule file listing e;
  not-shown = λ file n e. sym (text_refused rule file (ap counting (sym e)));
  begins = λ file rooms. parts_from (log_text rule file) 0 rooms;
  goes_on = λ file from room h k. on (log_text rule file) from room h k;
  ends = λ file bytes. text_short rule file bytes;
}
