-- A text that is printed part after part, each as much as fits the room: what a part is, and the text so far.
use Rattle.std.proofs.Common.{◌≡◌, ◌+◌, ◌≤◌, ◌<◌, ◌++◌, ℕ, List, arith, length, take, drop, sym, ap, ◌∙◌, length-take, length-drop}
use lib.Seq.{take-add}
use Rattle.refusal.specs.Room.{overlay}
use Rattle.refusal.proofs.Room.{take-overlay}
use Rattle.wire_log.specs.Text.{window}
use Rattle.wire_log.proofs.Parts.{take-length}
use Rattle.wire_log.proofs.Printed.{part_kept}

module _ (text : List ℕ) {n : ℕ} {after : List ℕ} (from : ℕ) (room : List ℕ) (e : (n, after) ≡ window text from room) where
  -- what the room then holds
  shown : take n after ≡ take n (drop from text)
  shown =
      let part : List ℕ = take (length room) (drop from text) in
      let many : n ≡ length part = ap (λ (w : ℕ × List ℕ). w.0) e in
      let laid : after ≡ overlay room 0 part = ap (λ (w : ℕ × List ℕ). w.1) e in
      ap (λ (k : ℕ). take k after) many ∙ ap (take (length part)) laid ∙ take-overlay room part ∙ sym (ap (λ (k : ℕ). take k (drop from text)) many ∙ take-length (length room) (drop from text))

  -- a part is empty only where no text is left
  pub part_is : {size : ℕ} → 0 < size → from ≤ length text → length room ≡ size
      → (length after ≡ size) × (n ≤ size) × (from + n ≤ length text) × (take n after ≡ take n (drop from text)) × (n ≤ 0 → length text ≤ from)
  part_is some h long =
      let k = part_kept text from room e h in
      let many : n ≡ length (take (length room) (drop from text)) = ap (λ (w : ℕ × List ℕ). w.0) e in
      (omega (arith, k.1), omega (arith, k.0), k.2, shown, λ none. omega (arith, many, length-take (length room) (drop from text), length-drop from text))

-- the text so far, with a part behind it
pub text_so_far : (text : List ℕ) (from n : ℕ) {part : List ℕ} → part ≡ take n (drop from text) → take from text ++ part ≡ take (from + n) text
text_so_far text from n e = ap (λ (l : List ℕ). take from text ++ l) e ∙ sym (take-add from n text)
