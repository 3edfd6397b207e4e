-- The line of a record, laid piece after piece. Assumes nothing.
use mathlib.Core.Path.{◌≡◌, refl, sym, subst, ap, ◌∙◌}
use mathlib.Core.List.{List, [], ◌∷◌, ◌++◌, append_assoc}
use Prim.Native.Nat.{ℕ, ◌+◌, ◌-◌, ◌*◌, ◌/◌, min, ◌≤◌, ◌<◌}
use native.Mathlib.Omega.{arith}
use lib.Seq.{take_all}
use lib.ListN.{length, get_or, take, drop, set, length-take, take-append-drop}
use Rattle.refusal.specs.Room.{overlay}
use Rattle.refusal.proofs.Rest.{rest_here, rest_end}
use Rattle.wire_log.specs.Log.{recorded}
use Rattle.wire_log.specs.Text.{word_of, hex_byte, hex_bytes, line_of}
use Rattle.wire_log.proofs.Rows.{set-row}
use Rattle.wire_log.proofs.Lines.{length_hex}
use Rattle.wire_log.proofs.Written.{rest_from}
use Rattle.wire_log.proofs.Windows.{fitting, Laying, laying_at, laying_on, laying_past, laying_end}

-- what `put_from` did
abbrev Put : List ℕ → List ℕ → ℕ → ℕ → List ℕ → ℕ → Type 0
Put text out o skip after next = (next ≡ o + length (fitting text skip (length out) o)) × (after ≡ overlay out o (fitting text skip (length out) o))

-- three bytes stored one by one, where all three fit
pub three_stored : (out : List ℕ) (o skip a b c : ℕ) {next : ℕ} {after : List ℕ} → skip ≡ 0 → 3 ≤ length out - o → next ≡ o + 3
    → after ≡ set (set (set out o a) (o + 1) b) (o + 2) c → Put (a ∷ b ∷ c ∷ []) out o skip after next
three_stored out o skip a b c e h n s =
    let fits : fitting (a ∷ b ∷ c ∷ []) skip (length out) o ≡ a ∷ b ∷ c ∷ [] =
    ap (λ (k : ℕ). take (length out - o) (drop k (a ∷ b ∷ c ∷ []))) e ∙ take_all (length out - o) (a ∷ b ∷ c ∷ []) h in
    (n ∙ ap (λ (l : List ℕ). o + length l) (sym fits), s ∙ set-row out o a b c (omega arith) ∙ ap (overlay out o) (sym fits))

abbrev pub rest_of : List ℕ → ℕ → List ℕ
rest_of body i = hex_bytes (drop i body) ++ (10 ∷ [])

pub word_laid : (kind : ℕ) (body room word : List ℕ) (place skip : ℕ) {next left : ℕ} {after : List ℕ} → place ≤ length room → word ≡ word_of kind
    → Put word room place skip after next → left ≡ skip - length word
    → Laying (rest_of body 0) room place (fitting (line_of (recorded kind body)) skip (length room) place) after next left
unfolding line_of
word_laid kind body room word place skip h e w m =
    let whole = fitting (line_of (recorded kind body)) skip (length room) place in
    let all : Laying (word ++ rest_of body 0) room place whole room place skip =
    subst (λ (l : List ℕ). Laying l room place whole room place skip) (ap (λ (l : List ℕ). l ++ rest_of body 0) (sym e)) (laying_at (line_of (recorded kind body)) room place skip h) in
    laying_on word (rest_of body 0) room place whole room place skip all w m

hex_append : (a b : List ℕ) → hex_bytes (a ++ b) ≡ hex_bytes a ++ hex_bytes b
unfolding hex_bytes
hex_append [] b = refl
hex_append (x ∷ a) b = ap (λ (l : List ℕ). hex_byte x ++ l) (hex_append a b) ∙ sym (append_assoc (hex_byte x) (hex_bytes a) (hex_bytes b))

-- bytes of which no digit is laid are left out
pub bytes_skipped : (body room whole out : List ℕ) (place o skip n left : ℕ) → n ≡ min (length body) (skip / 3) → left ≡ skip - 3 * n
    → Laying (rest_of body 0) room place whole out o skip → Laying (rest_of (take (length body - n) (drop n body)) 0) room place whole out o left
bytes_skipped body room whole out place o skip n left e m all =
    let a : List ℕ = take n body in
    let rest : take (length body - n) (drop n body) ≡ drop n body = rest_from n body in
    let parts : rest_of body 0 ≡ hex_bytes a ++ rest_of (take (length body - n) (drop n body)) 0 =
    ap (λ (l : List ℕ). hex_bytes l ++ (10 ∷ [])) (sym (take-append-drop n body)) ∙ ap (λ (l : List ℕ). l ++ (10 ∷ [])) (hex_append a (drop n body))
    ∙ append_assoc (hex_bytes a) (hex_bytes (drop n body)) (10 ∷ []) ∙ ap (λ (l : List ℕ). hex_bytes a ++ (hex_bytes l ++ (10 ∷ []))) (sym rest) in
    let size : length (hex_bytes a) ≡ 3 * n = omega (arith, length_hex a, length-take n body) in
    laying_past (hex_bytes a) _ room place whole out o skip (subst (λ (l : List ℕ). Laying l room place whole out o skip) parts all) (omega arith) (omega arith)

module _ (body room whole out : List ℕ) (place o skip i : ℕ) (all : Laying (rest_of body i) room place whole out o skip) where
  pub byte_laid : i < length body → {next left : ℕ} {after hex : List ℕ} → hex ≡ hex_byte (get_or body i 0) → Put hex out o skip after next → left ≡ skip - 3
      → Laying (rest_of body (i + 1)) room place whole after next left
  unfolding hex_bytes hex_byte
  byte_laid h {hex = hex} e w m =
      let here : rest_of body i ≡ hex ++ rest_of body (i + 1) =
      ap (λ (l : List ℕ). hex_bytes l ++ (10 ∷ [])) (rest_here body i h) ∙ append_assoc (hex_byte (get_or body i 0)) (hex_bytes (drop (i + 1) body)) (10 ∷ [])
      ∙ ap (λ (l : List ℕ). l ++ rest_of body (i + 1)) (sym e) in
      laying_on hex (rest_of body (i + 1)) room place whole out o skip (subst (λ (l : List ℕ). Laying l room place whole out o skip) here all) w
      (m ∙ ap (λ (n : ℕ). skip - n) (sym (ap (λ (l : List ℕ). length l) e)))

  pub line_ended : length body ≤ i → {r : ℕ} {after : List ℕ} → Put (10 ∷ []) out o skip after r → (r ≡ place + length whole) × (after ≡ overlay room place whole)
  unfolding hex_bytes
  line_ended h {r} {after} w =
      let last : rest_of body i ≡ (10 ∷ []) ++ [] = ap (λ (l : List ℕ). hex_bytes l ++ (10 ∷ [])) (rest_end body i h) in
      let end : Laying [] room place whole after r (skip - 1) =
      laying_on (10 ∷ []) [] room place whole out o skip (subst (λ (l : List ℕ). Laying l room place whole out o skip) last all) w refl in
      laying_end [] room place whole after r (skip - 1) end (omega arith)
