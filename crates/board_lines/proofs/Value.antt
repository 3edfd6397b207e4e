-- The number that digits say, with a limit: digit by digit. Assumes nothing.
use Prim.Native.Nat.{ℕ, ◌+◌, ◌-◌, ◌*◌, ◌≤◌, ◌<◌, min}
use native.Mathlib.Omega.{arith}
use mathlib.Core.Path.{◌≡◌, refl, sym, ap, ◌∙◌}
use mathlib.Core.Bool.{Bool, true, false}
use mathlib.Core.List.{List, [], ◌∷◌}
use lib.Dec.{ltb}
use borrow.Author.Tests.{ltb-true, ltb-false, le-leb}
use lib.ListN.{length, get_or, drop}
use Rattle.refusal.proofs.Rest.{rest_here, rest_end}
use Rattle.board_lines.specs.Lease.{is_digit, all_digits, value_from, lease_of}

at_least : (text : List ℕ) (n : ℕ) → n ≤ value_from n text
unfolding value_from
at_least [] n = omega arith
at_least (b ∷ text) n = omega (arith, at_least text (n * 10 + (b - 48)))

-- a number over the limit stays over it
cap : (text : List ℕ) (n : ℕ) → min 65536 (value_from (min 65536 n) text) ≡ min 65536 (value_from n text)
cap text n = go (ltb 65536 n) refl
  where
    go : (t : Bool) → ltb 65536 n ≡ t → min 65536 (value_from (min 65536 n) text) ≡ min 65536 (value_from n text)
    go true h = omega (arith, ltb-true 65536 n h, at_least text n, at_least text (min 65536 n))
    go false h = let same : min 65536 n ≡ n = omega (arith, ltb-false 65536 n h) in rw same

-- where the loop stands: what is left says what the whole says
pub record Reading (text : List ℕ) (n i : ℕ) : Type 0 where
  pub within : i ≤ length text
  pub small : n ≤ 65536
  pub digits : all_digits (drop i text) ≡ all_digits text
  pub value : min 65536 (value_from n (drop i text)) ≡ min 65536 (value_from 0 text)

module _ (text : List ℕ) (n i : ℕ) (r : Reading text n i) where
  pub reading_more : i < length text → 48 ≤ get_or text i 0 → get_or text i 0 ≤ 57 → (m : ℕ) → m ≡ min (n * 10 + (get_or text i 0 - 48)) 65536
      → Reading text m (i + 1)
  unfolding all_digits value_from is_digit
  reading_more h low high m e =
      let b : ℕ = get_or text i 0 in
      let here = rest_here text i h in
      let all : all_digits (b ∷ drop (i + 1) text) ≡ all_digits text = ap all_digits (sym here) ∙ r.digits in
      let said : min 65536 (value_from n (b ∷ drop (i + 1) text)) ≡ min 65536 (value_from 0 text) =
      ap (λ (l : List ℕ). min 65536 (value_from n l)) (sym here) ∙ r.value in
      let f : m ≡ min 65536 (n * 10 + (b - 48)) = omega (arith, e) in
      record {
        within = omega arith;
        small = omega (arith, f);
        digits = rw (le-leb 48 b low, le-leb b 57 high) at all;
        value = ap (λ (k : ℕ). min 65536 (value_from k (drop (i + 1) text))) f ∙ cap (drop (i + 1) text) (n * 10 + (b - 48)) ∙ said;
      }

  pub reading_other : i < length text → is_digit (get_or text i 0) ≡ false → 0 ≡ lease_of text
  unfolding all_digits lease_of
  reading_other h wrong =
      let here = rest_here text i h in
      let all : all_digits (get_or text i 0 ∷ drop (i + 1) text) ≡ all_digits text = ap all_digits (sym here) ∙ r.digits in
      let none : false ≡ all_digits text = rw wrong at all in
      rw (← none)

  pub reading_end : length text ≤ i → n ≡ lease_of text
  unfolding all_digits value_from lease_of
  reading_end h =
      let none = rest_end text i h in
      let yes : true ≡ all_digits text = ap all_digits (sym none) ∙ r.digits in
      let said : min 65536 n ≡ min 65536 (value_from 0 text) = ap (λ (l : List ℕ). min 65536 (value_from n l)) (sym none) ∙ r.value in
      let same : n ≡ min 65536 n = omega (arith, r.small) in
      rw (← yes) (same ∙ said)
