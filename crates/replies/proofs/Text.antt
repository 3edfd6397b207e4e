-- The text before the first 00. Assumes nothing.
use mathlib.Core.Path.{◌≡◌, refl, ap, subst, ◌∙◌}
use mathlib.Core.Bool.{Bool, true, false, cond, ◌||◌}
use mathlib.Core.List.{List, [], ◌∷◌, ◌++◌}
use native.Mathlib.Nat.{zero-add}
use Rattle.std.specs.Prelude.{Option, Some}
use Rattle.std.specs.Option.{unwrap_or}
use Rattle.std.specs.List.{fold, position, position_from}
use Rattle.std.proofs.lemmas.Iterator.Adapters.{position_from-zero}
use Prim.Native.Nat.{ℕ, ◌+◌, min, ◌≤◌}
use native.Mathlib.Omega.{arith}
use lib.Dec.{T, eqb}
use lib.ListN.{length, take}
use borrow.Author.Tests.{eq-eqb, ne_eqb, eqb-true, eqb-false}
use Rattle.sfc6.specs.Commands.{member}
use Rattle.replies.specs.Reader.{text_in}

-- the place of the first 00, or how many bytes there are
abbrev pub is_zero : ℕ → Bool
is_zero b = eqb b 0

text_from : (bs : List ℕ) (i : ℕ) → unwrap_or (position_from is_zero i bs) (i + length bs) ≡ i + length (text_in bs)
unfolding text_in
text_from [] i = refl
text_from (b ∷ bs) i = go (eqb b 0) (text_from bs (i + 1))
  where
    go : (x : Bool) → unwrap_or (position_from is_zero (i + 1) bs) (i + 1 + length bs) ≡ i + 1 + length (text_in bs)
        → unwrap_or (cond x (Some i) (position_from is_zero (i + 1) bs)) (i + length (b ∷ bs)) ≡ i + length (cond x [] (b ∷ text_in bs))
    go true h = omega arith
    go false h =
        let e : i + length (b ∷ bs) ≡ i + 1 + length bs = omega arith in
        rw e (h ∙ omega arith)

pub text_length : (bs : List ℕ) (r : Option ℕ) → r ≡ position is_zero bs → unwrap_or r (length bs) ≡ length (text_in bs)
text_length bs r e = ap (λ (o : Option ℕ). unwrap_or o (length bs)) (e ∙ position_from-zero is_zero bs) ∙ simp zero-add at (text_from bs 0)

-- a search for the smallest byte
min_zero : (a b : ℕ) → eqb (min a b) 0 ≡ (eqb a 0 || eqb b 0)
min_zero a b = go (eqb a 0) (eqb b 0) refl refl
  where
    go : (x y : Bool) → eqb a 0 ≡ x → eqb b 0 ≡ y → eqb (min a b) 0 ≡ (x || y)
    go true y e f = let h : a ≡ 0 = eqb-true a 0 e in eq-eqb (min a b) 0 (omega arith)
    go false true e f = let h : b ≡ 0 = eqb-true b 0 f in eq-eqb (min a b) 0 (omega arith)
    go false false e f =
        let h = eqb-false a 0 e in
        let k = eqb-false b 0 f in
        ne_eqb (min a b) 0 (λ m. omega arith)

-- the smallest byte is 0 exactly if the text holds a 00
or_then : (a b c : Bool) → ((a || b) || c) ≡ (a || (b || c))
or_then true b c = refl
or_then false b c = refl

zero_below : (n : ℕ) (t : List ℕ) → eqb (fold min n t) 0 ≡ (eqb n 0 || member 0 t)
zero_below n [] = go (eqb n 0)
  where
    go : (x : Bool) → x ≡ (x || false)
    go true = refl
    go false = refl
zero_below n (b ∷ t) = zero_below (min n b) t ∙ ap (λ (x : Bool). x || member 0 t) (min_zero n b) ∙ or_then (eqb n 0) (eqb b 0) (member 0 t)

pub smallest_zero : (t : List ℕ) → eqb (fold min 255 t) 0 ≡ member 0 t
smallest_zero t = zero_below 255 t

-- a text without 00 is read as it was written
pub text_kept : (t : List ℕ) → member 0 t ≡ false → text_in (t ++ (0 ∷ [])) ≡ t
unfolding text_in
text_kept [] h = refl
text_kept (b ∷ t) h = go (eqb b 0) (text_kept t) h
  where
    go : (x : Bool) → (member 0 t ≡ false → text_in (t ++ (0 ∷ [])) ≡ t) → (x || member 0 t) ≡ false → cond x [] (b ∷ text_in (t ++ (0 ∷ []))) ≡ b ∷ t
    go true on h = absurd (subst T h tt)
    go false on h = ap (λ (l : List ℕ). b ∷ l) (on h)

-- what is read holds no 00 and stands at the start
pub text_clean : (l : List ℕ) → member 0 (text_in l) ≡ false
unfolding text_in
text_clean [] = refl
text_clean (b ∷ l) = go (eqb b 0) refl (text_clean l)
  where
    go : (x : Bool) → eqb b 0 ≡ x → member 0 (text_in l) ≡ false → member 0 (cond x [] (b ∷ text_in l)) ≡ false
    go true e h = refl
    go false e h = rw e h

pub text_first : (l : List ℕ) → take (length (text_in l)) l ≡ text_in l
unfolding text_in
text_first [] = refl
text_first (b ∷ l) = go (eqb b 0) (text_first l)
  where
    go : (x : Bool) → take (length (text_in l)) l ≡ text_in l → take (length (cond x [] (b ∷ text_in l))) (b ∷ l) ≡ cond x [] (b ∷ text_in l)
    go true h = refl
    go false h = ap (λ (t : List ℕ). b ∷ t) h

pub text_no_longer : (l : List ℕ) → length (text_in l) ≤ length l
unfolding text_in
text_no_longer [] = omega arith
text_no_longer (b ∷ l) = go (eqb b 0) (text_no_longer l)
  where
    go : (x : Bool) → length (text_in l) ≤ length l → length (cond x [] (b ∷ text_in l)) ≤ length (b ∷ l)
    go true h = omega arith
    go false h = omega arith
