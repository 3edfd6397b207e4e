-- Byte strings and kinds compared. Assumes nothing.
use mathlib.Core.Path.{◌≡◌, refl, sym, ap, ◌∙◌}
use mathlib.Core.Bool.{Bool, true, false, ◌&&◌, true≢false}
use mathlib.Core.List.{List, [], ◌∷◌}
use Prim.Native.Nat.{ℕ}
use lib.Dec.{eqb}
use lib.Pointwise.{pointwise}
use denote.Enum.Bare.{sameb}
use borrow.Author.Tests.{eq-eqb, eqb-true}
use Rattle.wire_log.specs.declared.Kind.{Kind}
use Rattle.wire_log.specs.declared.Kind.TheVariants.{Request, Reply, Silence}
use Rattle.wire_log.specs.contracts.Kind.{the_type}
use Rattle.wire_log.specs.Kinds.{number_of_kind}
use Rattle.compare.specs.Compare.{same_bytes}

-- the test says what it should
same-sound : (xs ys : List ℕ) → same_bytes xs ys ≡ true → xs ≡ ys
unfolding same_bytes
same-sound [] [] h = refl
same-sound [] (y ∷ ys) h = absurd (true≢false (sym h))
same-sound (x ∷ xs) [] h = absurd (true≢false (sym h))
same-sound (x ∷ xs) (y ∷ ys) h = go (eqb x y) refl (same-sound xs ys) h
  where
    go : (t : Bool) → eqb x y ≡ t → (same_bytes xs ys ≡ true → xs ≡ ys) → (t && same_bytes xs ys) ≡ true → x ∷ xs ≡ y ∷ ys
    go true e back f = ap (λ (z : ℕ). z ∷ xs) (eqb-true x y e) ∙ ap (λ (l : List ℕ). y ∷ l) (back f)
    go false e back f = absurd (true≢false (sym f))

same_itself : (xs : List ℕ) → same_bytes xs xs ≡ true
unfolding same_bytes
same_itself [] = refl
same_itself (x ∷ xs) = rw (eq-eqb x x refl) (same_itself xs)

module _ (xs ys : List ℕ) where
  pub same_equal : xs ≡ ys → same_bytes xs ys ≡ true
  same_equal e = ap (same_bytes xs) (sym e) ∙ same_itself xs

  pub equal_same : same_bytes xs ys ≡ true → xs ≡ ys
  equal_same e = same-sound xs ys e

-- what the code's tests say, of bytes and of kinds
pub pointwise-same : (xs ys : List ℕ) → pointwise eqb xs ys ≡ same_bytes xs ys
unfolding same_bytes
pointwise-same [] [] = refl
pointwise-same [] (y ∷ ys) = refl
pointwise-same (x ∷ xs) [] = refl
pointwise-same (x ∷ xs) (y ∷ ys) = ap (λ (t : Bool). eqb x y && t) (pointwise-same xs ys)

pub same_kind : (x y : Kind) → sameb the_type x y ≡ eqb (number_of_kind x) (number_of_kind y)
same_kind Request Request = refl
same_kind Request Reply = refl
same_kind Request Silence = refl
same_kind Reply Request = refl
same_kind Reply Reply = refl
same_kind Reply Silence = refl
same_kind Silence Request = refl
same_kind Silence Reply = refl
same_kind Silence Silence = refl
