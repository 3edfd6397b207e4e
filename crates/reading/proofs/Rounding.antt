-- Rounding by sign and size is rounding to nearest with halves away from zero, and no other number is so near. Assumes nothing.
use mathlib.Core.Path.{◌≡◌, refl, sym, ap, ◌∙◌}
use mathlib.Core.Bool.{Bool, true, false, cond}
use Prim.Native.Nat.{ℕ, zero, suc, ◌+◌, ◌-◌, ◌*◌, ◌/◌, ◌%◌, ◌≤◌, ◌<◌}
use native.Mathlib.Nat.{div-add-mod', mod-lt, mul_assoc, zero-mul, suc-mul}
use native.Mathlib.Omega.{arith}
use lib.Arith.{digits_div}
use lib.Dec.{ltb, leb-suc-zero}
use lib.IntN.{ℤ, pos, negsuc, neg_ℤ, nat_abs, sub_ℕ, ◌+ℤ◌, ◌-ℤ◌, ◌*ℤ◌, neg_ℤ-+ℤ, neg_ℤ-neg_ℤ}
use lib.Signed.{lt_z}
use borrow.Author.Tests.{ltb-true, ltb-false}
use Rattle.reading.specs.Reading.{nearest, rounded, Rounded, OneRounding}

-- the distance of two sizes
size_sub : (a b : ℕ) → nat_abs (pos a -ℤ pos b) ≡ (a - b) + (b - a)
size_sub a zero = omega arith
size_sub a (suc b) = pick (ltb a (suc b)) refl
  where
    pick : (t : Bool) → ltb a (suc b) ≡ t → nat_abs (sub_ℕ a (suc b)) ≡ (a - suc b) + (suc b - a)
    pick true e = rw e (omega (arith, ltb-true a (suc b) e))
    pick false e = rw e (omega (arith, ltb-false a (suc b) e))

-- of a size
size-rounded : (m d : ℕ) → 1 ≤ d → Rounded (pos m) d (pos (nearest m d))
size-rounded m d h =
    let q = nearest m d in
    let e : q * (d * 2) + (m * 2 + d) % (d * 2) ≡ m * 2 + d = div-add-mod' (m * 2 + d) (d * 2) in
    let l : (m * 2 + d) % (d * 2) < d * 2 = mod-lt (m * 2 + d) (omega arith) in
    let a : q * d * 2 ≡ q * (d * 2) = mul_assoc q d 2 in
    let s = size_sub m (q * d) in
    record { near = omega arith; away = λ x. omega arith }

-- of the other sign
size_neg : (z : ℤ) → nat_abs (neg_ℤ z) ≡ nat_abs z
size_neg (pos zero) = refl
size_neg (pos (suc n)) = refl
size_neg (negsuc n) = refl

neg_mul : (q : ℤ) (d : ℕ) → neg_ℤ q *ℤ pos d ≡ neg_ℤ (q *ℤ pos d)
neg_mul (pos zero) d = rw (zero-mul d)
neg_mul (pos (suc n)) d = refl
neg_mul (negsuc n) d = sym (neg_ℤ-neg_ℤ (pos (suc n * d)))

far_neg : (n q : ℤ) (d : ℕ) → nat_abs (neg_ℤ n -ℤ neg_ℤ q *ℤ pos d) ≡ nat_abs (n -ℤ q *ℤ pos d)
far_neg n q d = ap (λ (x : ℤ). nat_abs (neg_ℤ n -ℤ x)) (neg_mul q d) ∙ ap nat_abs (sym (neg_ℤ-+ℤ n (neg_ℤ (q *ℤ pos d)))) ∙ size_neg (n -ℤ q *ℤ pos d)

pub rounded_neg : (n q : ℤ) (d : ℕ) → Rounded n d q → Rounded (neg_ℤ n) d (neg_ℤ q)
rounded_neg n q d r =
    let f = far_neg n q d in
    let a : nat_abs (neg_ℤ q *ℤ pos d) ≡ nat_abs (q *ℤ pos d) = ap nat_abs (neg_mul q d) ∙ size_neg (q *ℤ pos d) in
    record { near = rw f r.near; away = λ x. rw (a, size_neg n) (r.away (ap (λ (y : ℕ). y * 2) (sym f) ∙ x)) }

-- the code's way: by sign and size, of a product
neg_rounded : (n d : ℕ) → 1 ≤ n → rounded (neg_ℤ (pos n)) d ≡ neg_ℤ (pos (nearest n d))
unfolding rounded
neg_rounded zero d h = absurd (omega arith)
neg_rounded (suc n) d h = refl

pub sign_rounded : (z : ℤ) (k d : ℕ) → 1 ≤ k
    → cond (lt_z z (pos 0)) (neg_ℤ (pos (nearest (nat_abs z * k) d))) (pos (nearest (nat_abs z * k) d)) ≡ rounded (z *ℤ pos k) d
unfolding rounded
sign_rounded (pos m) k d h = rw (leb-suc-zero m)
sign_rounded (negsuc m) k d h = sym (neg_rounded (suc m * k) d (omega (arith, suc-mul m k)))

-- no other number is so near: of a size
module _ (m d : ℕ) (h : 1 ≤ d) where
  size_only : (q : ℤ) → Rounded (pos m) d q → q ≡ pos (nearest m d)
  size_only (negsuc k) r =
      let s : nat_abs (pos m -ℤ negsuc k *ℤ pos d) ≡ m + suc k * d = ap (λ (z : ℤ). nat_abs (pos m +ℤ z)) (neg_ℤ-neg_ℤ (pos (suc k * d))) in
      absurd (omega (arith, r.near, suc-mul k d))
  size_only (pos q) r =
      let a : q * d * 2 ≡ q * (d * 2) = mul_assoc q d 2 in
      let low : q * (d * 2) ≤ m * 2 + d = omega (arith, r.near, size_sub m (q * d)) in
      let e : q * (d * 2) + (m * 2 + d - q * (d * 2)) ≡ m * 2 + d = omega arith in
      let k : m * 2 + d - q * (d * 2) < d * 2 = under (ltb ((m - q * d) * 2) d) refl in
      ap pos (sym (digits_div q k) ∙ ap (λ (x : ℕ). x / (d * 2)) e)
    where
      under : (t : Bool) → ltb ((m - q * d) * 2) d ≡ t → m * 2 + d - q * (d * 2) < d * 2
      under true e = omega (arith, ltb-true ((m - q * d) * 2) d e, mul_assoc q d 2)
      under false e =
          let half : nat_abs (pos m -ℤ pos (q * d)) * 2 ≡ d = omega (arith, ltb-false ((m - q * d) * 2) d e, r.near, size_sub m (q * d)) in
          absurd (omega (arith, r.away half, ltb-false ((m - q * d) * 2) d e))

pub one_rounding : OneRounding
unfolding rounded
one_rounding = record { has = has; only = only }
  where
    has : (n : ℤ) (d : ℕ) → 1 ≤ d → Rounded n d (rounded n d)
    has (pos m) d h = size-rounded m d h
    has (negsuc m) d h = rounded_neg (pos (suc m)) (pos (nearest (suc m) d)) d (size-rounded (suc m) d h)

    only : (n : ℤ) (d : ℕ) (q : ℤ) → 1 ≤ d → Rounded n d q → q ≡ rounded n d
    only (pos m) d q h r = size_only m d h q r
    only (negsuc m) d q h r = sym (neg_ℤ-neg_ℤ q) ∙ ap neg_ℤ (size_only (suc m) d h (neg_ℤ q) (rounded_neg (negsuc m) q d r))
