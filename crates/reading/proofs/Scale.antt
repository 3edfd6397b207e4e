-- The test of a scale, as the code makes it, and what a good one is. Assumes nothing.
use mathlib.Core.Path.{◌≡◌, refl, sym, subst}
use mathlib.Core.Bool.{Bool, true, false, cond, ◌&&◌}
use Prim.Native.Nat.{ℕ, ◌^◌, ◌≤◌, ◌<◌}
use native.Mathlib.Omega.{arith}
use lib.Dec.{T, leb}
use lib.IntN.{ℤ, pos, negsuc, nat_abs}
use lib.Signed.{lt_z}
use borrow.Author.Tests.{ltb-true, ltb-false, leb-true, le-leb, lt-leb}
use Rattle.refusal.specs.Refusals.{Numbered, number, Answered, served, refused}
use Rattle.reading.specs.Reading.{good_scale}

pub scale_low : (z : ℤ) → lt_z z (pos 1) ≡ true → good_scale z ≡ false
unfolding good_scale
scale_low (pos n) e = rw (lt-leb 1 n (ltb-true n 1 e))
scale_low (negsuc n) e = refl

pub scale_high : (z : ℤ) → lt_z z (pos 1) ≡ false → lt_z (pos 32767) z ≡ true → good_scale z ≡ false
unfolding good_scale
scale_high (pos n) e f = rw (le-leb 1 n (ltb-false n 1 e), lt-leb n 32767 (ltb-true 32767 n f))
scale_high (negsuc n) e f = refl

-- neither low nor high
pub scale_good : (z : ℤ) → lt_z z (pos 1) ≡ false → lt_z (pos 32767) z ≡ false → good_scale z ≡ true
unfolding good_scale
scale_good (pos n) e f = rw (le-leb 1 n (ltb-false n 1 e), le-leb n 32767 (ltb-false 32767 n f))
scale_good (negsuc n) e f = absurd (subst T e tt)

-- a good scale's size
pub good_size : (z : ℤ) → good_scale z ≡ true → (1 ≤ nat_abs z) × (nat_abs z < 2 ^ 15)
unfolding good_scale
good_size (pos n) e = both (leb 1 n) refl (leb n 32767) refl e
  where
    both : (s : Bool) → leb 1 n ≡ s → (t : Bool) → leb n 32767 ≡ t → s && t ≡ true → (1 ≤ n) × (n < 2 ^ 15)
    both true p true q e = (leb-true 1 n p, omega (arith, leb-true n 32767 q))
    both true p false q e = absurd (subst T (sym e) tt)
    both false p t q e = absurd (subst T (sym e) tt)
good_size (negsuc n) e = absurd (subst T (sym e) tt)

-- what the checked scale's answer says
pub scale_refused : (z : ℤ) (n : Numbered) → refused n ≡ cond {A = Answered ℕ} (good_scale z) (served (nat_abs z)) (refused (number 18))
    → (good_scale z ≡ false) × (n ≡ number 18)
scale_refused z n = go (good_scale z) refl
  where
    go : (t : Bool) → good_scale z ≡ t → refused n ≡ cond {A = Answered ℕ} t (served (nat_abs z)) (refused (number 18)) → (good_scale z ≡ false) × (n ≡ number 18)
    go true e f = cc
    go false e f = (e, cc)

pub scale_served : (z : ℤ) (s : ℕ) → served s ≡ cond {A = Answered ℕ} (good_scale z) (served (nat_abs z)) (refused (number 18))
    → (good_scale z ≡ true) × (s ≡ nat_abs z)
scale_served z s = go (good_scale z) refl
  where
    go : (t : Bool) → good_scale z ≡ t → served s ≡ cond {A = Answered ℕ} t (served (nat_abs z)) (refused (number 18)) → (good_scale z ≡ true) × (s ≡ nat_abs z)
    go true e f = (e, cc)
    go false e f = cc

-- a good scale is a number with no sign
pub good_pos : (z : ℤ) → good_scale z ≡ true → pos (nat_abs z) ≡ z
unfolding good_scale
good_pos (pos n) e = refl
good_pos (negsuc n) e = absurd (subst T (sym e) tt)
