-- Signed numbers bounded by their size. Assumes nothing.
use mathlib.Core.Path.{◌≡◌, refl}
use mathlib.Core.Bool.{Bool, true, false}
use Prim.Native.Nat.{ℕ, zero, suc, ◌+◌, ◌≤◌, ◌<◌}
use native.Mathlib.Omega.{arith}
use lib.Dec.{ltb}
use lib.IntN.{ℤ, pos, negsuc, nat_abs, sub_ℕ, ◌-ℤ◌}
use lib.Signed.{mag}
use borrow.Author.Tests.{ltb-true}

-- a bound on the size is a bound on the number
mag_le : (z : ℤ) → mag z ≤ nat_abs z
mag_le (pos n) = omega arith
mag_le (negsuc n) = omega arith

-- a difference
sub_size' : (a b k : ℕ) → a < k → b < k → nat_abs (sub_ℕ a b) < k
sub_size' a b k ha hb = pick (ltb a b) refl
  where
    pick : (t : Bool) → ltb a b ≡ t → nat_abs (sub_ℕ a b) < k
    pick true e = rw e (omega (arith, ltb-true a b e))
    pick false e = rw e (omega arith)

pub sub_size : (a b : ℤ) (k : ℕ) → mag a < k → mag b < k → nat_abs (a -ℤ b) < k + k
sub_size (pos a) (pos zero) k ha hb = omega arith
sub_size (pos a) (pos (suc b)) k ha hb = omega (arith, sub_size' a (suc b) k ha hb)
sub_size (pos a) (negsuc b) k ha hb = omega arith
sub_size (negsuc a) (pos zero) k ha hb = omega (arith, sub_size' 0 (suc a) (suc k) (omega arith) (omega arith))
sub_size (negsuc a) (pos (suc b)) k ha hb = omega arith
sub_size (negsuc a) (negsuc b) k ha hb = omega (arith, sub_size' (suc b) (suc a) (suc k) (omega arith) (omega arith))
