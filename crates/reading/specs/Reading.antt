-- Scaled readings: raw and offset signed 16-bit, the answer (raw - offset) / scale.
use Rattle.std.specs.Prelude.{ℕ, suc, ◌+◌, ◌*◌, ◌/◌, ◌≤◌, ◌≡◌, Bool, cond, ◌&&◌, ℤ, pos, negsuc, neg_ℤ, nat_abs, ◌-ℤ◌, ◌*ℤ◌, Float}
use Rattle.std.specs.Int.Signed.{le_z}
use Rattle.std.specs.Float.{binary32}
use Rattle.std.specs.Float.Ieee.{div, of_int}
use Rattle.refusal.specs.Refusals.{number, Answered, served, refused}

-- 01, Words on I2C: scale 1 to 32,767
unfoldable pub good_scale : ℤ → Bool
good_scale scale = le_z (pos 1) scale && le_z scale (pos 32767)

-- the quotient of two sizes to the nearest whole number, a half up: half of d is added first, and all is doubled, so that an odd d has a half
abbrev pub nearest : ℕ → ℕ → ℕ
nearest m d = (m * 2 + d) / (d * 2)

-- 01, Words on I2C: n / d rounded to nearest, halves away from zero: both signs alike
unfoldable pub rounded : ℤ → ℕ → ℤ
rounded (pos m) d = pos (nearest m d)
rounded (negsuc m) d = neg_ℤ (pos (nearest (suc m) d))

-- what that means: the distance from q to the exact quotient is at most a half; where it is exactly a half, q is no nearer to zero than
-- the quotient. (Both sides are multiplied by d.)
pub record Rounded (n : ℤ) (d : ℕ) (q : ℤ) : Type 0 where
  pub near : nat_abs (n -ℤ q *ℤ pos d) * 2 ≤ d
  pub away : nat_abs (n -ℤ q *ℤ pos d) * 2 ≡ d → nat_abs n ≤ nat_abs (q *ℤ pos d)

-- and `rounded` is the one number that has that meaning: proved in proofs/Rounding.antt
pub record OneRounding : Type 0 where
  pub has : (n : ℤ) (d : ℕ) → 1 ≤ d → Rounded n d (rounded n d)
  pub only : (n : ℤ) (d : ℕ) (q : ℤ) → 1 ≤ d → Rounded n d q → q ≡ rounded n d

-- 01, Words on I2C: the answer in thousandths of the unit is (raw - offset) x 1000 / scale, so rounded; else 18
unfoldable pub in_thousandths : ℤ → ℤ → ℤ → Answered ℤ
in_thousandths raw offset scale = cond (good_scale scale) (served (rounded ((raw -ℤ offset) *ℤ pos 1000) (nat_abs scale))) (refused (number 18))

-- 01, Words on I2C: a float form is (raw - offset) / scale in single precision, one division, both operands exact; else 18
unfoldable pub quantity : ℤ → ℤ → ℤ → Answered Float
quantity raw offset scale = cond (good_scale scale) (served (div binary32 (of_int binary32 (raw -ℤ offset)) (of_int binary32 scale))) (refused (number 18))
