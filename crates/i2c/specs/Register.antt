-- The fields of a liquid sensor's registers, bit by bit.
use Rattle.std.specs.Prelude.{ℕ, zero, suc, ◌+◌, ◌-◌, ◌*◌, ◌/◌, ◌%◌, ◌^◌, Bool, cond, ◌&&◌, leb, ltb}
use Rattle.refusal.specs.Refusals.{number, Answered, served, refused}

-- bit k of a number, counted from 0 at its low end
unfoldable pub bit : ℕ → ℕ → ℕ
bit k x = x / 2 ^ k % 2

-- the number whose bits are f 0, f 1, .., n of them
unfoldable pub of_bits : ℕ → (ℕ → ℕ) → ℕ
of_bits zero f = 0
of_bits (suc n) f = f 0 + 2 * of_bits n (λ k. f (suc k))

-- bit k lies in the three-bit field whose lowest bit is `low`
unfoldable pub in_field : ℕ → ℕ → Bool
in_field low k = leb low k && ltb k (low + 3)

-- 01, Words on I2C: field edits change only their three bits; each of the 16 bits is the field's inside it and the register's outside
unfoldable pub with_field : ℕ → ℕ → ℕ → ℕ
with_field low field register = of_bits 16 (λ k. cond (in_field low k) (bit (k - low) field) (bit k register))

-- a field over its greatest value is 12
unfoldable pub edit : ℕ → ℕ → ℕ → ℕ → Answered ℕ
edit low greatest field register = cond (leb field greatest) (served (with_field low field register)) (refused (number 12))

-- 01, Words on I2C: bits 6:4 of the user register, calibration field 0 to 4
abbrev pub edit_user : ℕ → ℕ → Answered ℕ
edit_user field register = edit 4 4 field register

-- 01, Words on I2C: bits 11:9 of the advanced register, resolution 0 to 7
abbrev pub edit_advanced : ℕ → ℕ → Answered ℕ
edit_advanced field register = edit 9 7 field register
