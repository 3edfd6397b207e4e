-- Bits of numbers, and what an edit of a field makes of each. Assumes nothing.
use mathlib.Core.Path.{◌≡◌, refl, sym, ap, ◌∙◌}
use mathlib.Core.Bool.{Bool, true, false, cond}
use Prim.Native.Nat.{ℕ, zero, suc, ◌+◌, ◌-◌, ◌*◌, ◌/◌, ◌%◌, ◌^◌, ◌≤◌, ◌<◌}
use native.Mathlib.Nat.{div-div-eq-div-mul, pow-succ', div-one, mod-lt, mul_assoc, le_of_suc-le-suc, not-suc-le-zero}
use native.Mathlib.Omega.{arith}
use lib.Pow.{pow-add}
use borrow.Author.Tests.{leb-true}
use lib.Dec.{leb}
use Rattle.refusal.specs.Refusals.{number, served, refused}
use Rattle.i2c.specs.Register.{bit, of_bits, in_field, with_field, edit}

bit_zero : (x : ℕ) → bit 0 x ≡ x % 2
unfolding bit
bit_zero x = ap (λ (y : ℕ). y % 2) (div-one x)

bit_suc : (k x : ℕ) → bit (suc k) x ≡ bit k (x / 2)
unfolding bit
bit_suc k x = ap (λ (y : ℕ). x / y % 2) (pow-succ' 2 k) ∙ ap (λ (y : ℕ). y % 2) (sym (div-div-eq-div-mul x 2 (2 ^ k)))

bit_shift : (m k x : ℕ) → bit (m + k) x ≡ bit k (x / 2 ^ m)
unfolding bit
bit_shift m k x = ap (λ (y : ℕ). x / y % 2) (pow-add 2 m k) ∙ ap (λ (y : ℕ). y % 2) (sym (div-div-eq-div-mul x (2 ^ m) (2 ^ k)))

-- the number that the low bits of another make, and what lies above them
of_bits_lem : (n x : ℕ) (f : ℕ → ℕ) → ((k : ℕ) → f k ≡ bit k x) → of_bits n f + 2 ^ n * (x / 2 ^ n) ≡ x
unfolding of_bits
of_bits_lem zero x f same = omega (arith, div-one x)
of_bits_lem (suc n) x f same =
    let h : ℕ = x / 2 in
    let above : 2 ^ suc n * (x / 2 ^ suc n) ≡ 2 * (2 ^ n * (h / 2 ^ n)) =
    ap (λ (y : ℕ). y * (x / y)) (pow-succ' 2 n) ∙ rw (← div-div-eq-div-mul x 2 (2 ^ n)) (mul_assoc 2 (2 ^ n) (h / 2 ^ n)) in
    let low : f 0 ≡ x % 2 = same 0 ∙ bit_zero x in
    omega (arith, of_bits_lem n h (λ k. f (suc k)) (λ k. same (suc k) ∙ bit_suc k x))

own_bits : (n x : ℕ) → of_bits n (λ k. bit k x) + 2 ^ n * (x / 2 ^ n) ≡ x
own_bits n x = of_bits_lem n x (λ k. bit k x) (λ k. refl)

bits_above : (n m x : ℕ) → of_bits n (λ k. bit (m + k) x) + 2 ^ n * (x / 2 ^ m / 2 ^ n) ≡ x / 2 ^ m
bits_above n m x = of_bits_lem n (x / 2 ^ m) (λ k. bit (m + k) x) (λ k. bit_shift m k x)

-- it edits the register x: what lies below the field, the field, and what lies above it
edited : (low greatest f x y : ℕ) → (f ≤ greatest → y ≡ with_field low f x) → cond (leb f greatest) (served y) (refused (number 12)) ≡ edit low greatest f x
unfolding edit
edited low greatest f x y same = go (leb f greatest) refl
  where
    go : (t : Bool) → leb f greatest ≡ t → cond t (served y) (refused (number 12)) ≡ cond t (served (with_field low f x)) (refused (number 12))
    go true e = ap served (same (leb-true f greatest e))
    go false e = refl

pub user_edited : (f x : ℕ) → x < 65536 → cond (leb f 4) (served (x - x / 16 % 8 * 16 + f * 16)) (refused (number 12)) ≡ edit 4 4 f x
unfolding with_field of_bits in_field
user_edited f x g =
    edited 4 4 f x (x - x / 16 % 8 * 16 + f * 16) (λ h. omega (arith, own_bits 4 x, own_bits 3 f, bits_above 9 7 x))

pub advanced_edited : (f x : ℕ) → x < 65536 → cond (leb f 7) (served (x - x / 512 % 8 * 512 + f * 512)) (refused (number 12)) ≡ edit 9 7 f x
unfolding with_field of_bits in_field
advanced_edited f x g =
    edited 9 7 f x (x - x / 512 % 8 * 512 + f * 512) (λ h. omega (arith, own_bits 9 x, own_bits 3 f, bits_above 4 12 x))

-- bit k of the number that bits make is the kth
bit_of_bits : (n : ℕ) (f : ℕ → ℕ) → ((k : ℕ) → f k < 2) → (k : ℕ) → k < n → bit k (of_bits n f) ≡ f k
unfolding of_bits
bit_of_bits zero f small k h = absurd (not-suc-le-zero h)
bit_of_bits (suc n) f small zero h = bit_zero (f 0 + 2 * of_bits n (λ j. f (suc j))) ∙ omega (arith, small 0)
bit_of_bits (suc n) f small (suc k) h =
    let rest : ℕ = of_bits n (λ j. f (suc j)) in
    let half : (f 0 + 2 * rest) / 2 ≡ rest = omega (arith, small 0) in
    bit_suc k (f 0 + 2 * rest) ∙ ap (bit k) half ∙ bit_of_bits n (λ j. f (suc j)) (λ j. small (suc j)) k (le_of_suc-le-suc h)

one_bit : (j x : ℕ) → bit j x < 2
unfolding bit
one_bit j x = mod-lt (x / 2 ^ j) (omega arith)

-- the edited register, bit by bit: the field's inside it, the register's outside, whatever the field held
pub field_bits : (low field register k : ℕ) → k < 16 → bit k (with_field low field register) ≡ cond (in_field low k) (bit (k - low) field) (bit k register)
unfolding with_field
field_bits low field register k h = bit_of_bits 16 (λ j. cond (in_field low j) (bit (j - low) field) (bit j register)) (λ j. pick (in_field low j) j) k h
  where
    pick : (t : Bool) (j : ℕ) → cond t (bit (j - low) field) (bit j register) < 2
    pick true j = one_bit (j - low) field
    pick false j = one_bit j register
