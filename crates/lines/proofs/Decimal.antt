-- Laws of a number in decimal: its last digit, and how many digits there are. Assumes nothing.
use Prim.Native.Nat.{ℕ, zero, suc, ◌+◌, ◌*◌, ◌/◌, ◌%◌, ◌^◌, ◌≤◌, ◌<◌}
use native.Mathlib.Omega.{arith}
use mathlib.Core.Path.{◌≡◌, refl, ap}
use mathlib.Core.Bool.{Bool, true, false, cond}
use mathlib.Core.List.{List, [], ◌∷◌, ◌++◌}
use lib.Dec.{ltb}
use borrow.Author.Tests.{lt-ltb, le-ltb, ltb-true, ltb-false}
use lib.ListN.{length, length-append}
use Rattle.lines.specs.Text.{digit, decimal_within, decimal, field}

-- more divisions than enough change nothing
within_same : (f g n : ℕ) → n ≤ f → n ≤ g → decimal_within f n ≡ decimal_within g n
unfolding decimal_within
within_same zero zero n h k = refl
within_same zero (suc g) n h k = let z : n ≡ 0 = omega arith in rw z
within_same (suc f) zero n h k = let z : n ≡ 0 = omega arith in rw z
within_same (suc f) (suc g) n h k =
    ap (λ (l : List ℕ). cond (ltb n 10) (digit n ∷ []) (l ++ (digit (n % 10) ∷ []))) (within_same f g (n / 10) (omega arith) (omega arith))

pub decimal_digit : (n : ℕ) → n < 10 → decimal n ≡ digit n ∷ []
unfolding decimal decimal_within
decimal_digit zero h = refl
decimal_digit (suc n) h = rw (lt-ltb (suc n) 10 h)

pub decimal-more : (n : ℕ) → 10 ≤ n → decimal n ≡ decimal (n / 10) ++ (digit (n % 10) ∷ [])
unfolding decimal decimal_within
decimal-more zero h = absurd (omega arith)
decimal-more (suc n) h =
    rw (le-ltb (suc n) 10 h)
    (ap (λ (l : List ℕ). l ++ (digit (suc n % 10) ∷ [])) (within_same n (suc n / 10) (suc n / 10) (omega arith) (omega arith)))

-- 10, 100, 1000, ..
tens : ℕ → ℕ
tens zero = 10
tens (suc k) = tens k * 10

digits_of : (k n : ℕ) → n < tens k → length (decimal n) ≤ suc k
unfolding tens
digits_of zero n h = rw (decimal_digit n h) (omega arith)
digits_of (suc k) n h = go (ltb n 10) refl (digits_of k (n / 10) (omega arith))
  where
    go : (t : Bool) → ltb n 10 ≡ t → length (decimal (n / 10)) ≤ suc k → length (decimal n) ≤ suc (suc k)
    go true e fewer = rw (decimal_digit n (ltb-true _ _ e)) (omega arith)
    go false e fewer = rw (decimal-more n (ltb-false _ _ e), length-append) (omega arith)

-- a number below 100 has two digits at most, a byte three, a u16 five, a u32 ten
pub decimal-two : (n : ℕ) → n < 100 → length (decimal n) ≤ 2
unfolding tens
decimal-two n h = digits_of 1 n (omega arith)

pub decimal_byte : (n : ℕ) → n < 256 → length (decimal n) ≤ 3
unfolding tens
decimal_byte n h = digits_of 2 n (omega arith)

pub decimal_u16 : (n : ℕ) → n < 65536 → length (decimal n) ≤ 5
unfolding tens
decimal_u16 n h = digits_of 4 n (omega arith)

pub decimal_u32 : (n : ℕ) → n < 2 ^ 32 → length (decimal n) ≤ 10
unfolding tens
decimal_u32 n h = digits_of 9 n (omega arith)

-- and with the byte after it one more
pub field_size : (n after : ℕ) → length (field n after) ≡ length (decimal n) + 1
unfolding field
field_size n after = length-append (decimal n) (after ∷ [])

pub field_byte : (n after : ℕ) → n < 256 → length (field n after) ≤ 4
unfolding field
field_byte n after h = rw length-append (omega (arith, decimal_byte n h))

pub field_u16 : (n after : ℕ) → n < 65536 → length (field n after) ≤ 6
unfolding field
field_u16 n after h = rw length-append (omega (arith, decimal_u16 n h))

pub field_u32 : (n after : ℕ) → n < 2 ^ 32 → length (field n after) ≤ 11
unfolding field
field_u32 n after h = rw length-append (omega (arith, decimal_u32 n h))
