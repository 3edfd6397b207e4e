-- Exclusive or, where the library stops: it is associative, what is added twice is gone, and it passes through doubling. Assumes nothing.
use mathlib.Core.Path.{◌≡◌, refl, sym, ap, ap₂, ◌∙◌}
use Prim.Native.Nat.{ℕ, zero, suc, ◌+◌, ◌*◌, ◌/◌, ◌%◌, ◌<◌}
use native.Mathlib.Nat.{mod-lt, add-zero, zero-mul}
use native.Mathlib.Omega.{arith}
use lib.Arith.{bin_ind}
use lib.Bits.{bit_xor, differ, xor_step, xor_comm, xor_self, xor_shr, xor_mod, xor_block, xor_zero_r}

bit_assoc : (x y z : ℕ) → x < 2 → y < 2 → z < 2 → differ (bit_xor x y) z ≡ differ x (bit_xor y z)
bit_assoc zero zero z hx hy hz = refl
bit_assoc zero (suc zero) zero hx hy hz = refl
bit_assoc zero (suc zero) (suc zero) hx hy hz = refl
bit_assoc zero (suc zero) (suc (suc z)) hx hy hz = absurd (omega arith)
bit_assoc zero (suc (suc y)) z hx hy hz = absurd (omega arith)
bit_assoc (suc zero) zero z hx hy hz = refl
bit_assoc (suc zero) (suc zero) zero hx hy hz = refl
bit_assoc (suc zero) (suc zero) (suc zero) hx hy hz = refl
bit_assoc (suc zero) (suc zero) (suc (suc z)) hx hy hz = absurd (omega arith)
bit_assoc (suc zero) (suc (suc y)) z hx hy hz = absurd (omega arith)
bit_assoc (suc (suc x)) y z hx hy hz = absurd (omega arith)

low : (a : ℕ) → a % 2 < 2
low a = mod-lt a (omega arith)

xor_assoc : (a b c : ℕ) → bit_xor (bit_xor a b) c ≡ bit_xor a (bit_xor b c)
xor_assoc =
    bin_ind (λ (n : ℕ). (b c : ℕ) → bit_xor (bit_xor n b) c ≡ bit_xor n (bit_xor b c)) (λ b c. refl)
    (λ n ih b c. xor_step (bit_xor n b) c
    ∙ ap₂ (λ (x y : ℕ). bit_xor x (c / 2) * 2 + differ y (c % 2)) (xor_shr n b 1) (xor_mod n b 1)
    ∙ ap₂ (λ (x y : ℕ). x * 2 + y) (ih (b / 2) (c / 2)) (bit_assoc (n % 2) (b % 2) (c % 2) (low n) (low b) (low c))
    ∙ sym (ap₂ (λ (x y : ℕ). bit_xor (n / 2) x * 2 + differ (n % 2) y) (xor_shr b c 1) (xor_mod b c 1))
    ∙ sym (xor_step n (bit_xor b c)))

pub xor_swap : (a b c d : ℕ) → bit_xor (bit_xor a b) (bit_xor c d) ≡ bit_xor (bit_xor a c) (bit_xor b d)
xor_swap a b c d =
    xor_assoc a b (bit_xor c d)
    ∙ ap (bit_xor a) (sym (xor_assoc b c d) ∙ ap (λ (x : ℕ). bit_xor x d) (xor_comm b c) ∙ xor_assoc c b d)
    ∙ sym (xor_assoc a c (bit_xor b d))

-- equal right sides cancel
pub xor_cancel : (a b c : ℕ) → bit_xor b a ≡ bit_xor c a → b ≡ c
xor_cancel a b c e = sym (twice b) ∙ ap (λ (x : ℕ). bit_xor x a) e ∙ twice c
  where
    twice : (x : ℕ) → bit_xor (bit_xor x a) a ≡ x
    twice x = xor_assoc x a a ∙ ap (bit_xor x) (xor_self a) ∙ xor_zero_r x

pub xor_double : (a b : ℕ) → bit_xor (a * 2) (b * 2) ≡ bit_xor a b * 2
xor_double a b =
    ap₂ bit_xor (sym (add-zero (a * 2))) (sym (add-zero (b * 2)))
    ∙ xor_block 1 a b 0 0 (omega arith) (omega arith)
    ∙ add-zero (bit_xor a b * 2)

-- a number taken once or not at all
pub xor_once : (k x y : ℕ) → x < 2 → y < 2 → bit_xor (x * k) (y * k) ≡ bit_xor x y * k
xor_once k zero y hx hy = ap (λ (x : ℕ). bit_xor x (y * k)) (zero-mul k)
xor_once k (suc zero) zero hx hy = ap (bit_xor (1 * k)) (zero-mul k) ∙ xor_zero_r (1 * k)
xor_once k (suc zero) (suc zero) hx hy = xor_self (1 * k) ∙ sym (zero-mul k)
xor_once k (suc zero) (suc (suc y)) hx hy = absurd (omega arith)
xor_once k (suc (suc x)) y hx hy = absurd (omega arith)
