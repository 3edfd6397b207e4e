-- The CRC is linear over exclusive or: a bit step, and any number of them. Assumes nothing.
use mathlib.Core.Path.{◌≡◌, refl, sym, ap, ap₂, ◌∙◌}
use mathlib.Core.Bool.{Bool, true, false, cond}
use Prim.Native.Nat.{ℕ, zero, suc, ◌-◌, ◌*◌, ◌/◌, ◌%◌, ◌<◌, ◌≤◌}
use native.Mathlib.Omega.{arith}
use lib.Bits.{bit_xor, xor_lt, xor_shr, xor_mod, xor_zero_r}
use lib.Dec.{ltb}
use borrow.Author.Tests.{ltb-true, ltb-false}
use Rattle.i2c.specs.Crc.{bit_step, bit_steps}
use Rattle.i2c.proofs.Xor.{xor_swap, xor_double, xor_once}

-- the bit step without a test: the polynomial is added as often as the bit that leaves says
step_split : (c : ℕ) → c < 256 → bit_step c ≡ bit_xor (c % 128 * 2) (c / 128 * 0x31)
unfolding bit_step
step_split c h = go (ltb c 128) refl
  where
    go : (t : Bool) → ltb c 128 ≡ t → cond t (c * 2) (bit_xor ((c - 128) * 2) 0x31) ≡ bit_xor (c % 128 * 2) (c / 128 * 0x31)
    go true e =
        let l : c < 128 = ltb-true c 128 e in
        let p : c % 128 ≡ c = omega arith in
        let q : c / 128 ≡ 0 = omega arith in
        sym (ap₂ (λ (x y : ℕ). bit_xor (x * 2) (y * 0x31)) p q ∙ xor_zero_r (c * 2))
    go false e =
        let l : 128 ≤ c = ltb-false c 128 e in
        let p : c % 128 ≡ c - 128 = omega arith in
        let q : c / 128 ≡ 1 = omega arith in
        sym (ap₂ (λ (x y : ℕ). bit_xor (x * 2) (y * 0x31)) p q)

step_lt : (c : ℕ) → c < 256 → bit_step c < 256
step_lt c h = rw (step_split c h) (xor_lt 8 (c % 128 * 2) (c / 128 * 0x31) (omega arith) (omega arith))

step_xor : (a b : ℕ) → a < 256 → b < 256 → bit_step (bit_xor a b) ≡ bit_xor (bit_step a) (bit_step b)
step_xor a b ha hb =
    step_split (bit_xor a b) (xor_lt 8 a b ha hb)
    ∙ ap₂ (λ (x y : ℕ). bit_xor (x * 2) (y * 0x31)) (xor_mod a b 7) (xor_shr a b 7)
    ∙ ap₂ bit_xor (sym (xor_double (a % 128) (b % 128))) (sym (xor_once 0x31 (a / 128) (b / 128) (omega arith) (omega arith)))
    ∙ xor_swap (a % 128 * 2) (b % 128 * 2) (a / 128 * 0x31) (b / 128 * 0x31)
    ∙ sym (ap₂ bit_xor (step_split a ha) (step_split b hb))

pub steps_lt : (n c : ℕ) → c < 256 → bit_steps n c < 256
unfolding bit_steps
steps_lt zero c h = h
steps_lt (suc n) c h = steps_lt n (bit_step c) (step_lt c h)

pub steps_xor : (n a b : ℕ) → a < 256 → b < 256 → bit_steps n (bit_xor a b) ≡ bit_xor (bit_steps n a) (bit_steps n b)
unfolding bit_steps
steps_xor zero a b ha hb = refl
steps_xor (suc n) a b ha hb = ap (bit_steps n) (step_xor a b ha hb) ∙ steps_xor n (bit_step a) (bit_step b) (step_lt a ha) (step_lt b hb)
