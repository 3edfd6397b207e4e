-- Eight bit steps at once and undone, and the CRC along a list, one byte further at a time. Assumes nothing.
use mathlib.Core.Path.{◌≡◌, refl, sym, ap, ◌∙◌}
use mathlib.Core.List.{List, [], ◌∷◌}
use Prim.Native.Nat.{ℕ, ◌*◌, ◌/◌, ◌%◌, ◌<◌}
use lib.Bits.{bit_xor, xor_lt}
use Rattle.refusal.proofs.Values.{same_at}
use Rattle.std.specs.List.{fold}
use Rattle.i2c.specs.Crc.{bit_step, bit_steps, byte_step, crc_of}
use Rattle.i2c.proofs.Xor.{xor_cancel}
use Rattle.i2c.proofs.Linear.{steps_lt}

-- the arithmetic of the code's eight bits at once
abbrev over : ℕ → ℕ
over x = bit_xor (bit_xor (bit_xor x (x / 8)) (x / 16)) (x / 64)

abbrev moved : ℕ → ℕ
moved y = bit_xor (bit_xor y (y % 16 * 16)) (y % 8 * 32)

pub fold_steps : (x : ℕ) → x < 256 → moved (over x) ≡ bit_steps 8 x
unfolding bit_step bit_steps
fold_steps = same_at 256 (λ x. moved (over x)) (bit_steps 8) refl

-- 127 bit steps lead back, so the eight of a byte can be undone
steps_back : (x : ℕ) → x < 256 → bit_steps 119 (bit_steps 8 x) ≡ x
unfolding bit_step bit_steps
steps_back = same_at 256 (λ x. bit_steps 119 (bit_steps 8 x)) (λ x. x) refl

module _ (c b : ℕ) (hc : c < 256) (hb : b < 256) where
  pub byte_lt : byte_step c b < 256
  unfolding byte_step
  byte_lt = steps_lt 8 (bit_xor c b) (xor_lt 8 c b hc hb)

  byte_back : bit_steps 119 (byte_step c b) ≡ bit_xor c b
  unfolding byte_step
  byte_back = steps_back (bit_xor c b) (xor_lt 8 c b hc hb)

-- the register before a byte can be told from the register after it, and the start value from the CRC of a word
byte_one : (c d b : ℕ) → c < 256 → d < 256 → b < 256 → byte_step c b ≡ byte_step d b → c ≡ d
byte_one c d b hc hd hb e = xor_cancel b c d (sym (byte_back c b hc hb) ∙ ap (bit_steps 119) e ∙ byte_back d b hd hb)

pub start-one : (s t h l : ℕ) → s < 256 → t < 256 → h < 256 → l < 256 → crc_of s (h ∷ l ∷ []) ≡ crc_of t (h ∷ l ∷ []) → s ≡ t
unfolding crc_of
start-one s t h l hs ht hh hl e =
    byte_one s t h hs ht hh (byte_one (byte_step s h) (byte_step t h) l (byte_lt s h hs hh) (byte_lt t h ht hh) hl e)

-- the CRC is a fold of the bytes
pub crc_fold : (c : ℕ) (bs : List ℕ) → fold byte_step c bs ≡ crc_of c bs
unfolding crc_of
crc_fold c [] = refl
crc_fold c (b ∷ bs) = crc_fold (byte_step c b) bs
