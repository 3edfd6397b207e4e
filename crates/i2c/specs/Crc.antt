-- The CRC-8 of the I2C words, by bits: polynomial 31 hex (x^8 + x^5 + x^4 + 1), most significant bit first, no final inversion.
use Rattle.std.specs.Prelude.{ℕ, zero, suc, ◌-◌, ◌*◌, cond, List, [], ◌∷◌, ltb}
use Rattle.std.specs.Int.Bits.{bit_xor}

-- 01, Words on I2C: one bit; the register moves left by a bit, and where a one leaves it 31 hex is added by exclusive or
unfoldable pub bit_step : ℕ → ℕ
bit_step c = cond (ltb c 128) (c * 2) (bit_xor ((c - 128) * 2) 0x31)

-- n bits
unfoldable pub bit_steps : ℕ → ℕ → ℕ
bit_steps zero c = c
bit_steps (suc n) c = bit_steps n (bit_step c)

-- 000 and 001, the checksum's code: a byte is added to the register by exclusive or, then come eight bits
unfoldable pub byte_step : ℕ → ℕ → ℕ
byte_step c b = bit_steps 8 (bit_xor c b)

-- 01, Words on I2C: the CRC of bytes, from the start value c
unfoldable pub crc_of : ℕ → List ℕ → ℕ
crc_of c [] = c
crc_of c (b ∷ bs) = crc_of (byte_step c b) bs
