-- 02 (iii): the CRC by "a constant table of 256 checksum steps". Its one rule, what an engine with a table gives, and the claim that it gives
-- what the bits give. The proof is `engines_agree` of proofs/Engines.antt.
use Rattle.std.specs.Prelude.{ℕ, ◌<◌, ◌≡◌, List, [], ◌∷◌, get_or}
use Rattle.std.specs.Int.Bits.{bit_xor}
use Rattle.std.specs.Coded.{Coded-set, coded_ℕ, Π_prop, →_prop}
use Rattle.i2c.specs.Crc.{bit_steps, crc_of}

-- the table's rule: the entry of each byte is so many bits from it. 8 bits are the step of one byte; the code has no other table in its
-- source, and makes that of 16 from it
unfoldable pub Steps : ℕ → List ℕ → Type 0
Steps bits table = (x : ℕ) → x < 256 → get_or table x 0 ≡ bit_steps bits x

-- there is one proof of it at most, so a table may keep it
pub Steps-prop : (bits : ℕ) (table : List ℕ) → IsProp (Steps bits table)
unfolding Steps
Steps-prop bits table = Π_prop (λ x. →_prop (Coded-set coded_ℕ (get_or table x 0) (bit_steps bits x)))

-- a byte: it is added to the register by exclusive or, and the entry there is the new register
unfoldable pub table_step : List ℕ → ℕ → ℕ → ℕ
table_step table c b = get_or table (bit_xor c b) 0

-- bytes, from the start value c
unfoldable pub table_crc_of : List ℕ → ℕ → List ℕ → ℕ
table_crc_of table c [] = c
table_crc_of table c (b ∷ bs) = table_crc_of table (table_step table c b) bs

-- 02 (iii): "the two engines must agree on every byte string and every start value"
abbrev pub EnginesAgree : Type 0
EnginesAgree =
    (table : List ℕ) → Steps 8 table → (start : ℕ) (bytes : List ℕ) → start < 256 → ((i : ℕ) → get_or bytes i 0 < 256)
    → table_crc_of table start bytes ≡ crc_of start bytes
