-- Command bytes of both families.
use Rattle.std.specs.Prelude.{ℕ, ◌/◌, ◌%◌, cond, List, [], ◌∷◌, ◌++◌, leb}
use Rattle.refusal.specs.Refusals.{number}
use Rattle.refusal.specs.Room.{emit}
use Rattle.i2c.specs.Answer.{Outcome, refuse}
use Rattle.i2c.specs.Word.{start_of, word_bytes}
use Rattle.i2c.specs.declared.word.Family.TheVariants as family
use Rattle.i2c.specs.declared.command.Sfc6.{Sfc6}
use Rattle.i2c.specs.declared.command.Sfc6.TheVariants.{PointToTemperature, PointBack, SetConcentration, StartMixture0, StartMixture1, ShutValve, NormalControl}
use Rattle.i2c.specs.declared.command.Liquid.{Liquid}
use Rattle.i2c.specs.declared.command.Liquid.TheVariants.{WriteUser, ReadUser, WriteAdvanced, ReadAdvanced, Flow, Temperature, Supply, Reset}

-- what can be asked of an SFC6: a code alone, or a code and a concentration in per mille
infix 30 ◌taking◌
pub data Asked : Type 0 where
  alone : ℕ → Asked
  ◌taking◌ : ℕ → ℕ → Asked

-- 01, Words on I2C: the codes that can be asked for, and no others; E17D, 3650 and 365B take the concentration
abbrev pub asked : Sfc6 → Asked
asked PointToTemperature = alone 0xE102
asked PointBack = alone 0xE000
asked (SetConcentration concentration) = 0xE17D taking concentration
asked (StartMixture0 concentration) = 0x3650 taking concentration
asked (StartMixture1 concentration) = 0x365B taking concentration
asked ShutValve = alone 0x3FEF
asked NormalControl = alone 0x3F6E

-- a 16-bit number without CRC: high byte, low byte
abbrev pub pair : ℕ → List ℕ
pair n = n / 256 ∷ n % 256 ∷ []

-- 01, Words on I2C: a 16-bit command, no CRC; an argument is a word with CRC; a concentration over 1000 is 12
unfoldable pub write_sfc6 : Asked → List ℕ → Outcome
write_sfc6 (alone code) lent = emit (pair code) lent
write_sfc6 (code taking concentration) lent =
    cond (leb concentration 1000) (emit (pair code ++ word_bytes (start_of family.Sfc6) concentration) lent) (refuse (number 12) lent)

-- 01, Words on I2C: liquid commands are one byte; register writes carry no CRC
abbrev pub liquid_bytes : Liquid → List ℕ
liquid_bytes (WriteUser value) = 0xE2 ∷ pair value
liquid_bytes ReadUser = 0xE3 ∷ []
liquid_bytes (WriteAdvanced value) = 0xE4 ∷ pair value
liquid_bytes ReadAdvanced = 0xE5 ∷ []
liquid_bytes Flow = 0xF1 ∷ []
liquid_bytes Temperature = 0xF3 ∷ []
liquid_bytes Supply = 0xF5 ∷ []
liquid_bytes Reset = 0xFE ∷ []
