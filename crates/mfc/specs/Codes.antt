-- The C interface, I2C commands: the codes are 01's numbers, and one that 01 does not list is 12. An argument beside a code that takes none
-- is not looked at.
use Rattle.std.specs.Prelude.{ℕ, cond, List, [], ◌∷◌, Some, None}
use Rattle.std.specs.Prelude.{Option as Maybe}
use Rattle.std.proofs.Math.Option.{Option, none, some}
use Rattle.refusal.specs.Refusals.{number, refused}
use Rattle.sfc6.specs.Commands.{member}
use Rattle.refusal.specs.Room.{emit}
use Rattle.i2c.specs.Command.{Asked, alone, ◌taking◌, asked, pair, write_sfc6, liquid_bytes}
use Rattle.mfc.specs.declared.answers.MfcWritten.{MfcWritten}
use Rattle.i2c.specs.declared.command.Sfc6.{Sfc6}
use Rattle.i2c.specs.declared.command.Liquid.{Liquid}
use Rattle.mfc.specs.Answers.{written, beside}

-- 01, Words on I2C: "The codes that can be asked for, and no others": those alone, and those that take the concentration
abbrev pub alone_codes : List ℕ
alone_codes = 0xE102 ∷ 0xE000 ∷ 0x3FEF ∷ 0x3F6E ∷ []

abbrev pub taking_codes : List ℕ
taking_codes = 0xE17D ∷ 0x3650 ∷ 0x365B ∷ []

-- what an SFC6 is asked by a code, if it is listed
abbrev pub sfc6_for : ℕ → ℕ → Option Asked
sfc6_for code concentration =
    cond (member code alone_codes) (some (alone code)) (cond (member code taking_codes) (some (code taking concentration)) none)

-- 01, Words on I2C: "E2/E3 write and read the user register, E4/E5 the advanced one, F1 flow, F3 temperature, F5 supply, FE reset"
abbrev pub register_writes : List ℕ
register_writes = 0xE2 ∷ 0xE4 ∷ []

abbrev pub one_byte : List ℕ
one_byte = 0xE3 ∷ 0xE5 ∷ 0xF1 ∷ 0xF3 ∷ 0xF5 ∷ 0xFE ∷ []

-- the bytes of a liquid command by its code, if it is listed
abbrev pub liquid_for : ℕ → ℕ → Option (List ℕ)
liquid_for code value =
    cond (member code register_writes) (some (code ∷ pair value)) (cond (member code one_byte) (some (code ∷ [])) none)

-- the commands of the code in these words
abbrev pub paper_sfc6 : Maybe Sfc6 → Option Asked
paper_sfc6 (Some command) = some (asked command)
paper_sfc6 None = none

abbrev pub paper_liquid : Maybe Liquid → Option (List ℕ)
paper_liquid (Some command) = some (liquid_bytes command)
paper_liquid None = none

-- 01, Refusal numbers: "I2C writers 16, 12, 1"
abbrev pub write_asked : Option Asked → List ℕ → MfcWritten × List ℕ
write_asked none room = (written (refused (number 12)), room)
write_asked (some a) room = beside written (write_sfc6 a room)

unfoldable pub write_sfc6_code : ℕ → ℕ → List ℕ → MfcWritten × List ℕ
write_sfc6_code code concentration room = write_asked (sfc6_for code concentration) room

abbrev pub write_bytes : Option (List ℕ) → List ℕ → MfcWritten × List ℕ
write_bytes none room = (written (refused (number 12)), room)
write_bytes (some bytes) room = beside written (emit bytes room)

unfoldable pub write_liquid_code : ℕ → ℕ → List ℕ → MfcWritten × List ℕ
write_liquid_code code value room = write_bytes (liquid_for code value) room
