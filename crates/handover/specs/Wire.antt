-- 02 (i): what was accepted or acknowledged on a wire, as an order to the board.
use Rattle.std.specs.Prelude.{ℕ, Bool, cond, [], ◌∷◌, eqb}
use Rattle.refusal.specs.Refusals.{Answered, served, refused}
use Rattle.sfc6.specs.Commands.{member}
use Rattle.sfc6.specs.Requests.{numbered}
use Rattle.sfc6.specs.declared.Request.{Request}
use Rattle.sfc6.specs.declared.Request.TheVariants.{GetSetpoint, SetSetpoint, MeasuredValue, GetGain, SetGain, GetInitStep, SetInitStep, RawFlow, RawConductivity, Temperature, NumberOfCalibrations, Validity, FullScale, GetCalibration, SetCalibration, VolatileCalibration, GetAddress, SetAddress, GetBaud, SetBaud, ProductType}
use Rattle.replies.specs.Reader.{Got}
use Rattle.i2c.specs.declared.command.Sfc6.{Sfc6}
use Rattle.i2c.specs.declared.command.Sfc6.TheVariants.{PointToTemperature, PointBack, SetConcentration, StartMixture0, StartMixture1, ShutValve, NormalControl}
use Rattle.board.specs.declared.entries.Bus.TheVariants.{Serial, I2c}
use Rattle.board.specs.declared.entries.Kind.TheVariants.{Valve, Calibration}
use Rattle.board.specs.declared.orders.Order.{Order}
use Rattle.board.specs.declared.orders.Order.TheVariants.{Open, Close, Unnamed, Nothing}

-- "an accepted reply to command 46 [opens] its calibration entry"; "an accepted 45 set [closes] the second"; "an address set (90) moves
-- none"; a get of 45 closes nothing
abbrev pub accepted_by : ℕ → Request → ℕ → Order
accepted_by address GetSetpoint lease = Nothing
accepted_by address (SetSetpoint x) lease = Nothing
accepted_by address MeasuredValue lease = Nothing
accepted_by address GetGain lease = Nothing
accepted_by address (SetGain x) lease = Nothing
accepted_by address GetInitStep lease = Nothing
accepted_by address (SetInitStep x) lease = Nothing
accepted_by address RawFlow lease = Nothing
accepted_by address RawConductivity lease = Nothing
accepted_by address Temperature lease = Nothing
accepted_by address NumberOfCalibrations lease = Nothing
accepted_by address (Validity index) lease = Nothing
accepted_by address FullScale lease = Nothing
accepted_by address GetCalibration lease = Nothing
accepted_by address (SetCalibration n) lease = Close (record { bus = Serial; address = address }) Calibration
accepted_by address (VolatileCalibration n) lease = Open (record { bus = Serial; address = address }) Calibration lease
accepted_by address GetAddress lease = Nothing
accepted_by address (SetAddress a) lease = Nothing
accepted_by address GetBaud lease = Nothing
accepted_by address (SetBaud rate) lease = Nothing
accepted_by address ProductType lease = Nothing

-- a reply that was read: only an accepted one counts, whatever its bit 7; an error answer (15) is a refusal
abbrev pub order_of_reply : ℕ → Request → Answered Got → ℕ → Order
order_of_reply address request (served got) lease = accepted_by address request lease
order_of_reply address request (refused n) lease = Nothing

-- "An acknowledged 3FEF opens its valve entry"; "An acknowledged 3F6E closes the first"
abbrev pub acknowledged_by : ℕ → Sfc6 → ℕ → Order
acknowledged_by address PointToTemperature lease = Nothing
acknowledged_by address PointBack lease = Nothing
acknowledged_by address (SetConcentration c) lease = Nothing
acknowledged_by address (StartMixture0 c) lease = Nothing
acknowledged_by address (StartMixture1 c) lease = Nothing
acknowledged_by address ShutValve lease = Open (record { bus = I2c; address = address }) Valve lease
acknowledged_by address NormalControl lease = Close (record { bus = I2c; address = address }) Valve

abbrev pub order_of_command : ℕ → Sfc6 → Bool → ℕ → Order
order_of_command address command acknowledged lease = cond acknowledged (acknowledged_by address command lease) Nothing

-- ---- by numbers, as C gives them
-- 01, Words on I2C: the other codes that can be asked for
unfoldable pub is_listed : ℕ → Bool
is_listed code = member code (0xE102 ∷ 0xE000 ∷ 0xE17D ∷ 0x3650 ∷ 0x365B ∷ [])

-- a code that cannot be asked for is 12
unfoldable pub order_by_code : ℕ → ℕ → ℕ → Order
order_by_code address code lease =
    cond (eqb code 0x3FEF) (acknowledged_by address ShutValve lease)
    (cond (eqb code 0x3F6E) (acknowledged_by address NormalControl lease) (cond (is_listed code) Nothing Unnamed))

-- a request by its number, and the number of the refusal that its reply was read with, 0 for none; a request over 20 is 12
abbrev pub order_replied_to : ℕ → Answered Request → ℕ → ℕ → Order
order_replied_to address (served request) refusal lease = cond (eqb refusal 0) (accepted_by address request lease) Nothing
order_replied_to address (refused n) refusal lease = Unnamed

unfoldable pub order_by_reply : ℕ → ℕ → ℕ → ℕ → Order
order_by_reply address request refusal lease = order_replied_to address (numbered request 0) refusal lease
