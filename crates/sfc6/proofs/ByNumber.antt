-- A request is the one of its number and of the number that it carries, row by row. Assumes nothing.
use mathlib.Core.Path.{◌≡◌, refl, ap}
use Prim.Native.Nat.{◌≤◌}
use native.Mathlib.Omega.{arith}
use lib.Ieee.{binary32}
use lib.Ieee.Bits.{of_bits-to_bits}
use Rattle.sfc6.specs.declared.Request.{Request}
use Rattle.sfc6.specs.declared.Request.TheVariants.{GetSetpoint, SetSetpoint, MeasuredValue, GetGain, SetGain, GetInitStep, SetInitStep, RawFlow, RawConductivity, Temperature, NumberOfCalibrations, Validity, FullScale, GetCalibration, SetCalibration, VolatileCalibration, GetAddress, SetAddress, GetBaud, SetBaud, ProductType}
use Rattle.sfc6.specs.Commands.{row, request_at, place_of, value_of}
use Rattle.sfc6.specs.ReadBack.{Fits}

pub by_number : (q : Request) → Fits (row q).value → (place_of q ≤ 20) × (request_at (place_of q) (value_of q) ≡ q)
unfolding row place_of value_of
by_number GetSetpoint h = (omega arith, refl)
by_number (SetSetpoint x) h = (omega arith, ap SetSetpoint (of_bits-to_bits binary32 x h))
by_number MeasuredValue h = (omega arith, refl)
by_number GetGain h = (omega arith, refl)
by_number (SetGain x) h = (omega arith, ap SetGain (of_bits-to_bits binary32 x h))
by_number GetInitStep h = (omega arith, refl)
by_number (SetInitStep x) h = (omega arith, ap SetInitStep (of_bits-to_bits binary32 x h))
by_number RawFlow h = (omega arith, refl)
by_number RawConductivity h = (omega arith, refl)
by_number Temperature h = (omega arith, refl)
by_number NumberOfCalibrations h = (omega arith, refl)
by_number (Validity n) h = (omega arith, refl)
by_number FullScale h = (omega arith, refl)
by_number GetCalibration h = (omega arith, refl)
by_number (SetCalibration n) h = (omega arith, refl)
by_number (VolatileCalibration n) h = (omega arith, refl)
by_number GetAddress h = (omega arith, refl)
by_number (SetAddress a) h = (omega arith, refl)
by_number GetBaud h = (omega arith, refl)
by_number (SetBaud n) h = (omega arith, refl)
by_number ProductType h = (omega arith, refl)
