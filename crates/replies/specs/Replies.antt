-- 01, Commands of the SFC6 family: which reply answers which request, what a reply carries, and the rules of its values.
use Rattle.std.specs.Prelude.{ℕ, Bool, false, cond, not, ◌||◌, ltb, eqb}
use Rattle.std.specs.Float.{binary32}
use Rattle.std.specs.Float.Ieee.{to_bits, of_bits}
use Rattle.sfc6.specs.Commands.{bauds, member, finite}
use Rattle.sfc6.specs.declared.Request.{Request}
use Rattle.sfc6.specs.declared.Request.TheVariants as request
use Rattle.replies.specs.declared.Reading.{Reading}
use Rattle.replies.specs.declared.Reading.TheVariants.{Finite, Invalid, PlusInfinity, MinusInfinity}
use Rattle.replies.specs.declared.Reply.{Reply}
use Rattle.replies.specs.declared.Reply.TheVariants.{Acknowledged, Setpoint, MeasuredValue, Gain, InitStep, RawFlow, RawConductivity, Temperature, NumberOfCalibrations, Validity, FullScale, Calibration, Address, Baud, ProductType, DeviceError}
use Rattle.replies.specs.declared.Content.{Content}
use Rattle.replies.specs.declared.Content.TheVariants as content

-- 01, Commands of the SFC6 family: "FFFFFFFF invalid, 7F800000 plus infinity, FF800000 minus infinity"; a finite value goes by
-- its own bits
abbrev pub bits_of : Reading → ℕ
bits_of (Finite x) = to_bits binary32 x
bits_of Invalid = 0xFFFFFFFF
bits_of PlusInfinity = 0x7F800000
bits_of MinusInfinity = 0xFF800000

-- and back: any other pattern is a carried value, which 13 then refuses where it is not finite (the law `bad_pattern` of proofs/)
abbrev pub reading_of : ℕ → Reading
reading_of bits =
    cond (eqb bits 0xFFFFFFFF) Invalid
    (cond (eqb bits 0x7F800000) PlusInfinity (cond (eqb bits 0xFF800000) MinusInfinity (Finite (of_bits binary32 bits))))

-- 02 (ii), a validity by its byte: "0 is no, all others are yes."
abbrev pub validity_of : ℕ → Bool
validity_of n = not (eqb n 0)

-- and the byte that it is sent as: "Writing yes still sends 01."
abbrev pub validity_byte : Bool → ℕ
validity_byte v = cond v 1 0

-- 01, Commands of the SFC6 family, the table: the reply that answers a request, of the number that its data stand for
abbrev pub reply_to : Request → ℕ → Reply
reply_to request.GetSetpoint n = Setpoint (reading_of n)
reply_to (request.SetSetpoint x) n = Acknowledged
reply_to request.MeasuredValue n = MeasuredValue (reading_of n)
reply_to request.GetGain n = Gain (reading_of n)
reply_to (request.SetGain x) n = Acknowledged
reply_to request.GetInitStep n = InitStep (reading_of n)
reply_to (request.SetInitStep x) n = Acknowledged
reply_to request.RawFlow n = RawFlow n
reply_to request.RawConductivity n = RawConductivity n
reply_to request.Temperature n = Temperature (reading_of n)
reply_to request.NumberOfCalibrations n = NumberOfCalibrations n
reply_to (request.Validity index) n = Validity (validity_of n)
reply_to request.FullScale n = FullScale (reading_of n)
reply_to request.GetCalibration n = Calibration n
reply_to (request.SetCalibration c) n = Acknowledged
reply_to (request.VolatileCalibration c) n = Acknowledged
reply_to request.GetAddress n = Address n
reply_to (request.SetAddress a) n = Acknowledged
reply_to request.GetBaud n = Baud n
reply_to (request.SetBaud rate) n = Acknowledged
reply_to request.ProductType n = ProductType

-- the kinds of replies by number, so that two of them can be compared; 15 is an error answer
abbrev pub kind_of : Reply → ℕ
kind_of Acknowledged = 0
kind_of (Setpoint x) = 1
kind_of (MeasuredValue x) = 2
kind_of (Gain x) = 3
kind_of (InitStep x) = 4
kind_of (RawFlow n) = 5
kind_of (RawConductivity n) = 6
kind_of (Temperature x) = 7
kind_of (NumberOfCalibrations n) = 8
kind_of (Validity v) = 9
kind_of (FullScale x) = 10
kind_of (Calibration n) = 11
kind_of (Address a) = 12
kind_of (Baud rate) = 13
kind_of ProductType = 14
kind_of (DeviceError code) = 15

-- 01, Commands of the SFC6 family: "A reply of the expected kind", or an error answer, which "suits every kind"
abbrev pub suits : Request → Reply → Bool
suits request reply = eqb (kind_of reply) 15 || eqb (kind_of reply) (kind_of (reply_to request 0))

-- 01, Commands of the SFC6 family, the table: what a reply carries, the column Reply
abbrev pub content_of : Reply → Content
content_of Acknowledged = content.Nothing
content_of (Setpoint x) = content.Float x
content_of (MeasuredValue x) = content.Float x
content_of (Gain x) = content.Float x
content_of (InitStep x) = content.Float x
content_of (RawFlow n) = content.U16 n
content_of (RawConductivity n) = content.U16 n
content_of (Temperature x) = content.Float x
content_of (NumberOfCalibrations n) = content.U32 n
content_of (Validity v) = content.Validity v
content_of (FullScale x) = content.Float x
content_of (Calibration n) = content.U32 n
content_of (Address a) = content.Address a
content_of (Baud rate) = content.Baud rate
content_of ProductType = content.Text
content_of (DeviceError code) = content.Error code

-- 01, Refusal numbers, row 12, "a value out of its range": a u16 ends at 65,535, an address is 0 to 254, a baud one of the five, an
-- error code 1 to 127. 02 (ii), of a validity: "Refusal 12 no longer arises for this byte."
abbrev pub out_of_range : Content → Bool
out_of_range content.Nothing = false
out_of_range (content.Float x) = false
out_of_range (content.U16 n) = ltb 65535 n
out_of_range (content.U32 n) = false
out_of_range (content.Validity v) = false
out_of_range (content.Address a) = ltb 254 a
out_of_range (content.Baud rate) = not (member rate bauds)
out_of_range content.Text = false
out_of_range (content.Error code) = eqb code 0 || ltb 127 code

-- 01, Commands of the SFC6 family: "any carried float that is not finite", also one whose bits are those of a coding
abbrev pub not_finite : Reading → Bool
not_finite (Finite x) = not (finite (to_bits binary32 x))
not_finite Invalid = false
not_finite PlusInfinity = false
not_finite MinusInfinity = false

-- 01, Refusal numbers, row 13, "float not allowed there"
abbrev pub bad_float : Content → Bool
bad_float content.Nothing = false
bad_float (content.Float x) = not_finite x
bad_float (content.U16 n) = false
bad_float (content.U32 n) = false
bad_float (content.Validity v) = false
bad_float (content.Address a) = false
bad_float (content.Baud rate) = false
bad_float content.Text = false
bad_float (content.Error code) = false
