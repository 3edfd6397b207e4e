-- 01, Commands of the SFC6 family: the table, and the rules of the values that stand in it.
use Rattle.std.specs.Prelude.{ℕ, ◌/◌, ◌%◌, Bool, false, not, ◌||◌, List, [], ◌∷◌, ltb, eqb, get_or, Some, None}
use Rattle.std.specs.Float.{binary32}
use Rattle.std.specs.Float.Ieee.{to_bits, of_bits}
use Rattle.sfc6.specs.declared.Request.{Request}
use Rattle.sfc6.specs.declared.Request.TheVariants.{GetSetpoint, SetSetpoint, MeasuredValue, GetGain, SetGain, GetInitStep, SetInitStep, RawFlow, RawConductivity, Temperature, NumberOfCalibrations, Validity, FullScale, GetCalibration, SetCalibration, VolatileCalibration, GetAddress, SetAddress, GetBaud, SetBaud, ProductType}
use Rattle.sfc6.specs.declared.Value.{Value}
use Rattle.sfc6.specs.declared.Value.TheVariants.{Nothing, Float, U32, Address, Baud}
use Rattle.sfc6.specs.declared.Answer.{Answer}
use Rattle.sfc6.specs.declared.Answer.TheVariants as reply
use Rattle.sfc6.specs.declared.Row.{Row}

-- "Cmd | Sub | Request after sub | Reply": a row with a subcommand, and one whose Sub is "-"
abbrev pub with_sub : ℕ → ℕ → Value → Answer → Row
with_sub command s value answer = record { command = command; sub = Some s; value = value; answer = answer }

abbrev pub without_sub : ℕ → Value → Answer → Row
without_sub command value answer = record { command = command; sub = None; value = value; answer = answer }

-- the table, in its order, the get before the set
unfoldable pub row : Request → Row
row GetSetpoint = with_sub 0x00 0x01 Nothing reply.Float
row (SetSetpoint x) = with_sub 0x00 0x01 (Float x) reply.Nothing
row MeasuredValue = with_sub 0x08 0x01 Nothing reply.Float
row GetGain = with_sub 0x22 0x00 Nothing reply.Float
row (SetGain x) = with_sub 0x22 0x00 (Float x) reply.Nothing
row GetInitStep = with_sub 0x22 0x03 Nothing reply.Float
row (SetInitStep x) = with_sub 0x22 0x03 (Float x) reply.Nothing
row RawFlow = with_sub 0x30 0x00 Nothing reply.U16
row RawConductivity = with_sub 0x30 0x02 Nothing reply.U16
row Temperature = with_sub 0x30 0x10 Nothing reply.Float
row NumberOfCalibrations = with_sub 0x40 0x00 Nothing reply.U32
row (Validity index) = with_sub 0x40 0x10 (U32 index) reply.Validity
row FullScale = with_sub 0x44 0x14 Nothing reply.Float
row GetCalibration = without_sub 0x45 Nothing reply.U32
row (SetCalibration n) = without_sub 0x45 (U32 n) reply.Nothing
row (VolatileCalibration n) = without_sub 0x46 (U32 n) reply.Nothing
row GetAddress = without_sub 0x90 Nothing reply.Address
row (SetAddress a) = without_sub 0x90 (Address a) reply.Nothing
row GetBaud = without_sub 0x91 Nothing reply.Baud
row (SetBaud rate) = without_sub 0x91 (Baud rate) reply.Nothing
row ProductType = with_sub 0xD0 0x00 Nothing reply.Text

-- the same requests, 0 to 20, each waiting for the number that it carries. A float is that of the number's bits
abbrev pub table : List (ℕ → Request)
table =
    (λ n. GetSetpoint)
    ∷ (λ n. SetSetpoint (of_bits binary32 n))
    ∷ (λ n. MeasuredValue)
    ∷ (λ n. GetGain)
    ∷ (λ n. SetGain (of_bits binary32 n))
    ∷ (λ n. GetInitStep)
    ∷ (λ n. SetInitStep (of_bits binary32 n))
    ∷ (λ n. RawFlow)
    ∷ (λ n. RawConductivity)
    ∷ (λ n. Temperature)
    ∷ (λ n. NumberOfCalibrations)
    ∷ Validity
    ∷ (λ n. FullScale)
    ∷ (λ n. GetCalibration)
    ∷ SetCalibration
    ∷ VolatileCalibration
    ∷ (λ n. GetAddress)
    ∷ SetAddress
    ∷ (λ n. GetBaud)
    ∷ SetBaud
    ∷ (λ n. ProductType)
    ∷ []

-- the request of a number, 0 to 20, and of the number that it carries; no other number names a request
abbrev pub request_at : ℕ → ℕ → Request
request_at place = get_or table place (λ n. ProductType)

-- the number of a request in this order
unfoldable pub place_of : Request → ℕ
place_of GetSetpoint = 0
place_of (SetSetpoint x) = 1
place_of MeasuredValue = 2
place_of GetGain = 3
place_of (SetGain x) = 4
place_of GetInitStep = 5
place_of (SetInitStep x) = 6
place_of RawFlow = 7
place_of RawConductivity = 8
place_of Temperature = 9
place_of NumberOfCalibrations = 10
place_of (Validity index) = 11
place_of FullScale = 12
place_of GetCalibration = 13
place_of (SetCalibration n) = 14
place_of (VolatileCalibration n) = 15
place_of GetAddress = 16
place_of (SetAddress a) = 17
place_of GetBaud = 18
place_of (SetBaud rate) = 19
place_of ProductType = 20

-- the number that a request carries, a float by its bits; 0 where it carries none
abbrev pub value_in : Value → ℕ
value_in Nothing = 0
value_in (Float x) = to_bits binary32 x
value_in (U32 n) = n
value_in (Address a) = a
value_in (Baud rate) = rate

unfoldable pub value_of : Request → ℕ
value_of q = value_in (row q).value

-- "Baud is one of five constants"
abbrev pub bauds : List ℕ
bauds = 9600 ∷ 19200 ∷ 38400 ∷ 57600 ∷ 115200 ∷ []

abbrev pub member : ℕ → List ℕ → Bool
member n [] = false
member n (x ∷ xs) = eqb x n || member n xs

-- "finite (exponent bits not all ones)", of a float's bits
abbrev pub finite : ℕ → Bool
finite bits = not (eqb (bits / 0x800000 % 256) 255)

-- 01, Refusal numbers, row 12: "a value out of its range": an address is 0 to 254, a baud one of the five
abbrev pub out_of_range : Value → Bool
out_of_range Nothing = false
out_of_range (Float x) = false
out_of_range (U32 n) = false
out_of_range (Address a) = ltb 254 a
out_of_range (Baud rate) = not (member rate bauds)

-- row 13: "In a request it must be finite"; "Floats are compared by bits"
abbrev pub bad_float : Value → Bool
bad_float Nothing = false
bad_float (Float x) = not (finite (to_bits binary32 x))
bad_float (U32 n) = false
bad_float (Address a) = false
bad_float (Baud rate) = false

-- row 10: "set slave address sent to address 255"
abbrev pub address_to_all : ℕ → Value → Bool
address_to_all address Nothing = false
address_to_all address (Float x) = false
address_to_all address (U32 n) = false
address_to_all address (Address a) = eqb address 255
address_to_all address (Baud rate) = false
