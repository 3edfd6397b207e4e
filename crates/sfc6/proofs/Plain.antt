-- The requests one by one: no command and no subcommand of the table is a byte that is stuffed, and each is the request at its number
-- with the number that it carries. Assumes nothing.
use mathlib.Core.Path.{◌≡◌, refl, ◌∙◌}
use mathlib.Core.List.{List, [], ◌∷◌, ◌++◌}
use Prim.Native.Nat.{ℕ, zero, suc, ◌<◌}
use native.Mathlib.Omega.{arith}
use Rattle.std.specs.Prelude.{Option}
use lib.ListN.{length, get_or}
use Rattle.payload.specs.Field.{big_endian}
use Rattle.sfc6.specs.declared.Request.{Request}
use Rattle.sfc6.specs.declared.Request.TheVariants.{GetSetpoint, SetSetpoint, MeasuredValue, GetGain, SetGain, GetInitStep, SetInitStep, RawFlow, RawConductivity, Temperature, NumberOfCalibrations, Validity, FullScale, GetCalibration, SetCalibration, VolatileCalibration, GetAddress, SetAddress, GetBaud, SetBaud, ProductType}
use Rattle.sfc6.specs.declared.Value.{Value}
use Rattle.sfc6.specs.declared.Value.TheVariants as value
use Rattle.shdlc.specs.Stuffing.{stuff_byte, stuff}
use Rattle.sfc6.specs.declared.form.Form.{Form}
use Rattle.sfc6.specs.Commands.{row, request_at, place_of, value_in, value_of}
use Rattle.sfc6.specs.Requests.{sub_bytes, value_bytes, bytes_of, data_of, body_at, body_of}

-- no command and no subcommand of the table is a byte that is stuffed
pub plain : (q : Request) → (stuff_byte (row q).command ≡ (row q).command ∷ []) × (stuff (sub_bytes (row q).sub) ≡ sub_bytes (row q).sub)
unfolding row stuff_byte stuff
plain GetSetpoint = (refl, refl)
plain (SetSetpoint x) = (refl, refl)
plain MeasuredValue = (refl, refl)
plain GetGain = (refl, refl)
plain (SetGain x) = (refl, refl)
plain GetInitStep = (refl, refl)
plain (SetInitStep x) = (refl, refl)
plain RawFlow = (refl, refl)
plain RawConductivity = (refl, refl)
plain Temperature = (refl, refl)
plain NumberOfCalibrations = (refl, refl)
plain (Validity n) = (refl, refl)
plain FullScale = (refl, refl)
plain GetCalibration = (refl, refl)
plain (SetCalibration n) = (refl, refl)
plain (VolatileCalibration n) = (refl, refl)
plain GetAddress = (refl, refl)
plain (SetAddress a) = (refl, refl)
plain GetBaud = (refl, refl)
plain (SetBaud n) = (refl, refl)
plain ProductType = (refl, refl)

pub form_plain : (place : ℕ) {command : ℕ} {sub : Option ℕ} → command ≡ (row (request_at place 0)).command → sub ≡ (row (request_at place 0)).sub
    → (stuff_byte command ≡ command ∷ []) × (stuff (sub_bytes sub) ≡ sub_bytes sub)
form_plain place e f = rw (e, f) (plain (request_at place 0))

-- a form is that of a request
abbrev pub IsForm : Form → (ℕ → Request) → Type 0
IsForm f q = (f.0 ≡ (row (q 0)).command) × (f.1 ≡ (row (q 0)).sub) × (bytes_of f.2 ≡ length (value_bytes (row (q 0)).value))

-- and forms are those of requests, one by one
abbrev pub AreForms : List Form → List (ℕ → Request) → Type 0
AreForms [] [] = Unit {0}
AreForms [] (q ∷ qs) = ⊥
AreForms (f ∷ fs) [] = ⊥
AreForms (f ∷ fs) (q ∷ qs) = IsForm f q × (AreForms fs qs)

pub form_there : (fs : List Form) (qs : List (ℕ → Request)) → AreForms fs qs → (d : Form) (last : ℕ → Request) (k : ℕ) → k < length fs
    → IsForm (get_or fs k d) (get_or qs k last)
form_there [] qs h d last k l = absurd (omega arith)
form_there (f ∷ fs) [] h d last k l = absurd h
form_there (f ∷ fs) (q ∷ qs) h d last zero l = h.0
form_there (f ∷ fs) (q ∷ qs) h d last (suc k) l = form_there fs qs h.1 d last k (omega arith)

-- the bytes of a value are those of its number
value_bytes_lem : (v : Value) → value_bytes v ≡ big_endian (length (value_bytes v)) (value_in v)
unfolding big_endian
value_bytes_lem value.Nothing = refl
value_bytes_lem (value.Float x) = refl
value_bytes_lem (value.U32 n) = refl
value_bytes_lem (value.Address a) = refl
value_bytes_lem (value.Baud rate) = refl

-- but for the value, a row is that of the request's number
at_number : (address m : ℕ) (q : Request)
    → body_at address (place_of q) m
    ≡ address ∷ (row q).command ∷ length (sub_bytes (row q).sub ++ big_endian (length (value_bytes (row q).value)) m)
    ∷ (sub_bytes (row q).sub ++ big_endian (length (value_bytes (row q).value)) m)
unfolding row place_of big_endian
at_number address m GetSetpoint = refl
at_number address m (SetSetpoint x) = refl
at_number address m MeasuredValue = refl
at_number address m GetGain = refl
at_number address m (SetGain x) = refl
at_number address m GetInitStep = refl
at_number address m (SetInitStep x) = refl
at_number address m RawFlow = refl
at_number address m RawConductivity = refl
at_number address m Temperature = refl
at_number address m NumberOfCalibrations = refl
at_number address m (Validity n) = refl
at_number address m FullScale = refl
at_number address m GetCalibration = refl
at_number address m (SetCalibration n) = refl
at_number address m (VolatileCalibration n) = refl
at_number address m GetAddress = refl
at_number address m (SetAddress a) = refl
at_number address m GetBaud = refl
at_number address m (SetBaud n) = refl
at_number address m ProductType = refl

pub request-body : (address : ℕ) (q : Request) {place n : ℕ} → place ≡ place_of q → n ≡ value_of q
    → body_at address place n ≡ body_of address (row q)
unfolding body_of data_of value_of
request-body address q e f = rw (e, f) (at_number address (value_of q) q ∙ rw (← value_bytes_lem (row q).value))
