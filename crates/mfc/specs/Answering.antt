-- The C interface, replies by their numbers: 0 acknowledged, then 1 to 14 in the order of 01's table, and 15 a device error.
use Rattle.std.specs.Prelude.{ℕ, Bool, true, cond, not, List, [], ◌∷◌, ◌++◌, ltb, eqb, get_or}
use Rattle.std.proofs.Math.Option.{Option, none, some}
use Rattle.refusal.specs.Refusals.{Numbered, number, number_in, Answered, served, refused, in_order}
use Rattle.sfc6.specs.declared.Request.{Request}
use Rattle.sfc6.specs.Commands.{request_at}
use Rattle.sfc6.specs.Requests.{request_checks}
use Rattle.replies.specs.declared.Reply.{Reply}
use Rattle.replies.specs.declared.Reply.TheVariants.{Acknowledged, Setpoint, MeasuredValue, Gain, InitStep, RawFlow, RawConductivity, Temperature, NumberOfCalibrations, Validity, FullScale, Calibration, Address, Baud, ProductType, DeviceError}
use Rattle.replies.specs.Replies.{bits_of, reading_of, validity_of, validity_byte, kind_of}
use Rattle.replies.specs.Reader.{Got, value, text, read_reply}
use Rattle.replies.specs.Writer.{write_reply}
use Rattle.mfc.specs.declared.answers.MfcWritten.{MfcWritten}
use Rattle.mfc.specs.declared.answers.MfcReply.{MfcReply}
use Rattle.mfc.specs.Answers.{carried_by, written, beside}

-- the replies, 0 to 14, each waiting for its value; a float reading crosses as its bits, a validity as 0 for no, else yes
abbrev pub replies : List (ℕ → Reply)
replies =
    (λ n. Acknowledged)
    ∷ (λ n. Setpoint (reading_of n))
    ∷ (λ n. MeasuredValue (reading_of n))
    ∷ (λ n. Gain (reading_of n))
    ∷ (λ n. InitStep (reading_of n))
    ∷ RawFlow
    ∷ RawConductivity
    ∷ (λ n. Temperature (reading_of n))
    ∷ NumberOfCalibrations
    ∷ (λ n. Validity (validity_of n))
    ∷ (λ n. FullScale (reading_of n))
    ∷ Calibration
    ∷ Address
    ∷ Baud
    ∷ (λ n. ProductType)
    ∷ []

-- the reply of a number, 0 to 15, and of its value; 15 is a device error
abbrev pub reply_at : ℕ → ℕ → Reply
reply_at place = get_or replies place DeviceError

-- a number over 15 is no reply: 14 in its place in the order, after the request's own 12, 13, 10
abbrev pub no_reply : ℕ → Request → Answered ℕ
no_reply address request = in_order (request_checks address request ++ ((true, number 14) ∷ [])) 0

-- the writer of a reply, which is given its number and its value, and the text beside it: 11 first; bit 7 is given as 0 for no, else yes
unfoldable pub write_answer : ℕ → ℕ → ℕ → ℕ → ℕ → List ℕ → ℕ → List ℕ → MfcWritten × List ℕ
write_answer address n v place w said bit7 room =
    cond (ltb 20 n) (written (refused (number 11)), room)
    (cond (ltb 15 place) (written (no_reply address (request_at n v)), room)
    (beside written (write_reply address (request_at n v) (reply_at place w) said (not (eqb bit7 0)) room)))

-- the value that a reply carries, a float by its bits, a validity by the byte that it is sent as; 0 where it carries none
abbrev pub value_of : Reply → ℕ
value_of Acknowledged = 0
value_of (Setpoint x) = bits_of x
value_of (MeasuredValue x) = bits_of x
value_of (Gain x) = bits_of x
value_of (InitStep x) = bits_of x
value_of (RawFlow n) = n
value_of (RawConductivity n) = n
value_of (Temperature x) = bits_of x
value_of (NumberOfCalibrations n) = n
value_of (Validity v) = validity_byte v
value_of (FullScale x) = bits_of x
value_of (Calibration n) = n
value_of (Address a) = a
value_of (Baud rate) = rate
value_of ProductType = 0
value_of (DeviceError code) = code

-- bit 7 as it is answered, 0 or 1; 0 where it is not reported
abbrev pub bit_of : Option Bool → ℕ
bit_of none = 0
bit_of (some b) = cond b 1 0

-- the code that 15 carries: the refusal beside which bit 7 is reported
abbrev pub code_of : Numbered → Option Bool → ℕ
code_of n none = 0
code_of n (some b) = carried_by n

-- what was read: the reply's number and value, or the place of a product type's text, or the refusal; each other field is 0
abbrev pub struct : Answered Got → Option Bool → MfcReply
struct (served (value reply)) bit7 =
    record { refusal = 0; code = 0; bit7 = bit_of bit7; reply = kind_of reply; value = value_of reply; text_start = 0; text_length = 0 }
struct (served (text start length)) bit7 =
    record { refusal = 0; code = 0; bit7 = bit_of bit7; reply = 14; value = 0; text_start = start; text_length = length }
struct (refused n) bit7 =
    record { refusal = number_in n; code = code_of n bit7; bit7 = bit_of bit7; reply = 0; value = 0; text_start = 0; text_length = 0 }

abbrev pub reply_in : Answered Got × Option Bool → MfcReply
reply_in answer = struct answer.0 answer.1

-- the reader of a reply: 11 first
unfoldable pub read_answer : ℕ → ℕ → ℕ → List ℕ → MfcReply
read_answer address n v body =
    cond (ltb 20 n) (reply_in (refused (number 11), none)) (reply_in (read_reply address (request_at n v) body))
