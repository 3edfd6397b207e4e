-- The table of the requests and their replies, in one law over all requests. Assumes nothing.
use mathlib.Core.Path.{◌≡◌, refl}
use mathlib.Core.List.{[], ◌∷◌}
use mathlib.Core.Option.{none, some}
use Prim.Native.Nat.{ℕ}
use native.Mathlib.Omega.{arith}
use lib.ListN.{get_or}
use Rattle.sfc6.specs.declared.Request.{Request}
use Rattle.sfc6.specs.declared.Request.TheVariants as request
use Rattle.sfc6.specs.declared.Answer.{Answer}
use Rattle.sfc6.specs.declared.Answer.TheVariants as answer
use Rattle.sfc6.specs.Commands.{row}
use Rattle.replies.specs.declared.Reply.{Reply}
use Rattle.replies.specs.declared.Reply.TheVariants.{Acknowledged, Setpoint, MeasuredValue, Gain, InitStep, RawFlow, RawConductivity, Temperature, NumberOfCalibrations, Validity, FullScale, Calibration, Address, Baud, ProductType}
use Rattle.replies.specs.declared.Content.{Content}
use Rattle.replies.specs.declared.Content.TheVariants as content
use Rattle.replies.specs.Replies.{reading_of, validity_of, reply_to, kind_of, content_of}
use Rattle.replies.specs.Reader.{size_of}

-- what is carried by the reply of a number, by the form that the table says
unfoldable pub content_from : Answer → ℕ → Content
content_from answer.Nothing n = content.Nothing
content_from answer.Float n = content.Float (reading_of n)
content_from answer.U16 n = content.U16 n
content_from answer.U32 n = content.U32 n
content_from answer.Validity n = content.Validity (validity_of n)
content_from answer.Address n = content.Address n
content_from answer.Baud n = content.Baud n
content_from answer.Text n = content.Text

-- the replies by the number of their kind: one table between requests and replies
abbrev pub reply_at : ℕ → ℕ → Reply
reply_at k =
    get_or
    ((λ n. Acknowledged)
    ∷ (λ n. Setpoint (reading_of n))
    ∷ (λ n. MeasuredValue (reading_of n))
    ∷ (λ n. Gain (reading_of n))
    ∷ (λ n. InitStep (reading_of n))
    ∷ RawFlow
    ∷ RawConductivity
    ∷ (λ n. Temperature (reading_of n))
    ∷ NumberOfCalibrations
    ∷ (λ n. Validity (validity_of n))
    ∷ (λ n. FullScale (reading_of n))
    ∷ Calibration
    ∷ Address
    ∷ Baud
    ∷ [])
    k (λ n. ProductType)

abbrev pub answer_at : ℕ → Answer
answer_at k =
    get_or
    (answer.Nothing ∷ answer.Float ∷ answer.Float ∷ answer.Float ∷ answer.Float ∷ answer.U16 ∷ answer.U16 ∷ answer.Float ∷ answer.U32
    ∷ answer.Validity ∷ answer.Float ∷ answer.U32 ∷ answer.Address ∷ answer.Baud ∷ [])
    k answer.Text

some_not_none : {A : Type 0} {n : ℕ} → some n ≡ none → A
some_not_none h = absurd (let z : ◌≡◌ {A = ℕ} 0 1 = cc in omega arith)

-- what the table of the requests says of a request, of its reply and of the number that the data stand for
pub record Tabled (q : Request) (n : ℕ) : Type 0 where
  pub reply : reply_to q n ≡ reply_at (kind_of (reply_to q 0)) n
  pub form : (row q).answer ≡ answer_at (kind_of (reply_to q 0))
  pub kind : kind_of (reply_to q n) ≡ kind_of (reply_to q 0)
  pub carried : content_of (reply_to q n) ≡ content_from (row q).answer n
  pub text : size_of (row q).answer ≡ none → kind_of (reply_to q 0) ≡ 14

pub tabled : (q : Request) (n : ℕ) → Tabled q n
unfolding row content_from
tabled request.GetSetpoint n = record { reply = refl; form = refl; kind = refl; carried = refl; text = some_not_none }
tabled (request.SetSetpoint x) n = record { reply = refl; form = refl; kind = refl; carried = refl; text = some_not_none }
tabled request.MeasuredValue n = record { reply = refl; form = refl; kind = refl; carried = refl; text = some_not_none }
tabled request.GetGain n = record { reply = refl; form = refl; kind = refl; carried = refl; text = some_not_none }
tabled (request.SetGain x) n = record { reply = refl; form = refl; kind = refl; carried = refl; text = some_not_none }
tabled request.GetInitStep n = record { reply = refl; form = refl; kind = refl; carried = refl; text = some_not_none }
tabled (request.SetInitStep x) n = record { reply = refl; form = refl; kind = refl; carried = refl; text = some_not_none }
tabled request.RawFlow n = record { reply = refl; form = refl; kind = refl; carried = refl; text = some_not_none }
tabled request.RawConductivity n = record { reply = refl; form = refl; kind = refl; carried = refl; text = some_not_none }
tabled request.Temperature n = record { reply = refl; form = refl; kind = refl; carried = refl; text = some_not_none }
tabled request.NumberOfCalibrations n = record { reply = refl; form = refl; kind = refl; carried = refl; text = some_not_none }
tabled (request.Validity index) n = record { reply = refl; form = refl; kind = refl; carried = refl; text = some_not_none }
tabled request.FullScale n = record { reply = refl; form = refl; kind = refl; carried = refl; text = some_not_none }
tabled request.GetCalibration n = record { reply = refl; form = refl; kind = refl; carried = refl; text = some_not_none }
tabled (request.SetCalibration c) n = record { reply = refl; form = refl; kind = refl; carried = refl; text = some_not_none }
tabled (request.VolatileCalibration c) n = record { reply = refl; form = refl; kind = refl; carried = refl; text = some_not_none }
tabled request.GetAddress n = record { reply = refl; form = refl; kind = refl; carried = refl; text = some_not_none }
tabled (request.SetAddress a) n = record { reply = refl; form = refl; kind = refl; carried = refl; text = some_not_none }
tabled request.GetBaud n = record { reply = refl; form = refl; kind = refl; carried = refl; text = some_not_none }
tabled (request.SetBaud rate) n = record { reply = refl; form = refl; kind = refl; carried = refl; text = some_not_none }
tabled request.ProductType n = record { reply = refl; form = refl; kind = refl; carried = refl; text = λ h. refl }
