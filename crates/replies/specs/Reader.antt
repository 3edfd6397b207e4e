-- 01, Commands of the SFC6 family and Refusal numbers: a reply read from its unstuffed body, and what is refused of it.
use Rattle.std.specs.Prelude.{ℕ, ◌-◌, ◌%◌, Bool, true, cond, not, ◌||◌, ◌&&◌, List, [], ◌∷◌, ◌++◌, leb, eqb, length, get_or, take, drop}
use Rattle.std.proofs.Math.Option.{Option, none, some}
use Rattle.refusal.specs.Refusals.{Numbered, number, ◌carrying◌, number_in, Answered, served, refused, in_order}
use Rattle.shdlc.specs.declared.Kind.TheVariants as kind
use Rattle.shdlc.specs.Body.{body_checks}
use Rattle.payload.specs.Field.{big}
use Rattle.sfc6.specs.Commands.{row}
use Rattle.sfc6.specs.Requests.{request_checks}
use Rattle.sfc6.specs.declared.Request.{Request}
use Rattle.sfc6.specs.declared.Row.{Row}
use Rattle.sfc6.specs.declared.Answer.{Answer}
use Rattle.sfc6.specs.declared.Answer.TheVariants.{Nothing, Float, U16, U32, Validity, Address, Baud, Text}
use Rattle.replies.specs.declared.Reply.{Reply}
use Rattle.replies.specs.Replies.{reply_to, content_of, out_of_range, bad_float}

-- 01, Frames on the wire: a body is address, command, state, L, L data bytes, checksum. The bytes by their places
abbrev pub address_in : List ℕ → ℕ
address_in body = get_or body 0 0

abbrev pub command_in : List ℕ → ℕ
command_in body = get_or body 1 0

-- 01, Commands of the SFC6 family: the error code is "the state's low 7 bits", and the state's bit 7 stands beside it
abbrev pub code_in : List ℕ → ℕ
code_in body = get_or body 2 0 % 128

abbrev pub bit7_in : List ℕ → Bool
bit7_in body = leb 0x80 (get_or body 2 0)

abbrev pub length_in : List ℕ → ℕ
length_in body = get_or body 3 0

-- the L data bytes, which stand before the checksum
unfoldable pub data_in : List ℕ → List ℕ
data_in body = take (length body - 5) (drop 4 body)

-- 01, Commands of the SFC6 family, the table: the data length by the column Reply; "a string may have any length"
abbrev pub size_of : Answer → Option ℕ
size_of Nothing = some 0
size_of Float = some 4
size_of U16 = some 2
size_of U32 = some 4
size_of Validity = some 1
size_of Address = some 1
size_of Baud = some 4
size_of Text = none

-- whether a length is the table's
abbrev pub is_size : Option ℕ → ℕ → Bool
is_size none n = true
is_size (some size) n = eqb n size

-- 01, Commands of the SFC6 family: "Refusal 14 holds if the request went to 255, address or command differs [..], the error code is
-- non-zero and L is not 0, or the code is zero and the data length is not the table's"
unfoldable pub foreign : ℕ → Row → List ℕ → Bool
foreign address r body =
    eqb address 255
    || not (eqb (address_in body) address)
    || not (eqb (command_in body) r.command)
    || cond (eqb (code_in body) 0) (not (is_size (size_of r.answer) (length_in body))) (not (eqb (length_in body) 0))

-- 01, Commands of the SFC6 family: "Strings: read as the part before the first 00, or all of it where no 00 is present."
unfoldable pub text_in : List ℕ → List ℕ
text_in [] = []
text_in (b ∷ bytes) = cond (eqb b 0) [] (b ∷ text_in bytes)

-- what is read: a reply, or the text of a product type by its place and its length in the body
pub data Got : Type 0 where
  value : Reply → Got
  text : ℕ → ℕ → Got

-- a product type by the text in its data, any other reply by the number that its data stand for
abbrev pub got_by : Option ℕ → Request → List ℕ → Got
got_by none request payload = text 4 (length (text_in payload))
got_by (some size) request payload = value (reply_to request (big payload))

-- 01, Refusal numbers, rows 12 and 13, of the reply that the data stand for
abbrev pub value_checks : Reply → List (Bool × Numbered)
value_checks reply = (out_of_range (content_of reply), number 12) ∷ (bad_float (content_of reply), number 13) ∷ []

-- 01, Refusal numbers, "Order": "then 14, 15, 12, 13"; "Any non-zero code in the state's low 7 bits with L = 0 is 15."
abbrev pub read_checks : ℕ → Request → List ℕ → List (Bool × Numbered)
read_checks address request body =
    (foreign address (row request) body, number 14)
    ∷ (not (eqb (code_in body) 0) && eqb (length_in body) 0, 15 carrying code_in body)
    ∷ value_checks (reply_to request (big (data_in body)))

-- 01, Refusal numbers, "Order": the request's own 12, 13, 10; "Reading a reply goes on with 5, 6, 7, 8 over the body", then those
-- above
unfoldable pub answer_to : ℕ → Request → List ℕ → Answered Got
answer_to address request body =
    in_order (request_checks address request ++ (body_checks kind.Reply body ++ read_checks address request body))
    (got_by (size_of (row request).answer) request (data_in body))

-- 01, Commands of the SFC6 family: "Bit 7 is reported beside an accepted reply and beside 15, beside no other refusal"
abbrev pub reported : Answered Got → Bool → Option Bool
reported (served got) bit7 = some bit7
reported (refused n) bit7 = cond (eqb (number_in n) 15) (some bit7) none

-- an answer, and bit 7 where it is reported
abbrev pub with_bit7 : Answered Got → Bool → Answered Got × Option Bool
with_bit7 answer bit7 = (answer, reported answer bit7)

-- what the reader of a reply answers
unfoldable pub read_reply : ℕ → Request → List ℕ → Answered Got × Option Bool
read_reply address request body = with_bit7 (answer_to address request body) (bit7_in body)
