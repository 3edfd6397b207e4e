-- 01, Commands of the SFC6 family and Refusal numbers: a reply on the wire, what is refused of it, and in which order.
use Rattle.std.specs.Prelude.{ℕ, ◌+◌, Bool, false, cond, not, ◌||◌, List, [], ◌∷◌, ◌++◌, ltb, eqb, length}
use Rattle.refusal.specs.Refusals.{Numbered, number, Answered, in_order}
use Rattle.refusal.specs.Room.{lay}
use Rattle.shdlc.specs.Frame.{frame_of}
use Rattle.payload.specs.Field.{big_endian}
use Rattle.sfc6.specs.Commands.{row, member}
use Rattle.sfc6.specs.Requests.{request_checks}
use Rattle.sfc6.specs.declared.Request.{Request}
use Rattle.replies.specs.declared.Reply.{Reply}
use Rattle.replies.specs.declared.Content.{Content}
use Rattle.replies.specs.declared.Content.TheVariants.{Nothing, Float, U16, U32, Validity, Address, Baud, Text, Error}
use Rattle.replies.specs.Replies.{bits_of, validity_byte, suits, content_of, out_of_range, bad_float}

-- 01, Commands of the SFC6 family: "text holding 00 or over 254 bytes is 12; beside any other reply, text is not looked at"
abbrev pub bad_text : Content → List ℕ → Bool
bad_text Nothing text = false
bad_text (Float x) text = false
bad_text (U16 n) text = false
bad_text (U32 n) text = false
bad_text (Validity v) text = false
bad_text (Address a) text = false
bad_text (Baud rate) text = false
bad_text Text text = ltb 254 (length text) || member 0 text
bad_text (Error code) text = false

-- 01, Commands of the SFC6 family: "Numbers are big-endian." A float goes by its bits, a string "with exactly one 00 at the end",
-- an error with L = 0
abbrev pub data_of : Content → List ℕ → List ℕ
data_of Nothing text = []
data_of (Float x) text = big_endian 4 (bits_of x)
data_of (U16 n) text = big_endian 2 n
data_of (U32 n) text = big_endian 4 n
data_of (Validity v) text = big_endian 1 (validity_byte v)
data_of (Address a) text = big_endian 1 a
data_of (Baud rate) text = big_endian 4 rate
data_of Text text = text ++ (0 ∷ [])
data_of (Error code) text = []

-- the error code that goes into the low 7 bits of the state: 0 is no error
abbrev pub code_of : Content → ℕ
code_of Nothing = 0
code_of (Float x) = 0
code_of (U16 n) = 0
code_of (U32 n) = 0
code_of (Validity v) = 0
code_of (Address a) = 0
code_of (Baud rate) = 0
code_of Text = 0
code_of (Error code) = code

-- 01, Commands of the SFC6 family: "Bit 7 is given to the writer too."
abbrev pub state_of : Content → Bool → ℕ
state_of content bit7 = code_of content + cond bit7 0x80 0

-- 01, Frames on the wire: address, command, state, L, L data bytes, the checksum aside
unfoldable pub body_of : ℕ → ℕ → ℕ → List ℕ → List ℕ
body_of address command state payload = address ∷ command ∷ state ∷ length payload ∷ payload

-- the frame of a reply, by what it carries
unfoldable pub frame_for : ℕ → ℕ → Content → List ℕ → Bool → List ℕ
frame_for address command content text bit7 = frame_of (body_of address command (state_of content bit7) (data_of content text))

-- 01, Refusal numbers, "Order", as 02 (xi) leaves it: the request's own 12, 13, 10, then 14, 12, 13, 1. "Number 5 stays for reading. The
-- writers' orders lose it." 01: "any other kind offered to a writer is 14, as is any reply to 255".
abbrev pub write_checks : ℕ → Request → Reply → List ℕ → List (Bool × Numbered)
write_checks address request reply text =
    (eqb address 255 || not (suits request reply), number 14)
    ∷ (out_of_range (content_of reply) || bad_text (content_of reply) text, number 12)
    ∷ (bad_float (content_of reply), number 13)
    ∷ []

-- the frame of a reply that is not refused
unfoldable pub frame_to_write : ℕ → Request → Reply → List ℕ → Bool → Answered (List ℕ)
frame_to_write address request reply text bit7 =
    in_order (request_checks address request ++ write_checks address request reply text)
    (frame_for address (row request).command (content_of reply) text bit7)

-- what the writer of a reply answers, and what the lent room then holds; number 1 comes last
unfoldable pub write_reply : ℕ → Request → Reply → List ℕ → Bool → List ℕ → Answered ℕ × List ℕ
write_reply address request reply text bit7 room = lay (frame_to_write address request reply text bit7) room
