-- Demand 2 for replies, "honest writing must be read back": the claim, over the definitions and for all values. The proof is
-- `read_back` of proofs/ReadBack.antt. A writer that refuses everything, or that gives the same frame each time, does not meet it.
use Rattle.std.specs.Prelude.{ℕ, ◌^◌, ◌≤◌, ◌<◌, ◌≡◌, Bool, true, false, cond, not, List, [], ◌∷◌, ◌++◌, map, T, ltb, eqb, length, take, drop}
use Rattle.std.proofs.Math.Option.{some}
use Rattle.std.specs.Float.{binary32}
use Rattle.std.specs.Float.Ieee.{fits}
use Rattle.refusal.specs.Refusals.{number, ◌carrying◌, Answered, served, refused, in_order}
use Rattle.refusal.specs.Room.{emit}
use Rattle.refusal.specs.Order.{Passed, Decides}
use Rattle.shdlc.specs.declared.Kind.TheVariants as kind
use Rattle.shdlc.specs.Frame.{with_checksum}
use Rattle.shdlc.specs.ReadBack.{closed}
use Rattle.shdlc.specs.Stream.{byte, items}
use Rattle.payload.specs.Field.{big}
use Rattle.sfc6.specs.Commands.{row}
use Rattle.sfc6.specs.Requests.{request_checks}
use Rattle.sfc6.specs.ReadBack.{Received}
use Rattle.sfc6.specs.declared.Request.{Request}
use Rattle.sfc6.specs.declared.Request.TheVariants as ask
use Rattle.replies.specs.declared.Reading.{Reading}
use Rattle.replies.specs.declared.Reading.TheVariants.{Finite, Invalid, PlusInfinity, MinusInfinity}
use Rattle.replies.specs.declared.Reply.{Reply}
use Rattle.replies.specs.declared.Reply.TheVariants as say
use Rattle.replies.specs.declared.Reply.TheVariants.{ProductType, DeviceError}
use Rattle.replies.specs.declared.Content.{Content}
use Rattle.replies.specs.declared.Content.TheVariants.{Nothing, Float, U16, U32, Validity, Address, Baud, Text, Error}
use Rattle.replies.specs.Replies.{content_of}
use Rattle.replies.specs.Writer.{data_of, body_of, frame_for, write_checks, frame_to_write, write_reply}
use Rattle.replies.specs.Reader.{data_in, text_in, Got, value, text, read_reply}

-- what every value of the code's types has: a number fits it, and a float is one of single precision
abbrev pub FitsReading : Reading → Type 0
FitsReading (Finite x) = T (fits binary32 x)
FitsReading Invalid = Unit {0}
FitsReading PlusInfinity = Unit {0}
FitsReading MinusInfinity = Unit {0}

abbrev pub Fits : Content → Type 0
Fits Nothing = Unit {0}
Fits (Float x) = FitsReading x
Fits (U16 n) = n < 2 ^ 16
Fits (U32 n) = n < 2 ^ 32
Fits (Validity v) = Unit {0}
Fits (Address a) = a < 2 ^ 8
Fits (Baud rate) = rate < 2 ^ 32
Fits Text = Unit {0}
Fits (Error code) = code < 2 ^ 8

-- how a reply that was written is read: as the same reply; a product type by the place and the length of its text; an error answer
-- "is read back as 15"
abbrev pub comes_back : Reply → List ℕ → Content → Answered Got
comes_back reply words Nothing = served (value reply)
comes_back reply words (Float x) = served (value reply)
comes_back reply words (U16 n) = served (value reply)
comes_back reply words (U32 n) = served (value reply)
comes_back reply words (Validity v) = served (value reply)
comes_back reply words (Address a) = served (value reply)
comes_back reply words (Baud rate) = served (value reply)
comes_back reply words Text = served (text 4 (length words))
comes_back reply words (Error code) = refused (15 carrying code)

-- 02 (ii): "a validity reply, like a string, may come back with other bytes when read and written again": one whose byte is over 1
abbrev pub over_one : Content → List ℕ → Bool
over_one Nothing payload = false
over_one (Float x) payload = false
over_one (U16 n) payload = false
over_one (U32 n) payload = false
over_one (Validity v) payload = ltb 1 (big payload)
over_one (Address a) payload = false
over_one (Baud rate) payload = false
over_one Text payload = false
over_one (Error code) payload = false

-- what was read, as it is given to the writer
abbrev pub reply_of : Got → Reply
reply_of (value reply) = reply
reply_of (text place n) = ProductType

-- and the text beside it: of a string the one that stands in its body, of any other reply whichever
abbrev pub Beside : Got → List ℕ → List ℕ → Type 0
Beside (value reply) body words = Unit {0}
Beside (text place n) body words = take n (drop place body) ≡ words

pub record ReadBack : Type 0 where
  -- the bytes written are a stream of exactly one item, a frame; its body is read as the same reply with the same bit 7, and the
  -- text that stands in it is the text written
  pub written_then_read : (address : ℕ) (request : Request) (reply : Reply) (words : List ℕ) (bit7 : Bool) → Fits (content_of reply)
      → (room after : List ℕ) (n : ℕ) → write_reply address request reply words bit7 room ≡ (served n, after)
      → (body : List ℕ)
      × (items kind.Reply (map byte (take n after)) ≡ served body ∷ [])
      × (read_reply address request body ≡ (comes_back reply words (content_of reply), some bit7))
      × (content_of reply ≡ Text → take (length words) (drop 4 body) ≡ words)
  -- "every other good reply comes back byte for byte", from the wire on, whatever text stands beside it; after 02 (ii) a validity just
  -- where its byte is 00 or 01, by this part and `over-one_then_written`
  pub read_then_written : (stretch body : List ℕ) → Received kind.Reply stretch body → (address : ℕ) (request : Request) (reply : Reply) (bit7 : Bool)
      → read_reply address request body ≡ (served (value reply), some bit7) → over_one (content_of reply) (data_in body) ≡ false
      → (words room : List ℕ) → write_reply address request reply words bit7 room ≡ emit (closed stretch) room
  -- an error answer too
  pub error_then_written : (stretch body : List ℕ) → Received kind.Reply stretch body → (address : ℕ) (request : Request) (code : ℕ) (bit7 : Bool)
      → read_reply address request body ≡ (refused (15 carrying code), some bit7)
      → (words room : List ℕ) → write_reply address request (DeviceError code) words bit7 room ≡ emit (closed stretch) room
  -- 02 (ii): a validity byte over 1 is yes, and "Writing yes still sends 01", so the bytes are never those that were read
  pub over-one_then_written : (stretch body : List ℕ) → Received kind.Reply stretch body → (address : ℕ) (request : Request) (reply : Reply) (bit7 : Bool)
      → read_reply address request body ≡ (served (value reply), some bit7) → over_one (content_of reply) (data_in body) ≡ true
      → (content_of reply ≡ Validity true)
      × ((words room : List ℕ)
      → write_reply address request reply words bit7 room ≡ emit (frame_for address (row request).command (Validity true) words bit7) room)
      × ((words : List ℕ) → frame_for address (row request).command (Validity true) words bit7 ≡ closed stretch → ⊥)
  -- a string that is read: its text is the part of the data before the first 00, and stands at the place that is answered
  pub text_read : (address : ℕ) (request : Request) (body : List ℕ) (place n : ℕ) (bit7 : Bool)
      → read_reply address request body ≡ (served (text place n), some bit7) → take n (drop place body) ≡ text_in (data_in body)
  -- "a string reply read and written again may change its length": the text with one 00; "255 bytes without 00 are read but not
  -- written"
  pub text_then_written : (address : ℕ) (request : Request) (body : List ℕ) (place n : ℕ) (bit7 : Bool)
      → read_reply address request body ≡ (served (text place n), some bit7) → (room : List ℕ)
      → (n ≤ 254
      → write_reply address request ProductType (take n (drop place body)) bit7 room
      ≡ emit (frame_for address (row request).command Text (text_in (data_in body)) bit7) room)
      × (254 < n → write_reply address request ProductType (take n (drop place body)) bit7 room ≡ (refused (number 12), room))
  -- and where the data end in their only 00, it comes back byte for byte as well
  pub whole_text_then_written : (stretch body : List ℕ) → Received kind.Reply stretch body → (address : ℕ) (request : Request) (place n : ℕ) (bit7 : Bool)
      → read_reply address request body ≡ (served (text place n), some bit7) → data_in body ≡ text_in (data_in body) ++ (0 ∷ [])
      → (room : List ℕ) → write_reply address request ProductType (take n (drop place body)) bit7 room ≡ emit (closed stretch) room
  -- 02 (ii), "demand 2 speaks of its meaning there": what is read, written and read again is the same reply, with the same bit 7 and,
  -- of a string, the same text
  pub read-written-read : (stretch body : List ℕ) → Received kind.Reply stretch body → (address : ℕ) (request : Request) (got : Got) (bit7 : Bool)
      → read_reply address request body ≡ (served got, some bit7) → (words : List ℕ) → Beside got body words
      → (room after : List ℕ) (n : ℕ) → write_reply address request (reply_of got) words bit7 room ≡ (served n, after)
      → (again : List ℕ)
      × (items kind.Reply (map byte (take n after)) ≡ served again ∷ [])
      × (read_reply address request again ≡ (served got, some bit7))
      × Beside got again words
  -- 02 (ii), "0 is no, all others are yes": a reply to command 40, subcommand 10, with one data byte is read whichever it is. "Refusal 12
  -- no longer arises for this byte."
  pub validity_read : (address index b : ℕ) (bit7 : Bool) → (address ≡ 255 → ⊥)
      → read_reply address (ask.Validity index) (with_checksum (body_of address 0x40 (cond bit7 0x80 0) (b ∷ [])))
      ≡ (served (value (say.Validity (not (eqb b 0)))), some bit7)
  -- when the writer gives each of its answers: the request's own 12, 13, 10, then 14, 12, 13 in their order, then 1
  pub decides : (address : ℕ) (request : Request) (reply : Reply) (words : List ℕ) (bit7 : Bool) (room : List ℕ)
      → Decides (request_checks address request ++ write_checks address request reply words)
      (frame_for address (row request).command (content_of reply) words bit7) room (write_reply address request reply words bit7 room).0
  -- 02 (xi), "the longest reply is 254 of text and its 00": one that none of 14, 12, 13 refuses has at most 255 data bytes, so L is one
  -- byte,
  pub at-most_255 : (address : ℕ) (request : Request) (reply : Reply) (words : List ℕ) → Passed (write_checks address request reply words)
      → length (data_of (content_of reply) words) ≤ 255
  -- and "refusal 5 never arises when writing": 01's test of 5, "for data over 255 bytes", at its place in the order changes no answer
  pub never_5 : (address : ℕ) (request : Request) (reply : Reply) (words : List ℕ) (bit7 : Bool)
      → in_order (request_checks address request ++ (write_checks address request reply words ++ ((ltb 255 (length (data_of (content_of reply) words)), number 5) ∷ [])))
      (frame_for address (row request).command (content_of reply) words bit7)
      ≡ frame_to_write address request reply words bit7
