-- 01, Twelve examples to be proved together: "They stand as rows of a single table under one claim about the definitions." The claim is
-- `Every rows`. The proof is `examples` of proofs/Examples.antt.
use Rattle.std.specs.Prelude.{ℕ, ◌≡◌, Bool, false, List, [], ◌∷◌, map, length, replicate, ℤ, pos, negsuc}
use Rattle.std.proofs.Math.Option.{Option, none, some}
use Rattle.std.specs.Float.{binary32}
use Rattle.std.specs.Float.Ieee.{of_int}
use Rattle.refusal.specs.Refusals.{◌carrying◌, Answered, served, refused}
use Rattle.shdlc.specs.declared.Kind.TheVariants as kind
use Rattle.shdlc.specs.Checksum.{checksum_of}
use Rattle.shdlc.specs.Stuffing.{stuff, unstuff}
use Rattle.shdlc.specs.Body.{check_body}
use Rattle.shdlc.specs.Frame.{with_checksum}
use Rattle.shdlc.specs.Stream.{byte, Item, items}
use Rattle.sfc6.specs.declared.Request.{Request}
use Rattle.sfc6.specs.declared.Request.TheVariants.{GetSetpoint, MeasuredValue, GetCalibration, VolatileCalibration, SetAddress}
use Rattle.sfc6.specs.Requests.{write_request}
use Rattle.sfc6.specs.Reading.{and_then, read_request}
use Rattle.replies.specs.declared.Reading.TheVariants.{Finite}
use Rattle.replies.specs.declared.Reply.{Reply}
use Rattle.replies.specs.declared.Reply.TheVariants as replies
use Rattle.replies.specs.Reader.{Got, value, read_reply}
use Rattle.replies.specs.Writer.{write_reply}
use Rattle.i2c.specs.declared.word.Family.{Family}
use Rattle.i2c.specs.declared.word.Family.TheVariants.{Liquid}
use Rattle.i2c.specs.Crc.{crc_of}
use Rattle.i2c.specs.Word.{start_of, read_words}
use Rattle.reading.specs.Reading.{in_thousandths}

-- A row: what an example gives, and what it says of it.
pub data Row : Type 0 where
  -- the bytes of a body before its checksum; the checksum
  checksum : List ℕ → ℕ → Row
  -- data; the same as they are sent; L
  sent : List ℕ → List ℕ → ℕ → Row
  -- a request and its address; the frame
  request : Request → ℕ → List ℕ → Row
  -- a frame; the request that it answers and its address; the reply
  reply : List ℕ → Request → ℕ → Reply → Row
  -- the same where the reply is refusal 15; its code
  error : List ℕ → Request → ℕ → ℕ → Row
  -- bytes; the start value; the CRC
  crc : List ℕ → ℕ → ℕ → Row
  -- a word's bytes; the family; the number
  word : List ℕ → Family → ℕ → Row
  -- raw, offset, scale; the reading in thousandths
  scaled : ℤ → ℤ → ℤ → ℤ → Row

-- room for exactly so many bytes
abbrev pub room_for : List ℕ → List ℕ
room_for bytes = replicate (length bytes) 0

-- the requests on the wire: the items of a stream, each frame read
abbrev pub requests_in : List ℕ → List (Answered (ℕ × Request))
requests_in wire = map (λ item. and_then item read_request) (items kind.Request (map byte wire))

-- the replies on the wire, each frame read against a request; a refusal of the stream reports no bit 7
abbrev pub read_item : ℕ → Request → Item → Answered Got × Option Bool
read_item address asked (served body) = read_reply address asked body
read_item address asked (refused n) = (refused n, none)

abbrev pub replies_in : List ℕ → Request → ℕ → List (Answered Got × Option Bool)
replies_in wire asked address = map (read_item address asked) (items kind.Reply (map byte wire))

-- A row holds. What is written is also read: frames both ways, and data stuffed and unstuffed.
abbrev pub Holds : Row → Type 0
Holds (checksum bytes sum) = checksum_of bytes ≡ sum
Holds (sent payload wire l) =
    (stuff payload ≡ wire)
    × (unstuff wire ≡ served payload)
    × (check_body kind.Request (with_checksum (0 ∷ 0 ∷ l ∷ payload)) ≡ served (with_checksum (0 ∷ 0 ∷ l ∷ payload)))
Holds (request asked address wire) =
    (write_request address asked (room_for wire) ≡ (served (length wire), wire)) × (requests_in wire ≡ served (address, asked) ∷ [])
Holds (reply wire asked address got) =
    (replies_in wire asked address ≡ (served (value got), some false) ∷ [])
    × (write_reply address asked got [] false (room_for wire) ≡ (served (length wire), wire))
Holds (error wire asked address code) =
    (replies_in wire asked address ≡ (refused (15 carrying code), some false) ∷ [])
    × (write_reply address asked (replies.DeviceError code) [] false (room_for wire) ≡ (served (length wire), wire))
Holds (crc bytes start c) = crc_of start bytes ≡ c
Holds (word bytes family n) = read_words (start_of family) bytes (0 ∷ []) ≡ (served 1, n ∷ [])
Holds (scaled raw offset scale thousandths) = in_thousandths raw offset scale ≡ served thousandths

abbrev pub Every : List Row → Type 0
Every [] = Unit {0}
Every (row ∷ rows) = Holds row × Every rows

-- The table, in the bytes of 01. Examples 10 and 12 have a row for each of their facts; `negsuc 0` is -1.
abbrev pub rows : List Row
rows =
    -- 1. "02 43 04 64 A0 22 FC has checksum 94 (002)."
    checksum (0x02 ∷ 0x43 ∷ 0x04 ∷ 0x64 ∷ 0xA0 ∷ 0x22 ∷ 0xFC ∷ []) 0x94
    -- 2. "Data A7 B4 7E 24 is sent A7 B4 7D 5E 24, L = 4 (002)."
    ∷ sent (0xA7 ∷ 0xB4 ∷ 0x7E ∷ 0x24 ∷ []) (0xA7 ∷ 0xB4 ∷ 0x7D ∷ 0x5E ∷ 0x24 ∷ []) 4
    -- 3. "Get setpoint at 0: 7E 00 00 01 01 FD 7E."
    ∷ request GetSetpoint 0 (0x7E ∷ 0x00 ∷ 0x00 ∷ 0x01 ∷ 0x01 ∷ 0xFD ∷ 0x7E ∷ [])
    -- 4. "Get calibration at 3C: 7E 3C 45 00 7D 5E 7E."
    ∷ request GetCalibration 0x3C (0x7E ∷ 0x3C ∷ 0x45 ∷ 0x00 ∷ 0x7D ∷ 0x5E ∷ 0x7E ∷ [])
    -- 5. "Set address 11 hex at 0: 7E 00 90 01 7D 31 5D 7E."
    ∷ request (SetAddress 0x11) 0 (0x7E ∷ 0x00 ∷ 0x90 ∷ 0x01 ∷ 0x7D ∷ 0x31 ∷ 0x5D ∷ 0x7E ∷ [])
    -- 6. "Volatile calibration 1 at 2: 7E 02 46 04 00 00 00 01 B2 7E."
    ∷ request (VolatileCalibration 1) 2 (0x7E ∷ 0x02 ∷ 0x46 ∷ 0x04 ∷ 0x00 ∷ 0x00 ∷ 0x00 ∷ 0x01 ∷ 0xB2 ∷ 0x7E ∷ [])
    -- 7. "Reply 7E 00 08 00 04 3F 80 00 00 34 7E is 1.0."
    ∷ reply (0x7E ∷ 0x00 ∷ 0x08 ∷ 0x00 ∷ 0x04 ∷ 0x3F ∷ 0x80 ∷ 0x00 ∷ 0x00 ∷ 0x34 ∷ 0x7E ∷ []) MeasuredValue 0 (replies.MeasuredValue (Finite (of_int binary32 (pos 1))))
    -- 8. "Reply 7E 00 46 20 00 99 7E is refusal 15, code 32."
    ∷ error (0x7E ∷ 0x00 ∷ 0x46 ∷ 0x20 ∷ 0x00 ∷ 0x99 ∷ 0x7E ∷ []) (VolatileCalibration 1) 0 32
    -- 9. "0E 00 has CRC 6D from start 00 (000)."
    ∷ crc (0x0E ∷ 0x00 ∷ []) 0x00 0x6D
    -- 10. "BE EF has 92 from FF; 00 00 has 81."
    ∷ crc (0xBE ∷ 0xEF ∷ []) 0xFF 0x92
    ∷ crc (0x00 ∷ 0x00 ∷ []) 0xFF 0x81
    -- 11. "00 00 00 is a good liquid word."
    ∷ word (0x00 ∷ 0x00 ∷ 0x00 ∷ []) Liquid 0
    -- 12. "Raw 1, offset 0: scale 2000 gives 1, scale 2001 gives 0; raw -1, scale 2000 gives -1."
    ∷ scaled (pos 1) (pos 0) (pos 2000) (pos 1)
    ∷ scaled (pos 1) (pos 0) (pos 2001) (pos 0)
    ∷ scaled (negsuc 0) (pos 0) (pos 2000) (negsuc 0)
    ∷ []
