-- A request: its own refusals, its bytes on the wire, and its writer. 01, Commands of the SFC6 family and Refusal numbers.
use Rattle.std.specs.Prelude.{ℕ, Bool, cond, ◌&&◌, List, [], ◌∷◌, ◌++◌, ltb, eqb, length, Option, Some, None}
use Rattle.std.specs.Float.{binary32}
use Rattle.std.specs.Float.Ieee.{to_bits}
use Rattle.refusal.specs.Refusals.{Numbered, number, Answered, refused, in_order}
use Rattle.refusal.specs.Room.{lay}
use Rattle.shdlc.specs.Frame.{frame_of}
use Rattle.payload.specs.Field.{big_endian}
use Rattle.sfc6.specs.declared.Request.{Request}
use Rattle.sfc6.specs.declared.form.Size.{Size}
use Rattle.sfc6.specs.declared.form.Size.TheVariants as size
use Rattle.sfc6.specs.declared.Row.{Row}
use Rattle.sfc6.specs.declared.Value.{Value}
use Rattle.sfc6.specs.declared.Value.TheVariants.{Nothing, Float, U32, Address, Baud}
use Rattle.sfc6.specs.Commands.{row, request_at, out_of_range, bad_float, address_to_all}

-- "Order": a request's own refusals, 12, 13, 10, with which both writing a request and both reply jobs start
abbrev pub request_checks : ℕ → Request → List (Bool × Numbered)
request_checks address request =
    (out_of_range (row request).value, number 12)
    ∷ (bad_float (row request).value, number 13)
    ∷ (address_to_all address (row request).value, number 10)
    ∷ []

unfoldable pub check_request : ℕ → Request → Answered (ℕ × Request)
check_request address request = in_order (request_checks address request) (address, request)

-- a request by its number in the table's order and the number that it carries: row 11, "not in the table", for a number over 20; row 12,
-- "a value out of its range", for an address to be set, the request 17, that is no byte
unfoldable pub numbered : ℕ → ℕ → Answered Request
numbered place n = in_order ((ltb 20 place, number 11) ∷ (eqb place 17 && ltb 255 n, number 12) ∷ []) (request_at place n)

-- "Sub is the first data byte."
abbrev pub sub_bytes : Option ℕ → List ℕ
sub_bytes None = []
sub_bytes (Some s) = s ∷ []

-- "Numbers are big-endian." A float goes by its bits.
abbrev pub value_bytes : Value → List ℕ
value_bytes Nothing = []
value_bytes (Float x) = big_endian 4 (to_bits binary32 x)
value_bytes (U32 n) = big_endian 4 n
value_bytes (Address a) = big_endian 1 a
value_bytes (Baud rate) = big_endian 4 rate

-- the bytes of the number that a request carries
abbrev pub bytes_of : Size → ℕ
bytes_of size.Nothing = 0
bytes_of size.Byte = 1
bytes_of size.Four = 4

-- the data of a request, by its row
unfoldable pub data_of : Row → List ℕ
data_of r = sub_bytes r.sub ++ value_bytes r.value

-- 01, Frames on the wire: "address, command, L, L data bytes", the checksum aside
abbrev pub body_with : ℕ → ℕ → List ℕ → List ℕ
body_with address command bytes = address ∷ command ∷ length bytes ∷ bytes

-- the body of the request at a place of the table, with a number in so many bytes as its value takes
abbrev pub body_at : ℕ → ℕ → ℕ → List ℕ
body_at address place n =
    body_with address (row (request_at place 0)).command
    (sub_bytes (row (request_at place 0)).sub ++ big_endian (length (value_bytes (row (request_at place 0)).value)) n)

unfoldable pub body_of : ℕ → Row → List ℕ
body_of address r = body_with address r.command (data_of r)

-- "Order", as 02 (xi) leaves it: writing one 12, 13, 10, 1. "Number 5 stays for reading. The writers' orders lose it."
unfoldable pub frame_to_write : ℕ → Request → Answered (List ℕ)
frame_to_write address request = in_order (request_checks address request) (frame_of (body_of address (row request)))

-- what the writer of a request answers, and what the lent room then holds
unfoldable pub write_request : ℕ → Request → List ℕ → Answered ℕ × List ℕ
write_request address request room = lay (frame_to_write address request) room

-- the same by the request's number: 11 comes first
unfoldable pub write_numbered : ℕ → ℕ → ℕ → List ℕ → Answered ℕ × List ℕ
write_numbered address place n room = cond (ltb 20 place) (refused (number 11), room) (write_request address (request_at place n) room)
