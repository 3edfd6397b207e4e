-- Demand 2 for requests, "honest writing must be read back": the claim, over the definitions and for all values. The proof is
-- `read_back` of proofs/ReadBack.antt. A writer that refuses everything, or that gives the same frame each time, does not meet it.
use Rattle.std.specs.Prelude.{ℕ, ◌+◌, ◌^◌, ◌≤◌, ◌<◌, ◌≡◌, List, [], ◌∷◌, ◌++◌, map, T, ltb, length, take}
use Rattle.std.specs.Float.{binary32}
use Rattle.std.specs.Float.Ieee.{fits}
use Rattle.refusal.specs.Refusals.{number, Answered, served, in_order}
use Rattle.refusal.specs.Room.{overlay, emit}
use Rattle.refusal.specs.Order.{Decides}
use Rattle.shdlc.specs.declared.Kind.{Kind}
use Rattle.shdlc.specs.declared.Kind.TheVariants as kind
use Rattle.shdlc.specs.ReadBack.{closed, Unbroken}
use Rattle.shdlc.specs.Frame.{with_checksum, frame_of}
use Rattle.shdlc.specs.Stream.{byte, items}
use Rattle.payload.specs.Field.{Bytes}
use Rattle.sfc6.specs.declared.Request.{Request}
use Rattle.sfc6.specs.declared.Value.{Value}
use Rattle.sfc6.specs.declared.Value.TheVariants.{Nothing, Float, U32, Address, Baud}
use Rattle.sfc6.specs.Commands.{row, request_at, place_of, value_of}
use Rattle.sfc6.specs.Requests.{request_checks, data_of, body_of, frame_to_write, write_request}
use Rattle.sfc6.specs.Rounds.{round}
use Rattle.sfc6.specs.Reading.{read_request}

-- what every value of the code's type has: a number fits it, and a float is one of single precision
abbrev pub Fits : Value → Type 0
Fits Nothing = Unit {0}
Fits (Float x) = T (fits binary32 x)
Fits (U32 n) = n < 2 ^ 32
Fits (Address a) = a < 2 ^ 8
Fits (Baud rate) = rate < 2 ^ 32

-- a stretch of bytes on the wire gives a frame with this body
abbrev pub Received : Kind → List ℕ → List ℕ → Type 0
Received kind stretch body = Bytes stretch × Unbroken stretch × (items kind (map byte (closed stretch)) ≡ served body ∷ [])

-- the frames of requests, each to its node, one after another
unfoldable pub frames_of : List (ℕ × Request) → List ℕ
frames_of [] = []
frames_of (asked ∷ rest) = frame_of (body_of asked.0 (row asked.1)) ++ frames_of rest

-- the whole body of a request to a node
abbrev pub body_to : ℕ × Request → List ℕ
body_to asked = with_checksum (body_of asked.0 (row asked.1))

abbrev pub AllFit : List (ℕ × Request) → Type 0
AllFit [] = Unit {0}
AllFit (asked ∷ rest) = Fits (row asked.1).value × AllFit rest

-- a polling round, whole or ended by a refusal: the frames that it counts stand from its start on, and all else is as it was; they are
-- a stream of as many items, and each body is read as its node and its request
pub record Stands (buffer : List ℕ) (start : ℕ) (asked : List (ℕ × Request)) (frames end : ℕ) (outcome : Answered (Unit {0})) (after : List ℕ) : Type 0 where
  pub counted : frames ≤ length asked
  pub whole : outcome ≡ served tt → frames ≡ length asked
  pub laid : after ≡ overlay buffer start (frames_of (take frames asked))
  pub ends : end ≡ start + length (frames_of (take frames asked))
  pub gives : items kind.Request (map byte (frames_of (take frames asked))) ≡ map (λ q. served (body_to q)) (take frames asked)
  pub are_read : AllFit asked → map (λ q. read_request (body_to q)) (take frames asked) ≡ map served (take frames asked)

pub record ReadBack : Type 0 where
  -- the bytes written are a stream of exactly one item, a frame, and its body is read as the same address and request
  pub written_then_read : (address : ℕ) (request : Request) → Fits (row request).value → (room after : List ℕ) (n : ℕ)
      → write_request address request room ≡ (served n, after)
      → (body : List ℕ) × (items kind.Request (map byte (take n after)) ≡ served body ∷ []) × (read_request body ≡ served (address, request))
  -- a frame from the wire that is read and written again comes to the same bytes
  pub read_then_written : (stretch body : List ℕ) → Received kind.Request stretch body → (address : ℕ) (request : Request)
      → read_request body ≡ served (address, request) → (room : List ℕ) → write_request address request room ≡ emit (closed stretch) room
  -- when the writer gives each of its answers: 12, 13, 10 in their order, then 1
  pub decides : (address : ℕ) (request : Request) (room : List ℕ)
      → Decides (request_checks address request) (frame_of (body_of address (row request))) room (write_request address request room).0
  -- 02 (xi), "The longest request carries 5 data bytes": why L is one byte,
  pub at-most_5 : (request : Request) → length (data_of (row request)) ≤ 5
  -- and why "refusal 5 never arises when writing": 01's test of 5, "for data over 255 bytes", at its place in the order changes no answer
  pub never_5 : (address : ℕ) (request : Request)
      → in_order (request_checks address request ++ ((ltb 255 (length (data_of (row request))), number 5) ∷ [])) (frame_of (body_of address (row request)))
      ≡ frame_to_write address request
  -- a request is its number in the table and the number that it carries, by which C writes and reads it
  pub by_number : (request : Request) → Fits (row request).value
      → (place_of request ≤ 20) × (request_at (place_of request) (value_of request) ≡ request)
  -- a polling round leaves its frames, whole or ended by a refusal
  pub round_stands : (buffer : List ℕ) (start : ℕ) (asked : List (ℕ × Request)) (frames end : ℕ) (outcome : Answered (Unit {0})) (after : List ℕ)
      → round buffer start asked ≡ ((frames, end, outcome), after) → Stands buffer start asked frames end outcome after
