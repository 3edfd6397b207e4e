-- A request read from its body. 01, Commands of the SFC6 family and Refusal numbers.
use Rattle.std.specs.Prelude.{ℕ, ◌-◌, Bool, true, false, cond, ◌&&◌, List, [], ◌∷◌, eqb, length, take, drop, get_or, Option, Some, None}
use Rattle.refusal.specs.Refusals.{number, Answered, served, refused}
use Rattle.shdlc.specs.declared.Kind.TheVariants as kind
use Rattle.shdlc.specs.Body.{check_body}
use Rattle.payload.specs.Field.{big}
use Rattle.sfc6.specs.declared.Request.{Request}
use Rattle.sfc6.specs.declared.Row.{Row}
use Rattle.sfc6.specs.Commands.{row, table, request_at}
use Rattle.sfc6.specs.Requests.{check_request, sub_bytes, data_of}

-- row 11, "command or subcommand not in the table; subcommand missing": a row is named by its command and, where it has one, by its
-- subcommand as the first data byte
unfoldable pub starts_with : Option ℕ → List ℕ → Bool
starts_with None payload = true
starts_with (Some s) [] = false
starts_with (Some s) (b ∷ payload) = eqb b s

unfoldable pub named : ℕ → List ℕ → Row → Bool
named command payload r = eqb command r.command && starts_with r.sub payload

-- row 12, "a request's data length not in the table": there are as many data bytes as the row has
unfoldable pub fitting : ℕ → List ℕ → Row → Bool
fitting command payload r = named command payload r && eqb (length payload) (length (data_of r))

-- the first request of a table whose row passes a test; a row's command, subcommand and size are the same for each number, so for 0
unfoldable pub first : (Row → Bool) → List (ℕ → Request) → Option (ℕ → Request)
first test [] = None
first test (request ∷ requests) = cond (test (row (request 0))) (Some request) (first test requests)

-- a place in the table is the request that stands there
abbrev pub found_at : Option ℕ → Option (ℕ → Request)
found_at (Some place) = Some (request_at place)
found_at None = None

-- the number that stands after the subcommand
unfoldable pub carried : Row → List ℕ → ℕ
carried r payload = big (drop (length (sub_bytes r.sub)) payload)

-- a refusal where nothing was found, and the first of two refusals
abbrev pub found_or : {A B : Type 0} → ℕ → Option A → (A → Answered B) → Answered B
found_or n None next = refused (number n)
found_or n (Some a) next = next a

-- the request that a command and its data are: 11 where no row has the command and subcommand, 12 where none of them has the length
unfoldable pub typed : ℕ → List ℕ → Answered Request
typed command payload =
    found_or 11 (first (named command payload) table) (λ _.
    found_or 12 (first (fitting command payload) table) (λ request.
    served (request (carried (row (request 0)) payload))))

abbrev pub and_then : {A B : Type 0} → Answered A → (A → Answered B) → Answered B
and_then (served a) next = next a
and_then (refused n) next = refused n

-- the data bytes of a body
abbrev pub payload_of : List ℕ → List ℕ
payload_of body = take (length body - 4) (drop 3 body)

-- "Order": "reading a request 5, 6, 7, 8 over the unstuffed body offered, then 11, 12, 13, 10": its address and the request
unfoldable pub read_request : List ℕ → Answered (ℕ × Request)
read_request offered =
    and_then (check_body kind.Request offered) (λ body.
    and_then (typed (get_or body 1 0) (payload_of body)) (λ request.
    check_request (get_or body 0 0) request))
