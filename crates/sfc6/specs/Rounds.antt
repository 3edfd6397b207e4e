-- Frames one after another in one buffer. 01, Commands of the SFC6 family: "A polling round lays its frames one after another, each
-- into the room left in the middle of the buffer. Each frame is one call. If it does not fit, or its starting place is past the
-- buffer, 1 is given with nothing changed by that call; earlier frames stand."
use Rattle.std.specs.Prelude.{ℕ, ◌+◌, List, [], ◌∷◌, ◌++◌, map, take, drop}
use Rattle.refusal.specs.Refusals.{Answered, served, refused, answered}
use Rattle.sfc6.specs.declared.Request.{Request}
use Rattle.sfc6.specs.declared.Round.{Round}
use Rattle.sfc6.specs.Requests.{write_request, write_numbered}

-- one call: a writer into the room from the starting place on; what stands before it stays. Past the buffer there is no room.
abbrev pub from : List ℕ → ℕ → (List ℕ → Answered ℕ × List ℕ) → Answered ℕ × List ℕ
from buffer start write = ((write (drop start buffer)).0, take start buffer ++ (write (drop start buffer)).1)

unfoldable pub append_request : List ℕ → ℕ → ℕ → Request → Answered ℕ × List ℕ
append_request buffer start address request = from buffer start (write_request address request)

-- the same by the request's number
unfoldable pub append_numbered : List ℕ → ℕ → ℕ → ℕ → ℕ → Answered ℕ × List ℕ
append_numbered buffer start address place n = from buffer start (write_numbered address place n)

-- What a polling round answers: how many frames stand, the place after them, and the refusal that ended it, if one did.
abbrev pub Laid : Type 0
Laid = ℕ × ℕ × Answered (Unit {0})

-- the same, as the code gives it
abbrev pub laid_by : Round → Laid
laid_by r = (r.frames, r.end, answered r.outcome)

-- after one call: the rest of the round goes on from the end of its frame, or the round is over
abbrev pub round_on : (ℕ → ℕ → List ℕ → Laid × List ℕ) → ℕ → ℕ → Answered ℕ → List ℕ → Laid × List ℕ
round_on rest frames end (served size) buffer = rest (frames + 1) (end + size) buffer
round_on rest frames end (refused n) buffer = ((frames, end, refused n), buffer)

unfoldable pub round_from : List (ℕ × Request) → ℕ → ℕ → List ℕ → Laid × List ℕ
round_from [] frames end buffer = ((frames, end, served tt), buffer)
round_from (asked ∷ rest) frames end buffer =
    round_on (round_from rest) frames end (append_request buffer end asked.0 asked.1).0 (append_request buffer end asked.0 asked.1).1

-- a polling round: each of the requests to its node
unfoldable pub round : List ℕ → ℕ → List (ℕ × Request) → Laid × List ℕ
round buffer start asked = round_from asked 0 start buffer

-- one request to each of the nodes
abbrev pub to_each : Request → List ℕ → List (ℕ × Request)
to_each request nodes = map (λ node. (node, request)) nodes

unfoldable pub poll_round : List ℕ → ℕ → List ℕ → Request → Laid × List ℕ
poll_round buffer start nodes request = round buffer start (to_each request nodes)
