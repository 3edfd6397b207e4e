-- 02 (vi), Replay: what a log means, from its records alone. No receiver's record or call is in it: what a side yields is demand 3's list,
-- and `gained` speaks of streams alone.
use Rattle.std.specs.Prelude.{ℕ, cond, List, [], ◌∷◌, ◌++◌, map, reverse, ltb, eqb, length}
use Rattle.std.proofs.Math.Option.{Option, none, some}
use Rattle.refusal.specs.Refusals.{number, Answered, served, refused}
use Rattle.shdlc.specs.declared.Kind.{Kind}
use Rattle.shdlc.specs.declared.Kind.TheVariants.{Request, Reply}
use Rattle.shdlc.specs.Stream.{Event, byte, mark, Item}
use Rattle.receiver.specs.Series.{gained}
use Rattle.sfc6.specs.declared.Request.{Request as Asked}
use Rattle.sfc6.specs.Reading.{and_then, read_request}
use Rattle.replies.specs.Reader.{read_reply}
use Rattle.board.specs.declared.entries.Entry.{Entry}
use Rattle.board.specs.declared.orders.Order.{Order}
use Rattle.board.specs.declared.orders.Order.TheVariants.{Poll, Nothing}
use Rattle.board.specs.Entries.{empty}
use Rattle.board.specs.Orders.{Outcome, lease_in_range, change}
use Rattle.board.specs.Listing.{standing_in, listed, or_as_it_was}
use Rattle.handover.specs.Wire.{order_of_reply}
use Rattle.wire_log.specs.Log.{LogRecord, kinds}
use Rattle.wire_log.specs.Check.{records_of}

-- ---- the two sides
-- "feeds kind 1 to a request receiver and kind 2 to a reply receiver, gives a mark to both for kind 3"
abbrev pub kind_for : Kind → ℕ
kind_for Request = 1
kind_for Reply = 2

unfoldable pub heard_on : Kind → LogRecord → List Event
heard_on side r = cond (eqb r.kind 3) (mark ∷ []) (cond (eqb r.kind (kind_for side)) (map byte r.body) [])

-- "its side's joined bytes and marks", of records from the oldest on
unfoldable pub joined_on : Kind → List LogRecord → List Event
joined_on side [] = []
joined_on side (r ∷ later) = heard_on side r ++ joined_on side later

-- ---- what a log tells in its order: the items that a side yields, and polls
pub data Told : Type 0 where
  yielded : Kind → Item → Told
  silent : Told

-- the items that a record completes on a side: what demand 3's list of the side gains by it
unfoldable pub completes : Kind → List LogRecord → LogRecord → List Told
completes side earlier r = map (yielded side) (gained side (joined_on side earlier) (heard_on side r))

-- "Polls are one per silence mark."
unfoldable pub polls : LogRecord → List Told
polls r = cond (eqb r.kind 3) (silent ∷ []) []

-- "takes the records oldest first"; of a record the request side's items, the reply side's, then its poll
unfoldable pub told_from : List LogRecord → List LogRecord → List Told
told_from earlier [] = []
told_from earlier (r ∷ later) =
    completes Request earlier r ++ (completes Reply earlier r ++ (polls r ++ told_from (earlier ++ (r ∷ [])) later))

abbrev pub told : List LogRecord → List Told
told records = told_from [] records

-- ---- the orders to the board
-- "A reply frame is read against the latest request frame (with none, or one refused as a request, it is skipped); what is accepted goes to
-- [the] board", as in (i), "with one lease that the caller names"
abbrev pub against : Answered (ℕ × Asked) → List ℕ → ℕ → Order
against (served (address, request)) reply lease = order_of_reply address request (read_reply address request reply).0 lease
against (refused n) reply lease = Nothing

abbrev pub answering : Option (List ℕ) → List ℕ → ℕ → Order
answering (some frame) reply lease = against (read_request frame) reply lease
answering none reply lease = Nothing

-- with the latest request frame so far. A request frame is then the latest, also one that is refused as a request; a refused item is no frame
-- and leaves the latest as it was. A reply does not use it up, and a mark does not forget it.
unfoldable pub orders_from : ℕ → Option (List ℕ) → List Told → List Order
orders_from lease latest [] = []
orders_from lease latest (yielded Request (served frame) ∷ later) = orders_from lease (some frame) later
orders_from lease latest (yielded Request (refused n) ∷ later) = orders_from lease latest later
orders_from lease latest (yielded Reply (served frame) ∷ later) = answering latest frame lease ∷ orders_from lease latest later
orders_from lease latest (yielded Reply (refused n) ∷ later) = orders_from lease latest later
orders_from lease latest (silent ∷ later) = Poll ∷ orders_from lease latest later

abbrev pub orders : ℕ → List LogRecord → List Order
orders lease records = orders_from lease none (told records)

-- ---- the board
-- "or 19 instead if an opening met it": the first order that is refused ends it
abbrev pub or_refused : Outcome → Answered (List Entry)
or_refused (served u, t) = served t
or_refused (refused n, t) = refused n

unfoldable pub board_from : List Entry → List Order → Answered (List Entry)
board_from t [] = served t
board_from t (order ∷ later) = and_then (or_refused (change t order)) (λ next. board_from next later)

-- "an empty board of its own"; "the entries at the log's end are listed as in (i)"
unfoldable pub replayed_by : ℕ → List LogRecord → Answered (List Entry)
replayed_by lease records = and_then (board_from empty (orders lease records)) (λ t. served (listed (standing_in t)))

-- "(12, as in (i), before the log's check)"; "A log that fails its check is refused before anything is replayed." The check gives the records
-- newest first.
unfoldable pub replayed : List ℕ → ℕ → Answered (List Entry)
replayed file lease =
    cond (lease_in_range lease) (and_then (records_of kinds file) (λ newest. replayed_by lease (reverse newest))) (refused (number 12))

-- ---- in a lent room
-- "listed as in (i)": 1, last, where the room has fewer places than there are entries; else the number of entries
abbrev pub room_for : Answered (List Entry) → ℕ → Answered ℕ
room_for (served entries) room = cond (ltb room (length entries)) (refused (number 1)) (served (length entries))
room_for (refused n) room = refused n

abbrev pub shown : Answered (List Entry) → List Entry
shown (served entries) = entries
shown (refused n) = []

unfoldable pub replay_answer : List ℕ → ℕ → ℕ → Answered ℕ
replay_answer file lease room = room_for (replayed file lease) room

-- the entries stand at the start of the room, and after them all is as it was; a refusal changes nothing
unfoldable pub replay : List ℕ → ℕ → List Entry → Answered ℕ × List Entry
replay file lease room =
    (replay_answer file lease (length room), or_as_it_was (replay_answer file lease (length room)) (shown (replayed file lease)) room)
