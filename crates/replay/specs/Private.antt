-- Nothing to believe: what only private contracts cite. How a side goes on by some events, and the run by some records, whatever came before;
-- and the code's values in the words of the other files.
use Rattle.std.specs.Prelude.{ℕ, ◌<◌, ◌≡◌, true, cond, List, [], ◌∷◌, ◌++◌, map, reverse, length, get_or, take, Option as Found, Some, None, Result, Ok, Err}
use Rattle.std.proofs.Math.Option.{Option, none, some}
use Rattle.refusal.specs.declared.Refusal.{Refusal}
use Rattle.refusal.specs.Refusals.{number, paper, Answered, served, refused}
use Rattle.shdlc.specs.declared.Kind.{Kind}
use Rattle.shdlc.specs.declared.Kind.TheVariants.{Request, Reply}
use Rattle.shdlc.specs.Stream.{Event, mark}
use Rattle.receiver.specs.Record.{Record, record_of}
use Rattle.receiver.specs.Calls.{Said}
use Rattle.receiver.specs.Series.{gained, reported}
use Rattle.sfc6.specs.declared.Request.{Request as Asked}
use Rattle.sfc6.specs.Reading.{and_then, read_request}
use Rattle.replies.specs.Reader.{read_reply}
use Rattle.board.specs.declared.entries.Bus.TheVariants.{Serial}
use Rattle.board.specs.declared.entries.Kind.TheVariants.{Calibration}
use Rattle.board.specs.declared.entries.Entry.{Entry}
use Rattle.board.specs.declared.orders.Order.{Order}
use Rattle.board.specs.declared.orders.Order.TheVariants.{Open, Close, Restart, Poll, Unnamed, Nothing}
use Rattle.board.specs.Entries.{empty, valid}
use Rattle.board.specs.Orders.{order_in_range, done}
use Rattle.board.specs.Listing.{standing_in, listed}
use Rattle.handover.specs.Wire.{order_of_reply}
use Rattle.wire_log.specs.Log.{LogRecord, kinds}
use Rattle.wire_log.specs.Check.{records_of}
use Rattle.wire_log.specs.Private.{shown as recordsShown}
use Rattle.wire_log.specs.Oldest.{records_to, LeavesOut}
use Rattle.replay.specs.declared.desk.Desk.{Desk}
use Rattle.replay.specs.declared.run.Run.{Run}
use Rattle.replay.specs.Replay.{Told, yielded, silent, joined_on, told_from, orders, or_refused, board_from}

-- one thing after the other
unfoldable pub after : {S : Type 0} → (S → Told → S) → S → List Told → S
after act s [] = s
after act s (t ∷ later) = after act (act s t) later

-- what the run keeps: the latest request frame, where it was read as a request, and the board
pub record Kept : Type 0 where
  pub latest : Option (ℕ × Asked)
  pub board : Answered (List Entry)

abbrev pub known : Answered (ℕ × Asked) → Option (ℕ × Asked)
known (served q) = some q
known (refused n) = none

-- an order to the board, without (i)'s checks of the table, which the run's own table passes
abbrev pub carried : List Entry → Order → Answered (List Entry)
carried t order = cond (order_in_range order) (or_refused (done order t)) (refused (number 12))

unfoldable pub put : Answered (List Entry) → Order → Answered (List Entry)
put board order = and_then board (λ t. carried t order)

abbrev pub answer : Option (ℕ × Asked) → List ℕ → ℕ → Order
answer none reply lease = Nothing
answer (some (address, request)) reply lease = order_of_reply address request (read_reply address request reply).0 lease

unfoldable pub noted : ℕ → Kept → Told → Kept
noted lease k (yielded Request (served frame)) = record { latest = known (read_request frame); board = k.board }
noted lease k (yielded Request (refused n)) = k
noted lease k (yielded Reply (served frame)) = record { latest = k.latest; board = put k.board (answer k.latest frame lease) }
noted lease k (yielded Reply (refused n)) = k
noted lease k silent = record { latest = k.latest; board = put k.board Poll }

abbrev pub nothing_yet : Kept
nothing_yet = record { latest = none; board = served empty }

-- the orders that a log can make
abbrev pub OfLog : Order → Type 0
OfLog (Open node kind lease) = (node.bus ≡ Serial) × (kind ≡ Calibration)
OfLog (Close node kind) = (node.bus ≡ Serial) × (kind ≡ Calibration)
OfLog (Restart node) = ⊥
OfLog Poll = Unit {0}
OfLog Unnamed = Unit {0}
OfLog Nothing = Unit {0}

-- ---- the code's values in these words
abbrev pub latest_as : Found (ℕ × Asked) → Option (ℕ × Asked)
latest_as None = none
latest_as (Some q) = some q

abbrev pub board_in : Result (Unit {0}) Refusal → List Entry → Answered (List Entry)
board_in (Ok u) rows = served rows
board_in (Err why) rows = refused (paper why)

abbrev pub board_of_desk : Desk → Answered (List Entry)
board_of_desk d = board_in d.ended d.board.rows

abbrev pub kept_of : Desk → Kept
kept_of d = record { latest = latest_as d.latest; board = board_of_desk d }

-- a desk keeps its lease, and is left so
abbrev pub Notes : Desk → Desk → Kept → Type 0
Notes d next k = (next.lease ≡ d.lease) × (kept_of next ≡ k)

-- what a receiver answers is noted
unfoldable pub noted_answer : ℕ → Kind → Kept → Said → List ℕ → Kept
noted_answer lease side k said frame = after (noted lease) k (map (yielded side) (reported said frame))

-- the length of a frame that a call answers
abbrev pub frame_length : Result (Found ℕ) Refusal → ℕ
frame_length (Ok None) = 0
frame_length (Ok (Some n)) = n
frame_length (Err r) = 0

-- a side goes on by some events: whatever stream has left its record, the record is then that of the longer stream, and what the stream
-- gains is noted
unfoldable pub GoesOn : ℕ → Kind → Record → Kept → List Event → Record → Kept → Type 0
GoesOn lease side r k more next then =
    (stream : List Event) → r ≡ record_of side stream
    → (next ≡ record_of side (stream ++ more)) × (then ≡ after (noted lease) k (map (yielded side) (gained side stream more)))

-- the run goes on by some records: wherever it stands in a log, it then stands after them, and what they tell is noted
unfoldable pub RunsOn : ℕ → Record → Record → Kept → List LogRecord → Record → Record → Kept → Type 0
RunsOn lease q p k more next_q next_p then =
    (earlier : List LogRecord) → q ≡ record_of Request (joined_on Request earlier) → p ≡ record_of Reply (joined_on Reply earlier)
    → (next_q ≡ record_of Request (joined_on Request (earlier ++ more))) × (next_p ≡ record_of Reply (joined_on Reply (earlier ++ more)))
    × (then ≡ after (noted lease) k (told_from earlier more))

-- so of the code's run, whose lease stays
abbrev pub Runs : Run → List LogRecord → Run → Type 0
Runs run more next =
    RunsOn run.desk.lease run.requests run.replies (kept_of run.desk) more next.requests next.replies (kept_of next.desk)
    × (next.desk.lease ≡ run.desk.lease)

-- the newest n of the records that end at a place, the oldest of them first
unfoldable pub newest_of : List ℕ → ℕ → ℕ → List LogRecord
newest_of file place n = reverse (take n (records_to kinds file place))

-- the places at which the newest n of the records that end at a place end, the newest first
unfoldable pub Noted : List ℕ → ℕ → ℕ → List ℕ → Type 0
Noted file place n places = (j : ℕ) → j < n → LeavesOut kinds file place j (get_or places j 0)

-- a mark to a receiver of either side: the record is then that of the longer stream, and what the stream gains is no frame
unfoldable pub Marks : Record → Record → Type 0
Marks r next = (lease : ℕ) (side : Kind) (k : Kept) → GoesOn lease side r k (mark ∷ []) next k

-- the board at the end of a checked log
unfoldable pub board_of : List ℕ → ℕ → Answered (List Entry)
board_of file lease = board_from empty (orders lease (reverse (recordsShown (records_of kinds file))))

-- a board that (i) does not refuse, or one that was refused an order
abbrev pub Good : Answered (List Entry) → Type 0
Good (served t) = (length t ≡ 32) × (valid t ≡ true)
Good (refused n) = Unit {0}

-- a board's list
abbrev pub list_of : Answered (List Entry) → Answered (List Entry)
list_of board = and_then board (λ t. served (listed (standing_in t)))
