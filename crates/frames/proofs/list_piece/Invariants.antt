-- What is left of the piece takes the listing to where the whole does.
use Rattle.std.proofs.Common.{◌≡◌, ◌+◌, ◌-◌, ◌≤◌, ◌++◌, true, length, take, drop}
use mathlib.Core.List.{map}
use Rattle.shdlc.specs.Stream.{byte}
use Rattle.receiver.specs.Record.{held, in_range, record_from}
use Rattle.lines.specs.Listing.{shown_by}
use Rattle.frames.proofs.list_piece.Given as goal

abbrev pub invariant-loop-at : goal.invariant-loop-at
invariant-loop-at l =
    (l.at ≤ length l.piece) × (l.filled ≤ length l.out) × (length l.store ≡ length l.initial.store) × (length l.out ≡ length l.initial.out)
    × (l.l.left + l.at ≡ l.fn.from.left)
    × (record_from (held l.l.receiver l.store) (map byte (drop l.at l.piece)) ≡ record_from (held l.fn.from.receiver l.initial.store) (map byte l.piece))
    × (length (shown_by (held l.fn.from.receiver l.initial.store) l.piece) + 24 ≤ length l.initial.out
    → take l.filled l.out ++ shown_by (held l.l.receiver l.store) (drop l.at l.piece) ≡ shown_by (held l.fn.from.receiver l.initial.store) l.piece)
    × (in_range (held l.l.receiver l.store) ≡ true)

abbrev pub decreases-loop-at : goal.decreases-loop-at
decreases-loop-at l = length l.piece - l.at
