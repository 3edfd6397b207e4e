use Rattle.std.proofs.Common.{◌≡◌, true, length}
use Rattle.receiver.specs.Record.{held, in_range}
use Rattle.replay.specs.Private.{kept_of}
use Rattle.replay.proofs.GoingOn.{Rest}
use Rattle.replay.proofs.run.Side.hear.Given as goal

-- whoever does the rest of the piece has done the whole
abbrev pub invariant-loop-left : goal.invariant-loop-left
invariant-loop-left l =
    Rest l.fn.desk.lease l.kind l.fn.self (kept_of l.fn.desk) l.piece (held l.self-inside.receiver l.self-inside.store) (kept_of l.desk) l.left
    × (in_range (held l.self-inside.receiver l.self-inside.store) ≡ true)
    × (l.desk.lease ≡ l.fn.desk.lease)

abbrev pub decreases-loop-left : goal.decreases-loop-left
decreases-loop-left l = length l.left
