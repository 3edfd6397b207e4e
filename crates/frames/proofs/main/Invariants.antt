-- The lent arrays keep their lengths, and the record is within its ranges. The measure is what may still be read.
use Rattle.std.proofs.Common.{◌≡◌, true, length}
use Rattle.receiver.specs.Record.{held, in_range}
use Rattle.frames.proofs.main.Given as goal

abbrev pub invariant-loop-store : goal.invariant-loop-store
invariant-loop-store l = (length l.store ≡ 260) × (length l.piece ≡ 416) × (length l.out ≡ 880) × (in_range (held l.l.receiver l.store) ≡ true)

abbrev pub decreases-loop-store : goal.decreases-loop-store
decreases-loop-store l = l.l.left
