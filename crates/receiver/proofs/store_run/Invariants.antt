-- The invariant: the scan of the whole piece is that of what is left. Assumes nothing.
use mathlib.Core.Path.{◌≡◌}
use lib.ListN.{length}
use Rattle.receiver.proofs.Turns.{Runs}
use Rattle.receiver.proofs.store_run.Given as goal

abbrev pub invariant-loop-i : goal.invariant-loop-i
invariant-loop-i l = (length l.store ≡ 260) × Runs l.initial.store l.len l.piece l.store l.i
