-- The invariant: the scan of the whole piece is that of what is left. Assumes nothing.
use Rattle.receiver.proofs.Turns.{Skips}
use Rattle.receiver.proofs.skip_noise.Given as goal

abbrev pub invariant-loop-i : goal.invariant-loop-i
invariant-loop-i l = Skips l.fn.mode l.piece l.i
