use Rattle.std.proofs.Common.{◌-◌, length}
use Rattle.replay.specs.Private.{Runs}
use Rattle.replay.proofs.Halving.{older_of}
use Rattle.replay.proofs.run.Run.replay_noted.Given as goal

-- those that are left are the newest; the older ones have run
abbrev pub invariant-loop-at : goal.invariant-loop-at
invariant-loop-at l = Runs l.fn.self (older_of l.file l.place (length l.places) (length l.places - length l.yielded)) l.self
