use Rattle.wire_log.specs.Log.{kinds}
use Rattle.wire_log.specs.Oldest.{LeavesOut}
use Rattle.replay.specs.Private.{Noted}
use Rattle.replay.proofs.run.note_places.Given as goal

abbrev pub invariant-loop-noted : goal.invariant-loop-noted
invariant-loop-noted l = LeavesOut kinds l.file l.place l.noted-index l.at × Noted l.file l.place l.noted-index l.places
