use Rattle.std.proofs.Common.{length}
use Rattle.shdlc_vectors.proofs.listener.Listener.feed.Given as goal

abbrev pub decreases-loop-rest : goal.decreases-loop-rest
decreases-loop-rest g l = length l.rest
