use Rattle.receiver.proofs.Cases.{taken_within}
use Rattle.shdlc_vectors.proofs.listener.Listener.call.Goals as goal

pub returns : goal.returns
returns g c = taken_within c.feed-fed.result _ _ _ _ _ _ c.feed-fed.ensures
