use Rattle.std.proofs.Common.{true, subst, arith}
use Rattle.receiver.specs.Record.{Record, held}
use Rattle.receiver.proofs.Callers.{fed_in_range}
use Rattle.replay.specs.Private.{Marks}
use Rattle.replay.proofs.GoingOn.{marked}
use Rattle.replay.proofs.run.Side.mark.Goals as goal

pub invariant_of-self : goal.invariant_of-self
invariant_of-self c = fed_in_range _ c.self.invariant true _ _ _ (omega arith) c.feed-fed.ensures

pub returns : goal.returns
returns c =
    subst (λ (r : Record). Marks r (held c.feed-fed.result.receiver c.feed-fed.new.store)) c.self.view_is (marked _ _ _ _ (omega arith) (omega arith) c.feed-fed.ensures)
