use Rattle.std.proofs.Common.{arith, ◌∙◌}
use Rattle.shdlc.specs.Checksum.{sum}
use Rattle.refusal.proofs.Rest.{rest_here, rest_end}
use Rattle.shdlc.proofs.Body.{sum_step}
use Rattle.shdlc.proofs.sum_on.Goals as goal

pub loop-b-preserved : goal.loop-b-preserved
unfolding sum
loop-b-preserved c =
    sum_step _ _ _ ∙ (rw (rest_here c.args.bytes.now c.loop-b.b-index c.loop-b-test.true) at c.loop-b.invariant)

pub returns : goal.returns
unfolding sum
returns c = omega (arith, rw (rest_end _ _ c.loop-b-test.false) at c.loop-b.invariant)
