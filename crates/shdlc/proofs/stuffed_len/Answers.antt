use Rattle.std.proofs.Common.{arith}
use Rattle.shdlc.specs.Stuffing.{stuff}
use Rattle.refusal.proofs.Rest.{rest_end}
use Rattle.shdlc.proofs.Stuffing.{stuff_short, length_here}
use Rattle.shdlc.proofs.stuffed_len.Goals as goal

pub overflow_add-n : goal.overflow_add-n
overflow_add-n c = omega (arith, length_here c.args.bytes.now c.loop-b.b-index (omega arith), stuff_short c.args.bytes.now)

pub loop-b-preserved : goal.loop-b-preserved
loop-b-preserved c = omega (arith, length_here c.args.bytes.now c.loop-b.b-index (omega arith))

pub returns : goal.returns
unfolding stuff
returns c = omega (arith, rw (rest_end _ _ c.loop-b-test.false) at c.loop-b.invariant)
