use Rattle.std.proofs.Common.{arith}
use lib.ListN.{length-set}
use Rattle.i2c.specs.Engines.{Steps}
use Rattle.i2c.proofs.PairLaws.{twice, made_more}
use Rattle.i2c.proofs.crc.Table+8.doubled.Goals as goal

pub loop-i-preserved : goal.loop-i-preserved
loop-i-preserved c =
    let t = c.args.self.now in (
      simp length-set c.loop-i.invariant.0,
      made_more c.loop-i.entries _ _ c.loop-i.invariant.0 c.loop-i-test.true (rw c.from.ensures (twice _ t.steps _ c.loop-i-test.true)) c.loop-i.invariant.1,
    )

pub invariant_of-result : goal.invariant_of-result
unfolding Steps
invariant_of-result c = record { steps = λ x h. c.loop-i.invariant.1 x (omega (arith, h, c.loop-i-test.false)) }
