-- All 256 entries are computed and compared once, and a law carries that to each.
use Rattle.std.proofs.Common.{refl}
use Rattle.i2c.specs.Crc.{bit_step, bit_steps}
use Rattle.i2c.proofs.Engines.{rule}
use Rattle.i2c.proofs.crc.Table+8.new.Goals as goal

pub invariant_of-result : goal.invariant_of-result
unfolding bit_step bit_steps
invariant_of-result c = record { steps = rule _ refl }
