-- `sfc6::put_front` meets its contract: the parts one after the other. Assumes nothing.
use native.Mathlib.Omega.{arith}
use lib.ListN.{length-set}
use Rattle.sfc6.proofs.Laid.{front_wrote}
use Rattle.sfc6.proofs.put_front.Goals as goal

pub returns : goal.returns
returns c = front_wrote c.args.out.now _ _ _ _ _ (omega (arith, c.requires)) c.put_byte-place.ensures.laid (omega (arith, length-set c.args.out.now 0 0x7E))
