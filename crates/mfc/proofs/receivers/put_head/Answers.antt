-- `mfc::receivers::put_head` meets its contract. Assumes nothing.
use native.Mathlib.Omega.{arith}
use mathlib.Core.Path.{◌∙◌}
use lib.ListN.{length-set}
use Rattle.mfc.proofs.Heads.{head_put}
use Rattle.mfc.proofs.receivers.put_head.Goals as goal

pub put_place-requires : goal.put_place-requires
put_place-requires c = omega (arith, c.put_noise.auto.lent, c.requires, length-set c.args.lent.now 0 c.from.result)

pub shape_of-lent : goal.shape_of-lent
shape_of-lent c = c.put_place.auto.lent ∙ c.put_noise.auto.lent ∙ simp length-set

pub returns : goal.returns
returns c = head_put _ c.args.r c.requires c.from.ensures c.put_noise.ensures c.put_place.ensures
