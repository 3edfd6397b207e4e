-- `sfc6::put_sub` meets its contract. Assumes nothing.
use Rattle.sfc6.proofs.Laid.{set_wrote, none_wrote}
use Rattle.sfc6.proofs.put_sub.Goals as goal

pub returns-in_default : goal.returns-in_default
returns-in_default c = rw c.in_default.is (none_wrote _ _)

pub returns : goal.returns
returns c = rw c.in-Some.is (set_wrote _ _ _ c.requires)
