use Rattle.files.proofs.Failing.{line}
use Rattle.files.proofs.fail.Goals as goal

pub returns : goal.returns
returns g c = line _ _ _ _ _ _ _ _ c.in_ok-named.ensures c.in_ok-parted.ensures c.in_ok-told.ensures c.write_all-ended.ensures
