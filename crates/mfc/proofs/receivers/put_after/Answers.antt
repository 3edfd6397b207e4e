-- `mfc::receivers::put_after` meets its contract. Assumes nothing.
use Rattle.mfc.proofs.Heads.{after-put}
use Rattle.mfc.proofs.receivers.put_after.Goals as goal

pub returns : goal.returns
returns c = after-put _ c.args.r c.requires.0 c.renew_noise.ensures c.put_place.ensures
