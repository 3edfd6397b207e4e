-- `mfc::receivers::mfc_receiver_noise` meets its contract. Assumes nothing.
use Rattle.mfc.proofs.Heads.{loaded_long}
use Rattle.mfc.proofs.Lent.{noise_bad, noise-held}
use Rattle.mfc.proofs.receivers.mfc_receiver_noise.Goals as goal

pub slice_bounds-noise-end : goal.slice_bounds-noise-end
slice_bounds-noise-end c = loaded_long _ c.in-Ok.ensures

pub returns-in-Ok : goal.returns-in-Ok
returns-in-Ok c = noise-held _ c.in-Ok.ensures c.noise.result c.noise.ensures c.into.ensures

pub returns-in-Err : goal.returns-in-Err
returns-in-Err c = noise_bad _ c.in-Err.ensures c.into-in-Err.ensures
