-- `mfc::receivers::renew_noise` meets its contract. Assumes nothing.
use mathlib.Core.Path.{◌∙◌}
use Rattle.mfc.proofs.Heads.{noise-same}
use Rattle.mfc.proofs.receivers.renew_noise.Goals as goal

pub returns-else-n-before : goal.returns-else-n-before
returns-else-n-before c = noise-same _ _ (λ i. (c.type_inv.lent i).fits) c.requires.0 (c.if-n-before.false ∙ c.requires.1)
