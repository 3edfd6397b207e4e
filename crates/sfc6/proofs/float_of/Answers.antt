-- `sfc6::float_of` meets its contract. Assumes nothing.
use mathlib.Core.Path.{sym, subst, ◌∙◌}
use mathlib.Core.Bool.{Bool, not}
use lib.Dec.{T}
use Rattle.sfc6.proofs.Floats.{nan_above, nan_not_above, nan_of_bits}
use Rattle.sfc6.proofs.float_of.Goals as goal

pub returns-then-bits-gt2139095040 : goal.returns-then-bits-gt2139095040
returns-then-bits-gt2139095040 c = nan_of_bits ∙ sym (nan_above _ c.if-bits-gt2139095040.true)

pub float_from_bits-result : goal.float_from_bits-result
float_from_bits-result c = subst (λ (b : Bool). T (not b)) (sym (nan_not_above _ c.if-bits-gt2139095040.false)) tt
