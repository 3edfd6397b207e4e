-- `sfc6::bits_of` meets its contract. Assumes nothing.
use mathlib.Core.Path.{sym, ap, ◌∙◌}
use lib.Ieee.{binary32, to_bits}
use Rattle.sfc6.proofs.Floats.{is_nan_lem, nan_bits_lem}
use Rattle.sfc6.proofs.bits_of.Goals as goal

pub returns-then-is_nan : goal.returns-then-is_nan
returns-then-is_nan c = sym (ap (to_bits binary32) (is_nan_lem _ (sym c.is_nan.ensures.value ∙ c.if-is_nan.true)) ∙ nan_bits_lem)
