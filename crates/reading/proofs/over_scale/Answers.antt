-- Rounding goes by sign and size.
use Rattle.std.proofs.Common.{◌∙◌, w32, arith}
use mir.ValLaws.{to_z-of_z}
use Rattle.reading.proofs.Rounding.{sign_rounded}
use Rattle.reading.proofs.over_scale.Goals as goal

pub returns : goal.returns
returns c =
    to_z-of_z w32 c.with_sign.result (record { sfits = c.with_sign.type_inv })
    ∙ rw (c.nearest.ensures, c.unsigned_abs.ensures.value, to_z-of_z w32 c.args.d c.ranges.d) at c.with_sign.ensures
    ∙ sign_rounded c.args.d 1000 c.args.scale (omega arith)
