-- `sfc6::form::form_at` meets its contract: the table of forms is that of the requests. Assumes nothing.
use Rattle.std.proofs.Common.{refl, arith}
use Rattle.payload.specs.Field.{big_endian}
use Rattle.sfc6.specs.Commands.{row, table}
use Rattle.sfc6.specs.declared.form.TheConstants.{FORMS}
use Rattle.sfc6.proofs.Plain.{form_there}
use Rattle.sfc6.proofs.Table.{last}
use Rattle.sfc6.proofs.form.form_at.Goals as goal

pub returns : goal.returns
unfolding row big_endian
returns c = form_there FORMS table ((refl, refl, refl), ((refl, refl, refl), ((refl, refl, refl), ((refl, refl, refl), ((refl, refl, refl), ((refl, refl, refl), ((refl, refl, refl), ((refl, refl, refl), ((refl, refl, refl), ((refl, refl, refl), ((refl, refl, refl), ((refl, refl, refl), ((refl, refl, refl), ((refl, refl, refl), ((refl, refl, refl), ((refl, refl, refl), ((refl, refl, refl), ((refl, refl, refl), ((refl, refl, refl), ((refl, refl, refl), ((refl, refl, refl), tt))))))))))))))))))))) _ last c.args.place (omega (arith, c.requires))
