-- What is asked of an SFC6 can be told from its code: nothing that the code says is lost in specs/. Assumes nothing.
use mathlib.Core.Path.{◌≡◌, refl, sym, ap, ◌∙◌}
use mathlib.Core.Bool.{cond}
use lib.Dec.{eqb}
use Rattle.i2c.specs.Command.{Asked, alone, ◌taking◌, asked}
use Rattle.i2c.specs.declared.command.Sfc6.{Sfc6}
use Rattle.i2c.specs.declared.command.Sfc6.TheVariants.{PointToTemperature, PointBack, SetConcentration, StartMixture0, StartMixture1, ShutValve, NormalControl}

back : Asked → Sfc6
back (alone code) = cond (eqb code 0xE102) PointToTemperature (cond (eqb code 0xE000) PointBack (cond (eqb code 0x3FEF) ShutValve NormalControl))
back (code taking n) = cond (eqb code 0xE17D) (SetConcentration n) (cond (eqb code 0x3650) (StartMixture0 n) (StartMixture1 n))

back-asked : (q : Sfc6) → back (asked q) ≡ q
unfolding back
back-asked PointToTemperature = refl
back-asked PointBack = refl
back-asked (SetConcentration n) = refl
back-asked (StartMixture0 n) = refl
back-asked (StartMixture1 n) = refl
back-asked ShutValve = refl
back-asked NormalControl = refl

pub asked-one_to_one : (p q : Sfc6) → asked p ≡ asked q → p ≡ q
asked-one_to_one p q e = sym (back-asked p) ∙ ap back e ∙ back-asked q
