-- `sfc6::check_at` meets its contract: place by place. Assumes nothing.
use mathlib.Core.Logic.{⊎_elim}
use mathlib.Core.Path.{refl}
use native.Mathlib.Omega.{arith}
use borrow.Author.Tests.{ne_eqb}
use Prim.Native.Nat.{ℕ}
use Rattle.sfc6.specs.declared.Request.{Request}
use Rattle.sfc6.specs.Commands.{row, request_at}
use Rattle.sfc6.specs.Requests.{check_request}
use Rattle.sfc6.proofs.Writing.{says_known, free_at, float_checked}
use Rattle.sfc6.proofs.check_at.Goals as goal

pub returns-in-1 : goal.returns-in-1
unfolding row check_request
returns-in-1 c =
    let a = c.args in
    let by = λ (k : ℕ). float_checked {A = ℕ × Request} (a.address, request_at k a.n) a.n c.ranges.n.fits c.check_float.ensures in
    ⊎_elim (λ e. says_known a.address a.place 1 a.n _ e (by 1))
    (⊎_elim (λ e. says_known a.address a.place 4 a.n _ e (by 4)) (λ e. says_known a.address a.place 6 a.n _ e (by 6)))
    c.in-1.is

pub returns-in_default : goal.returns-in_default
returns-in_default c =
    let p = c.args.place in
    free_at c.args.address p c.args.n
    (rw (
      ne_eqb 1 p (λ e. grind (arith, e)),
      ne_eqb 4 p (λ e. grind (arith, e)),
      ne_eqb 6 p (λ e. grind (arith, e)),
      ne_eqb 17 p (λ e. grind (arith, e)),
      ne_eqb 19 p (λ e. grind (arith, e)),
    ) refl)
