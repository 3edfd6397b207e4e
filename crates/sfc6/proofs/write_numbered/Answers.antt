-- `sfc6::write_numbered` meets its contract. Assumes nothing.
use Rattle.std.proofs.Common.{rules}
use Rattle.sfc6.proofs.Numbered.{no_frame, frame_refused, frame-laid}
use Rattle.sfc6.proofs.write_numbered.Goals as goal

pub returns-then-place-gt-LAST : goal.returns-then-place-gt-LAST
returns-then-place-gt-LAST c = no_frame _ _ _ c.if-place-gt-LAST.true _

pub returns-in_err-check_at : goal.returns-in_err-check_at
returns-in_err-check_at c =
    let a = c.args in
    let none = frame_refused a.address a.place a.n c.if-place-gt-LAST.false _ c.check_at.ensures a.out.now c.in_err-check_at.was in
    search rules

pub returns : goal.returns
returns c =
    let a = c.args in
    frame-laid a.address a.place a.n c.if-place-gt-LAST.false _ c.check_at.ensures a.out.now c.in_ok-check_at.was c.ranges.n.fits c.lay_numbered.ensures
