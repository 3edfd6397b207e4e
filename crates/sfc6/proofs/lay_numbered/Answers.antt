-- `sfc6::lay_numbered` meets its contract. Assumes nothing.
use native.Mathlib.Omega.{arith}
use Rattle.sfc6.proofs.Writing.{copied, frame_stands, frame_copied, frame_long}
use Rattle.sfc6.proofs.lay_numbered.Goals as goal

pub returns-then-out-gt16 : goal.returns-then-out-gt16
returns-then-out-gt16 c =
    let e = c.lay_at.ensures in
    frame_stands _ _ _ e.1 _ (omega (arith, e.0, c.if-out-gt16.true)) e.2

pub returns-then-out-end : goal.returns-then-out-end
returns-then-out-end c = frame_long _ _ _ c.lay_at-end.ensures.1 c.if-out-end.true

pub returns : goal.returns
returns c =
    let e = c.lay_at-end.ensures in
    frame_copied _ _ _ e.1 _ _ _ c.if-out-end.false e.2 (copied _ _ _ c.if-out-end.false c.copy_from_slice.ensures.len c.copy_from_slice.ensures.after)
