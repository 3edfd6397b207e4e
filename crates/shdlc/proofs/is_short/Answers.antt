use Rattle.std.proofs.Common.{◌-◌, arith, sym}
use borrow.Author.Tests.{le-ltb}
use Rattle.shdlc.proofs.Stuffing.{byte_short}
use Rattle.shdlc.proofs.Frame.{parts_roomy, parts_longer, roomy_holds}
use Rattle.shdlc.proofs.is_short.Goals as goal

pub returns-then-is_roomy : goal.returns-then-is_roomy
returns-then-is_roomy c =
    let h = roomy_holds _ _ _ c.is_roomy.ensures c.if-is_roomy.true in
    sym (le-ltb _ _ (parts_roomy c.args.first.now c.args.second.now c.args.third.now c.args.room h))

pub overflow_add-result : goal.overflow_add-result
overflow_add-result c = omega (arith, c.stuffed_size.ensures, (byte_short (255 - c.sum_on-total.result)).1)

pub returns : goal.returns
returns c =
    parts_longer _ _ _ _ _ _ _ _ _ _ _ _ _ _
    c.sum_on.ensures c.sum_on-2.ensures c.sum_on-total.ensures c.stuffed_len.ensures c.saturating_sub-one.ensures c.stuffed_len-2.ensures
    c.saturating_sub-two.ensures c.stuffed_len-3.ensures c.saturating_sub-three.ensures c.stuffed_size.ensures
