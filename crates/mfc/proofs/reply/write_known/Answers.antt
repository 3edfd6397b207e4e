-- `mfc::reply::write_known` meets its contract. Assumes nothing.
use Rattle.mfc.proofs.Replying.{sayable, known_unsayable, known-said}
use Rattle.mfc.proofs.reply.write_known.Goals as goal

pub returns-then-is_unsayable : goal.returns-then-is_unsayable
returns-then-is_unsayable c =
    let a = c.args in
    known_unsayable a.address a.request a.reply a.n a.text.now a.bit7 a.out.now c.is_unsayable.ensures c.if-is_unsayable.true
    c.refusal_of.result c.refusal_of.ensures

pub returns : goal.returns
returns c =
    let a = c.args in
    known-said a.address a.request a.reply a.n a.text.now a.bit7 a.out.now
    (sayable a.reply a.n c.is_unsayable.ensures c.if-is_unsayable.false).0 c.reply_of.ensures c.write_reply.ensures
