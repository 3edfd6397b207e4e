-- `mfc::reply::mfc_write_reply` meets its contract. Assumes nothing.
use Rattle.std.proofs.Common.{ap, ◌∙◌}
use Rattle.mfc.proofs.Replying.{asked, write_refused, write_known_lem}
use Rattle.mfc.proofs.reply.mfc_write_reply.Goals as goal

pub returns-in-Err : goal.returns-in-Err
returns-in-Err c =
    let a = c.args in
    write_refused _ _ _ c.request_of.result (asked _ _ _ c.request_of.ensures c.from.ensures) a.reply a.reply_value a.text.now a.bit7 a.out.now c.in-Err.is c.into-in-Err.ensures

pub returns-in-Ok : goal.returns-in-Ok
returns-in-Ok c =
    let a = c.args in
    write_known_lem _ _ _ c.request_of.result (asked _ _ _ c.request_of.ensures c.from.ensures) a.reply a.reply_value a.text.now a.bit7 a.out.now c.in-Ok.is
    (ap (λ w. (w, c.write_known.new.out)) c.into.ensures ∙ c.write_known.ensures)
