-- `mfc::reply::mfc_read_reply` meets its contract. Assumes nothing.
use Rattle.mfc.proofs.Replying.{asked, read_refused, read_known}
use Rattle.mfc.proofs.reply.mfc_read_reply.Goals as goal

pub returns-in-Err : goal.returns-in-Err
returns-in-Err c =
    read_refused _ _ _ c.request_of.result (asked _ _ _ c.request_of.ensures c.from.ensures) c.args.body.now c.in-Err.is c.into-in-Err.ensures

pub returns-in-Ok : goal.returns-in-Ok
returns-in-Ok c =
    read_known _ _ _ c.request_of.result (asked _ _ _ c.request_of.ensures c.from.ensures) c.args.body.now c.in-Ok.is c.read_reply.ensures c.into.ensures
