-- `mfc::reply::reply_of` meets its contract. Assumes nothing.
use Rattle.std.proofs.Common.{ap}
use Rattle.replies.specs.declared.Reply.TheVariants.{MeasuredValue}
use Rattle.mfc.proofs.Replying.{reply-known}
use Rattle.mfc.proofs.reply.reply_of.Goals as goal

pub returns-in-2 : goal.returns-in-2
returns-in-2 c = reply-known c.args.number 2 c.args.n c.in-2.is (ap MeasuredValue c.from-in-2.ensures)
