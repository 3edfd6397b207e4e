use Rattle.board.proofs.Carried.{laid_all}
use Rattle.board.proofs.table.list.Goals as goal

pub returns : goal.returns
returns c = laid_all c.args.t.now c.args.entries.now c.list_of.ensures.answer c.in_ok-list.was c.in_ok-list.ensures.list c.as_slice.ensures.value c.as_slice.ensures.fits c.lay.ensures
