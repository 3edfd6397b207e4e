use Rattle.mfc_replay.proofs.Laid.{laid_all}
use Rattle.mfc_replay.proofs.lay_replay.Goals as goal

pub returns : goal.returns
returns c = laid_all c.args.file.now c.args.lease c.args.entries.now c.replay.ensures.answer c.in_ok-list.was c.in_ok-list.ensures.list c.as_slice.ensures.value c.as_slice.ensures.fits c.lay.ensures
