use Rattle.std.proofs.Common.{arith}
use Rattle.replay.proofs.Halving.{leaves_none, leaves_more, noted_none, noted_more}
use Rattle.replay.proofs.run.note_places.Goals as goal

pub loop-noted-init : goal.loop-noted-init
loop-noted-init c = (leaves_none _ _, noted_none _ _ _)

pub loop-noted-preserved : goal.loop-noted-preserved
loop-noted-preserved c = let l = c.loop-noted in (
  leaves_more _ _ l.noted-index _ _ c.requires l.invariant.0 c.back_over-at.ensures,
  noted_more _ _ _ _ l.places (omega (arith, c.loop-noted-test.true, l.auto.places)) l.invariant.0 l.invariant.1,
)
