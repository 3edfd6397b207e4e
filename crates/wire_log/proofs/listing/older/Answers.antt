-- `wire_log::listing::older` meets its contract. Assumes nothing.
use Rattle.std.proofs.Common.{◌-◌, ◌∙◌}
use Rattle.wire_log.specs.Log.{kinds}
use Rattle.wire_log.proofs.Turns.{back_stopped}
use Rattle.wire_log.proofs.Rests.{cut_in, left_out, fronts}
use Rattle.wire_log.proofs.listing.older.Goals as goal

pub slice_bounds-rest-end : goal.slice_bounds-rest-end
slice_bounds-rest-end c = cut_in kinds _ c.in-Ok.ensures

pub loop-preserved : goal.loop-preserved
loop-preserved c = (
  fronts kinds _ c.in-Ok.ensures _ c.loop.invariant.0,
  left_out kinds _ c.in-Ok.ensures c.args.skip c.loop.counter c.loop-test.true ∙ c.loop.invariant.1,
)

pub returns-in_default-clause-left : goal.returns-in_default-clause-left
returns-in_default-clause-left c =
    back_stopped kinds _ (c.args.skip - c.loop.counter) _ c.in_default.ensures ∙ c.loop.invariant.1
