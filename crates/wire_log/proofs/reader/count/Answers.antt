-- `wire_log::reader::count` meets its contract. Assumes nothing.
use Rattle.std.proofs.Common.{◌<◌, length, ◌∙◌, arith}
use Rattle.std.proofs.lemmas.Result.{err_from_is_err_and}
use Rattle.wire_log.specs.Log.{kinds}
use Rattle.wire_log.proofs.Steps.{plus_none, count_stopped, count-over}
use Rattle.wire_log.proofs.Rests.{some_left, none_left, lower, cut, cut_in, counted}
use Rattle.wire_log.proofs.reader.count.Goals as goal

pub loop-rest-init : goal.loop-rest-init
loop-rest-init c = (omega arith, plus_none _)

pub slice_bounds-rest-end : goal.slice_bounds-rest-end
slice_bounds-rest-end c = cut_in kinds _ c.in_ok-newest.ensures

pub loop-rest-smaller : goal.loop-rest-smaller
loop-rest-smaller c = omega (arith, cut kinds c.loop-rest.rest.now c.in_ok-newest.ensures, lower kinds c.loop-rest.rest.now c.in_ok-newest.ensures)

pub loop-rest-preserved : goal.loop-rest-preserved
loop-rest-preserved c =
    let some : 0 < length c.loop-rest.rest.now = omega (arith, lower kinds c.loop-rest.rest.now c.in_ok-newest.ensures) in (
      omega (arith, cut kinds c.loop-rest.rest.now c.in_ok-newest.ensures, lower kinds c.loop-rest.rest.now c.in_ok-newest.ensures),
      counted kinds _ c.in_ok-newest.ensures _ some ∙ c.loop-rest.invariant.1,
    )

pub returns-in_err-newest : goal.returns-in_err-newest
returns-in_err-newest c =
    let some : 0 < length c.loop-rest.rest.now = some_left _ c.loop-rest-test.ensures in
    let p = err_from_is_err_and c.from_residual.result c.from_residual.ensures.1 in rw (p.1, p.2) (count_stopped kinds _ _ _ some c.in_err-newest.ensures ∙ c.loop-rest.invariant.1)

pub returns : goal.returns
returns c = count-over kinds _ _ _ (none_left _ c.loop-rest-test.ensures) ∙ c.loop-rest.invariant.1
