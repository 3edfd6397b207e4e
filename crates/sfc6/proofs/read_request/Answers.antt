-- `sfc6::read_request` meets its contract. Assumes nothing.
use native.Mathlib.Omega.{arith}
use Rattle.std.proofs.Common.{rules}
use Rattle.sfc6.proofs.Reading.{read_refused, read_bounds, read_data_refused, read_known}
use Rattle.sfc6.proofs.read_request.Goals as goal

pub returns-in_err-check_body : goal.returns-in_err-check_body
returns-in_err-check_body c =
    let refused = read_refused _ c.check_body.ensures c.in_err-check_body.was in
    search rules

pub returns-in_err-request : goal.returns-in_err-request
returns-in_err-request c =
    let refused = read_data_refused _ c.check_body.ensures c.in_ok-check_body.was _ c.read_typed.ensures c.in_err-request.was in
    search rules

pub returns-in_err-check_request : goal.returns-in_err-check_request
returns-in_err-check_request c =
    let refused = read_known _ c.check_body.ensures c.in_ok-check_body.was _ c.read_typed.ensures c.in_ok-request.was _ c.check_request.ensures
    c.in_err-check_request.was in
    search rules

pub overflow_sub-end : goal.overflow_sub-end
overflow_sub-end c = omega (arith, read_bounds _ c.check_body.ensures c.in_ok-check_body.was)

pub bounds-body-1 : goal.bounds-body-1
bounds-body-1 c = omega (arith, read_bounds _ c.check_body.ensures c.in_ok-check_body.was)

pub slice_bounds-read_typed-count : goal.slice_bounds-read_typed-count
slice_bounds-read_typed-count c = omega (arith, read_bounds _ c.check_body.ensures c.in_ok-check_body.was)

pub slice_bounds-read_typed-start : goal.slice_bounds-read_typed-start
slice_bounds-read_typed-start c = omega (arith, read_bounds _ c.check_body.ensures c.in_ok-check_body.was)

pub bounds-body-0 : goal.bounds-body-0
bounds-body-0 c = omega (arith, read_bounds _ c.check_body.ensures c.in_ok-check_body.was)

pub returns : goal.returns
returns c = read_known _ c.check_body.ensures c.in_ok-check_body.was _ c.read_typed.ensures c.in_ok-request.was _ c.check_request.ensures c.in_ok-check_request.was
