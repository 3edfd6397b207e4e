-- `replies::read_reply` meets its contract: at each return the tests that led there say which refusal it is. Assumes nothing.
use native.Mathlib.Omega.{arith}
use mathlib.Core.Path.{ap}
use Rattle.sfc6.specs.declared.Row.{Row}
use Rattle.replies.specs.Reader.{bit7_in}
use Rattle.replies.proofs.Answers.{body_bounds, size_settled, data_read, lent_read}
use Rattle.replies.proofs.read_reply.Goals as goal

pub is_foreign-requires : goal.is_foreign-requires
is_foreign-requires c =
    let a = c.args in
    (body_bounds a.address a.request a.body.now c.check_request.ensures c.in_ok-check_request.was c.check_body.ensures c.in_ok-check_body.was).0

pub bounds-body-2 : goal.bounds-body-2
bounds-body-2 c =
    let a = c.args in
    omega (arith, body_bounds a.address a.request a.body.now c.check_request.ensures c.in_ok-check_request.was c.check_body.ensures c.in_ok-check_body.was)

pub overflow_sub-end : goal.overflow_sub-end
overflow_sub-end c =
    let a = c.args in
    omega (arith, body_bounds a.address a.request a.body.now c.check_request.ensures c.in_ok-check_request.was c.check_body.ensures c.in_ok-check_body.was)

pub slice_bounds-read_data-count : goal.slice_bounds-read_data-count
slice_bounds-read_data-count c =
    let a = c.args in
    omega (arith, body_bounds a.address a.request a.body.now c.check_request.ensures c.in_ok-check_request.was c.check_body.ensures c.in_ok-check_body.was)

pub slice_bounds-read_data-start : goal.slice_bounds-read_data-start
slice_bounds-read_data-start c =
    let a = c.args in
    omega (arith, body_bounds a.address a.request a.body.now c.check_request.ensures c.in_ok-check_request.was c.check_body.ensures c.in_ok-check_body.was)

pub read_data-requires : goal.read_data-requires
read_data-requires c =
    let a = c.args in (
      ap (λ (r : Row). r.answer) c.row_of-row.ensures,
      size_settled a.address a.request a.body.now c.check_request.ensures c.in_ok-check_request.was c.check_body.ensures c.in_ok-check_body.was
          c.row_of-row.ensures c.is_foreign.ensures c.if-is_foreign.false c.if-code-ne0.false,
    )

pub returns : goal.returns
returns c =
    let a = c.args in
    data_read a.address a.request a.body.now c.check_request.ensures c.in_ok-check_request.was c.check_body.ensures c.in_ok-check_body.was
    c.row_of-row.ensures c.is_foreign.ensures c.if-is_foreign.false c.if-code-ne0.false
    (lent_read a.request c.row_of-row.result.answer a.body.now (bit7_in a.body.now) c.read_data.ensures)
