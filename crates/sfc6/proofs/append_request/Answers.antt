-- `sfc6::append_request` meets its contract. Assumes nothing.
use native.Mathlib.Omega.{arith}
use Rattle.sfc6.specs.Requests.{write_request}
use Rattle.sfc6.specs.Rounds.{append_request}
use Rattle.sfc6.proofs.Writing.{starts_at, appended}
use Rattle.sfc6.proofs.append_request.Goals as goal

pub returns : goal.returns
unfolding append_request
returns c =
    let a = c.args in
    appended a.buffer.now a.start c.min-end.result (write_request _ _)
    (starts_at _ _ _ _ c.min-end.ensures (omega arith))
    c.write_request.ensures
