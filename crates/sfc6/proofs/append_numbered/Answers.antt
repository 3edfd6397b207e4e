-- `sfc6::append_numbered` meets its contract. Assumes nothing.
use native.Mathlib.Omega.{arith}
use Rattle.sfc6.specs.Requests.{write_numbered}
use Rattle.sfc6.specs.Rounds.{append_numbered}
use Rattle.sfc6.proofs.Writing.{starts_at, appended}
use Rattle.sfc6.proofs.append_numbered.Goals as goal

pub returns : goal.returns
unfolding append_numbered
returns c =
    let a = c.args in
    appended a.buffer.now a.start c.min-from.result (write_numbered _ _ _)
    (starts_at _ _ _ _ c.min-from.ensures (omega arith))
    c.write_numbered.ensures
