-- `wire_log::reader::last` meets its contract: at each return the tests that led there. Assumes nothing.
use Rattle.std.proofs.Common.{le_refl}
use Rattle.std.proofs.lemmas.Result.{err_from_is_err_and}
use Rattle.wire_log.proofs.Steps.{found-cut, found-before-start, found_unknown, found_record}
use Rattle.wire_log.proofs.reader.last.Goals as goal

pub returns-then-n-lt3 : goal.returns-then-n-lt3
returns-then-n-lt3 c = found-cut _ _ _ c.if-n-lt3.true

pub returns-then-n-size : goal.returns-then-n-size
returns-then-n-size c = found-before-start _ _ _ _ c.size_said-size.ensures c.if-n-size.true

pub returns-in_err-kind : goal.returns-in_err-kind
returns-in_err-kind c =
    let p = err_from_is_err_and c.from_residual.result c.from_residual.ensures.1 in
    rw (p.1, p.2) (rw c.in_err-kind.ensures.0 (found_unknown _ _ _ _ c.size_said-size.ensures c.if-n-lt3.false c.if-n-size.false c.in_err-kind.ensures.1))

pub returns : goal.returns
returns c =
    rw c.in_ok-kind.ensures.0
    (found_record _ _ _ _ c.size_said-size.ensures c.if-n-lt3.false c.if-n-size.false (le_refl _) c.in_ok-kind.ensures.1)
