-- `wire_log::writer::add_after` meets its contract: at each return the tests that led there. Assumes nothing.
use Rattle.std.proofs.Common.{arith}
use Rattle.std.proofs.lemmas.Result.{err_from_is_err_and}
use Rattle.wire_log.proofs.Adding.{laid_unknown, laid-over, laid_short, laid_done}
use Rattle.wire_log.proofs.writer.add_after.Goals as goal
use Rattle.wire_log.proofs.writer.add_after.Goals.{then-n-gt-MOST-via-then-n-gt-MOST, then-n-gt-MOST-via-else-n-gt-MOST+then-total-n-gt-MOST}

pub returns-in_err-known : goal.returns-in_err-known
returns-in_err-known c =
    let p = err_from_is_err_and c.from_residual.result c.from_residual.ensures.1 in
    rw (p.1, p.2) (rw c.in_err-known.ensures.0 (laid_unknown _ _ _ _ _ _ c.in_err-known.ensures.1))

pub returns-then-n-gt-MOST : goal.returns-then-n-gt-MOST
returns-then-n-gt-MOST c =
    laid-over _ _ _ _ _ _ c.in_ok-known.ensures.1
    (elim c.then-n-gt-MOST.branch [
      | then-n-gt-MOST-via-then-n-gt-MOST w ↦ omega arith
      | then-n-gt-MOST-via-else-n-gt-MOST+then-total-n-gt-MOST w ↦ omega arith
    ])

pub returns-then-buffer-total : goal.returns-then-buffer-total
returns-then-buffer-total c = laid_short _ _ _ _ _ _ c.in_ok-known.ensures.1 (omega arith) c.if-buffer-total.true

pub returns : goal.returns
returns c = laid_done _ _ _ _ _ _ c.in_ok-known.ensures.1 (omega arith) c.if-buffer-total.false c.lay_record.ensures
