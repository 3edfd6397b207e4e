-- `wire_log::reader::check` meets its contract: at each return the tests that led there. Assumes nothing.
use Rattle.std.proofs.Common.{arith, ap, ◌∙◌}
use Rattle.std.proofs.lemmas.Result.{err_from_is_err_and}
use Rattle.wire_log.specs.Log.{kinds}
use Rattle.wire_log.specs.Check.{counting}
use Rattle.wire_log.proofs.Numbers.{number_there, number_not}
use Rattle.wire_log.proofs.Fronts.{records_to_front}
use Rattle.wire_log.proofs.Cases.{check_short, check_differs, check_over, check_refused, check_miscounted, check_good}
use Rattle.wire_log.proofs.reader.check.Goals as goal

pub returns-then-n-lt8 : goal.returns-then-n-lt8
returns-then-n-lt8 c = check_short _ _ c.if-n-lt8.true

pub returns-in_err-total : goal.returns-in_err-total
returns-in_err-total c = number_not c.args.file.now _ _ (omega arith) c.in_err-total.ensures

pub returns-then-total-n : goal.returns-then-total-n
returns-then-total-n c = check_differs _ _ _ (number_there _ _ _ (omega arith) c.in_ok-total.ensures) c.if-total-n.true

pub returns-then-total-gt-MOST : goal.returns-then-total-gt-MOST
returns-then-total-gt-MOST c = check_over _ _ _ (number_there _ _ _ (omega arith) c.in_ok-total.ensures) c.if-total-gt-MOST.true

pub returns-in_err-count : goal.returns-in_err-count
returns-in_err-count c =
    let p = err_from_is_err_and c.from_residual-in_err-count.result c.from_residual-in_err-count.ensures.1 in rw (p.1, p.2) (check_refused _ _ _ (number_there _ _ _ (omega arith) c.in_ok-total.ensures) c.if-n-lt8.false c.if-total-n.false c.if-total-gt-MOST.false
    (c.in_err-count.ensures ∙ ap counting (records_to_front kinds _ _ (omega arith))))

pub returns-in_err-said : goal.returns-in_err-said
returns-in_err-said c = number_not c.args.file.now _ _ (omega arith) c.in_err-said.ensures

pub returns-then-count-said : goal.returns-then-count-said
returns-then-count-said c =
    check_miscounted _ _ _ (number_there _ _ _ (omega arith) c.in_ok-total.ensures) c.if-n-lt8.false c.if-total-n.false c.if-total-gt-MOST.false _ _ (number_there _ _ _ (omega arith) c.in_ok-said.ensures)
    (c.in_ok-count.ensures ∙ ap counting (records_to_front kinds _ _ (omega arith))) c.if-count-said.true

pub returns : goal.returns
returns c =
    check_good _ _ _ (number_there _ _ _ (omega arith) c.in_ok-total.ensures) c.if-n-lt8.false c.if-total-n.false c.if-total-gt-MOST.false _ _ (number_there _ _ _ (omega arith) c.in_ok-said.ensures)
    (c.in_ok-count.ensures ∙ ap counting (records_to_front kinds _ _ (omega arith))) c.if-count-said.false
