-- `wire_log::writer::append` meets its contract: at each return the tests that led there. Assumes nothing.
use mathlib.Core.Path.{◌∙◌}
use Rattle.std.proofs.lemmas.Result.{err_from_is_err_and}
use borrow.Author.Rules.{rules}
use Rattle.payload.specs.Field.{Bytes}
use Rattle.wire_log.specs.Log.{recorded, kinds}
use Rattle.wire_log.proofs.Adding.{append_past, append_refused, served_log, append-laid}
use Rattle.wire_log.proofs.writer.append.Goals as goal

pub returns-then-buffer-size : goal.returns-then-buffer-size
returns-then-buffer-size c = append_past _ _ _ _ c.if-buffer-size.true

pub returns-in_err-count : goal.returns-in_err-count
returns-in_err-count c =
    let p = err_from_is_err_and c.from_residual.result c.from_residual.ensures.1 in rw (p.1, p.2) (append_refused _ _ _ _ c.if-buffer-size.false c.in_err-count.ensures)

-- the log that the check served
pub overflow_sub-size : goal.overflow_sub-size
overflow_sub-size c =
    let bytes : Bytes c.args.buffer.now = (λ i. search rules) in
    (served_log kinds (recorded c.args.kind c.args.body.now) _ c.args.size c.if-buffer-size.false bytes _ c.in_ok-count.ensures).long

pub add_after-requires : goal.add_after-requires
add_after-requires c =
    let bytes : Bytes c.args.buffer.now = (λ i. search rules) in
    let log = served_log kinds (recorded c.args.kind c.args.body.now) _ c.args.size c.if-buffer-size.false bytes _ c.in_ok-count.ensures in
    (log.few, log.within)

pub returns : goal.returns
returns c =
    let bytes : Bytes c.args.buffer.now = (λ i. search rules) in
    c.add_after.ensures
    ∙ append-laid _ _ _ _ _ _ (served_log _ _ _ c.args.size c.if-buffer-size.false bytes _ c.in_ok-count.ensures)
