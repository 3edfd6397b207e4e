use Rattle.std.proofs.Common.{◌≡◌, ◌∙◌, ap, subst, sym, List}
use Rattle.std.specs.Prelude.{IfOk}
use Rattle.refusal.specs.Refusals.{Answered, answered}
use Rattle.board.specs.declared.entries.Entry.{Entry}
use Rattle.replay.specs.Replay.{shown}
use Rattle.replay.proofs.Whole.{log_replayed, log_answered}
use Rattle.replay.proofs.replay.Goals as goal

pub returns-clause-answer : goal.returns-clause-answer
returns-clause-answer c =
    c.replay_all.ensures.answer
    ∙ log_answered c.args.file.now c.args.lease c.args.room c.lease_in_range.ensures c.if-not-lease_in_range.false (sym (ap answered c.in_ok-count.was) ∙ c.check.ensures)

pub returns-clause-list : goal.returns-clause-list
returns-clause-list c =
    subst (λ (a : Answered (List Entry)). IfOk c.replay_all.result (λ v. v.items ≡ shown a))
    (log_replayed c.args.file.now c.args.lease c.args.room c.lease_in_range.ensures c.if-not-lease_in_range.false (sym (ap answered c.in_ok-count.was) ∙ c.check.ensures)) c.replay_all.ensures.list
