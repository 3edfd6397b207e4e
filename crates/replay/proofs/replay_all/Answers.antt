use Rattle.std.proofs.Common.{◌≡◌, ◌∙◌, ap, subst, List}
use Rattle.std.specs.Prelude.{IfOk}
use Rattle.refusal.specs.Refusals.{Answered}
use Rattle.board.specs.declared.entries.Entry.{Entry}
use Rattle.replay.specs.Replay.{room_for, shown}
use Rattle.replay.specs.Private.{list_of}
use Rattle.replay.proofs.Whole.{all_there, all_left, good_left}
use Rattle.replay.proofs.replay_all.Goals as goal

pub overflow_sub-file : goal.overflow_sub-file
overflow_sub-file c = (all_there c.args.file.now c.args.count c.args.lease c.requires).2

pub replay_newest-requires : goal.replay_newest-requires
replay_newest-requires c = let there = all_there c.args.file.now c.args.count c.args.lease c.requires in (there.0, there.1)

-- the board that all records leave
pub list-requires : goal.list-requires
list-requires c =
    good_left c.args.file.now c.args.lease _ (all_left c.args.file.now c.args.count c.args.lease c.requires c.new-run.result c.replay_newest.new.self c.new-run.ensures c.replay_newest.ensures)

pub returns-clause-answer : goal.returns-clause-answer
returns-clause-answer c =
    c.list.ensures.answer
    ∙ ap (λ (b : Answered (List Entry)). room_for (list_of b) c.args.room) (all_left c.args.file.now c.args.count c.args.lease c.requires c.new-run.result c.replay_newest.new.self c.new-run.ensures c.replay_newest.ensures)

pub returns-clause-list : goal.returns-clause-list
returns-clause-list c =
    subst (λ (b : Answered (List Entry)). IfOk c.list.result (λ v. v.items ≡ shown (list_of b)))
    (all_left c.args.file.now c.args.count c.args.lease c.requires c.new-run.result c.replay_newest.new.self c.new-run.ensures c.replay_newest.ensures) c.list.ensures.list
