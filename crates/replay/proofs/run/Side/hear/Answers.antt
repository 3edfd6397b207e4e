use Rattle.std.proofs.Common.{ℕ, ◌≤◌, refl, sym, ap, ◌∙◌, subst, List, length, arith}
use Rattle.std.proofs.lemmas.Bool.{eqb-true, eqb-false}
use Rattle.receiver.specs.Record.{Record, held}
use Rattle.receiver.specs.Calls.{paper_answer}
use Rattle.receiver.proofs.Cases.{taken_within}
use Rattle.receiver.proofs.Callers.{fed_in_range, fed_some}
use Rattle.replay.specs.Private.{noted_answer, kept_of}
use Rattle.replay.proofs.GoingOn.{Rest, rest_start, rest_call, rest_end, frame-holds}
use Rattle.replay.proofs.run.Side.hear.Goals as goal

pub note-requires : goal.note-requires
note-requires c = frame-holds c.feed-fed.result _ _ _ _ _ _ c.feed-fed.ensures

pub split_at-requires : goal.split_at-requires
split_at-requires c = taken_within c.feed-fed.result _ _ _ _ _ _ c.feed-fed.ensures

pub loop-left-init : goal.loop-left-init
loop-left-init c = (
  subst (λ (r : Record). Rest c.args.desk.now.lease c.args.kind c.args.self.now (kept_of c.args.desk.now) c.args.piece.now r (kept_of c.args.desk.now) c.args.piece.now) (sym c.self.view_is) (rest_start c.args.desk.now.lease c.args.kind c.args.self.now (kept_of c.args.desk.now) c.args.piece.now),
  c.self.invariant,
  refl,
)

pub loop-left-smaller : goal.loop-left-smaller
loop-left-smaller c =
    let some : 1 ≤ c.feed-fed.result.taken = fed_some _ c.loop-left.invariant.1 _ _ _ (omega arith) c.feed-fed.ensures (omega (arith, eqb-false (length c.loop-left.left.now) 0 (sym c.is_empty.ensures ∙ c.loop-left-test.true))) in
    omega (arith, some, c.split_at.ensures.back_len)

pub loop-left-preserved : goal.loop-left-preserved
loop-left-preserved c =
    let l = c.loop-left in (
      subst (λ (left : List ℕ). Rest c.args.desk.now.lease c.args.kind c.args.self.now (kept_of c.args.desk.now) c.args.piece.now (held c.feed-fed.result.receiver c.feed-fed.new.store) (kept_of c.note.new.self) left) (sym c.split_at.ensures.back)
          (rest_call _ _ _ _ _ _ _ _ _ _ _ (omega arith) c.feed-fed.ensures (c.note.ensures.1 ∙ ap (λ (n : ℕ). noted_answer n c.args.kind (kept_of l.desk) (paper_answer c.feed-fed.result.answer) c.feed-fed.new.frame) l.invariant.2) l.invariant.0),
      fed_in_range _ l.invariant.1 _ _ _ _ (omega arith) c.feed-fed.ensures,
      c.note.ensures.0 ∙ l.invariant.2,
    )

pub invariant_of-self : goal.invariant_of-self
invariant_of-self c = c.loop-left.invariant.1

pub returns : goal.returns
returns c = (rest_end _ _ _ _ _ _ _ _ (eqb-true (length c.loop-left.left.now) 0 (sym c.is_empty.ensures ∙ c.loop-left-test.false)) c.loop-left.invariant.0, c.loop-left.invariant.2)
