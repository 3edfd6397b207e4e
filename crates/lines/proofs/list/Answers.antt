-- `lines::list` meets its contract: each turn of the loop by what `feed` and `put_answer` ensure. Assumes nothing.
use native.Mathlib.Omega.{arith}
use Prim.Native.Nat.{◌-◌, ◌≤◌}
use mathlib.Core.Path.{refl, ◌∙◌}
use lib.ListN.{length, take, drop, length-take, length-drop}
use Rattle.receiver.specs.Record.{held}
use Rattle.receiver.proofs.Cases.{range_size, taken_within}
use Rattle.lines.proofs.Loop.{turn, nothing_left, no_room, ended, from_start}
use Rattle.lines.proofs.list.Goals as goal

pub loop-taken-init : goal.loop-taken-init
loop-taken-init c = record {
  within = omega arith;
  place = c.requires.1;
  size = range_size (held c.args.from c.args.store.now) c.requires.0;
  room = refl;
  range = λ h. c.requires.0;
  same = from_start _;
}

-- what a feeding call takes is within what is left
pub overflow_add-taken : goal.overflow_add-taken
overflow_add-taken c =
    let l = c.loop-taken in
    let s = c.args.piece.now in
    let t : c.feed-fed.result.taken ≤ length (take (length s - l.taken) (drop l.taken s)) =
    taken_within c.feed-fed.result _ _ _ _ _ _ c.feed-fed.ensures in
    omega (arith, length-take (length s - l.taken) (drop l.taken s), length-drop l.taken s)

pub loop-taken-smaller : goal.loop-taken-smaller
loop-taken-smaller c =
    let l = c.loop-taken in
    let t =
    turn (held l.r l.store) c.args.piece.now l.frame l.out l.taken l.filled c.feed-fed.result c.loop-taken-test.true
    (l.invariant.range c.loop-taken-test.true) (omega arith) l.invariant.place c.if-out-filled-lt-LINE.false c.feed-fed.ensures
    c.put_answer-filled.ensures c.put_answer-filled.auto.out in
    omega (arith, t.within, t.more)

pub loop-taken-preserved : goal.loop-taken-preserved
loop-taken-preserved c =
    let l = c.loop-taken in
    let t =
    turn (held l.r l.store) c.args.piece.now l.frame l.out l.taken l.filled c.feed-fed.result c.loop-taken-test.true
    (l.invariant.range c.loop-taken-test.true) (omega arith) l.invariant.place c.if-out-filled-lt-LINE.false c.feed-fed.ensures
    c.put_answer-filled.ensures c.put_answer-filled.auto.out in
    let size = c.feed-fed.auto.store ∙ l.invariant.size in record {
      within = t.within;
      place = t.place;
      size = size;
      room = c.feed-fed.auto.frame ∙ l.invariant.room;
      range = λ h. t.range h size;
      same = t.same ∙ l.invariant.same;
    }

pub returns-after-loop-taken : goal.returns-after-loop-taken
returns-after-loop-taken c =
    let l = c.loop-taken in
    ended (held l.r l.store) _ l.out l.taken l.filled (nothing_left _ l.taken _ _ c.loop-taken-test.false) l.invariant.same

pub returns-then-out-filled-lt-LINE : goal.returns-then-out-filled-lt-LINE
returns-then-out-filled-lt-LINE c =
    let l = c.loop-taken in
    ended (held l.r l.store) _ l.out l.taken l.filled (no_room _ _ _ c.if-out-filled-lt-LINE.true) l.invariant.same
