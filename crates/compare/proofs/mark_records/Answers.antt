-- `compare::mark_records` meets its contract. Assumes nothing.
use Rattle.std.proofs.Common.{◌<◌, ℕ, List, arith, ap, sym, ◌∙◌}
use Rattle.refusal.proofs.Room.{overlay_all}
use Rattle.payload.specs.Field.{Bytes}
use Rattle.wire_log.specs.Log.{kinds}
use Rattle.wire_log.specs.Oldest.{row_found}
use Rattle.wire_log.proofs.Halves.{newest_turn}
use Rattle.compare.proofs.MarkLaws.{fits, length-marked, marking_start, marking_more, marking_over}
use Rattle.compare.proofs.mark_records.Goals as goal

pub loop-i-init : goal.loop-i-init
loop-i-init c = marking_start _ _ _ _ _ _ c.requires.0 c.requires.1 c.requires.2 c.requires.3

pub unwrap-x-requires : goal.unwrap-x-requires
unwrap-x-requires c =
    let some : 0 < c.loop-i.i = c.loop-i-test.true in
    c.newest.ensures.some c.loop-i.invariant.in_a (omega (arith, some, c.loop-i.invariant.some_a))

pub unwrap-y-requires : goal.unwrap-y-requires
unwrap-y-requires c =
    let some : 0 < c.loop-i.i = c.loop-i-test.true in
    c.newest-in-loop-i.ensures.some c.loop-i.invariant.in_b (omega (arith, some, c.loop-i.invariant.some_b))

pub loop-i-preserved : goal.loop-i-preserved
loop-i-preserved c =
    let a : List ℕ = c.args.a.now in
    let b : List ℕ = c.args.b.now in
    let bytes-a : Bytes a = λ i. (c.type_inv.a i).fits in
    let bytes-b : Bytes b = λ i. (c.type_inv.b i).fits in
    let m = c.loop-i.invariant in
    let some : 0 < c.loop-i.i = c.loop-i-test.true in
    let x = newest_turn kinds a c.loop-i.at_a bytes-a m.in_a (omega (arith, some, m.some_a)) (sym (ap row_found c.unwrap-x.ensures) ∙ c.newest.ensures.row) in
    let y = newest_turn kinds b c.loop-i.at_b bytes-b m.in_b (omega (arith, some, m.some_b)) (sym (ap row_found c.unwrap-y.ensures) ∙ c.newest-in-loop-i.ensures.row) in
    marking_more _ _ _ _ _ _ _ _ _ _ m some (fits _ _ _ _ _ m (omega arith)) x y c.mark-m.ensures c.from-same.ensures

pub returns : goal.returns
returns c =
    let over = marking_over _ _ _ _ _ _ _ _ _ _ c.loop-i.invariant c.loop-i-test.false in
    (over.0, over.1 ∙ overlay_all _ _ (length-marked c.args.a.now c.args.b.now c.args.p c.args.q _ c.requires.2 c.requires.3))
