-- `compare::compare_all` meets its contract. Assumes nothing.
use Rattle.std.proofs.Common.{◌≡◌, inl, inr, length, take, length-take-le, ◌∙◌}
use native.Mathlib.Omega.{arith}
use Rattle.wire_log.specs.Log.{kinds}
use Rattle.wire_log.proofs.Turns.{passed}
use Rattle.compare.proofs.WholeLaws.{no_room, many_a, many_b, Past, all_marked}
use Rattle.compare.proofs.compare_all.Goals as goal
use Rattle.compare.proofs.compare_all.Goals.{then-m-n, else-m-n}

pub returns-then-marks-places : goal.returns-then-marks-places
returns-then-marks-places c =
    no_room c.args.a.now c.args.b.now c.args.m c.args.n (passed kinds _ _ c.requires.0) (passed kinds _ _ c.requires.1) c.args.marks.now
    c.max-places.result c.max-places.ensures c.if-marks-places.true

pub mark_records-same-requires : goal.mark_records-same-requires
mark_records-same-requires c =
    let a = c.args.a.now in
    let b = c.args.b.now in
    let x = passed kinds a c.args.m c.requires.0 in
    let y = passed kinds b c.args.n c.requires.1 in
    let out-a = c.back_over-p.ensures in
    let out-b = c.back_over-q.ensures in
    let p = c.back_over-p.result in
    let q = c.back_over-q.result in
    let both = c.min-both.result in
    let room : length (take both c.args.marks.now) ≡ both = length-take-le both c.args.marks.now (omega (arith, c.max-places.ensures, c.min-both.ensures, c.if-marks-places.false)) in (
      omega (arith, out-a.0),
      omega (arith, out-b.0),
      room ∙ many_a a b c.args.m c.args.n x y p q both c.min-both.ensures out-a out-b,
      room ∙ many_b a b c.args.m c.args.n x y p q both c.min-both.ensures out-a out-b,
    )

pub returns : goal.returns
returns c =
    let a = c.args.a.now in
    let b = c.args.b.now in
    let x = passed kinds a c.args.m c.requires.0 in
    let y = passed kinds b c.args.n c.requires.1 in
    let past : Past c.args.m c.args.n c.if-m-n.past =
    elim c.if-m-n.branch [ then-m-n w ↦ inl (w.if-m-n.true, w.past-is) | else-m-n w ↦ inr (w.if-m-n.false, w.past-is) ] in
    all_marked a b c.args.m c.args.n x y c.back_over-p.result c.back_over-q.result c.min-both.result c.min-both.ensures
    c.back_over-p.ensures c.back_over-q.ensures c.args.marks.now
    c.max-places.result c.if-m-n.past c.max-places.ensures c.if-marks-places.false past
    c.mark_records-same.ensures (c.fill.ensures.after (λ y h. h))

pub overflow_sub-a : goal.overflow_sub-a
overflow_sub-a c = (passed kinds _ _ c.requires.0).long

pub overflow_sub-b : goal.overflow_sub-b
overflow_sub-b c = (passed kinds _ _ c.requires.1).long
