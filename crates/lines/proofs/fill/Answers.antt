-- `lines::fill` meets its contract. Assumes nothing.
use Prim.Native.Nat.{◌-◌, ◌≤◌}
use native.Mathlib.Omega.{arith}
use mathlib.Core.Path.{sym, ◌∙◌}
use lib.ListN.{length}
use lib.Seq.{length-take-le}
use Rattle.lines.specs.Listing.{paper_listing}
use Rattle.lines.proofs.Filling.{fill_range, fill_room, fill-listed, listed_within}
use Rattle.lines.proofs.fill.Goals as goal

pub returns-then-not-in_range : goal.returns-then-not-in_range
returns-then-not-in_range c = fill_range _ _ _ _ (sym c.in_range.ensures ∙ c.if-not-in_range.true)

pub returns-then-saturating_sub-lt-LINE : goal.returns-then-saturating_sub-lt-LINE
returns-then-saturating_sub-lt-LINE c =
    let a = c.args in
    fill_room (paper_listing a.l a.store.now) a.piece.now a.out.now a.place (sym c.in_range.ensures ∙ c.if-not-in_range.false) (omega (arith, c.saturating_sub.ensures))

pub slice_bounds-list-end : goal.slice_bounds-list-end
slice_bounds-list-end c = sym (length-take-le _ _ (omega (arith, c.wanted-n.ensures)))

pub list-listed-requires : goal.list-listed-requires
list-listed-requires c =
    (sym c.in_range.ensures ∙ c.if-not-in_range.false, omega (arith, c.saturating_sub.ensures, c.if-saturating_sub-lt-LINE.false))

pub overflow_cast-result : goal.overflow_cast-result
overflow_cast-result c =
    let a = c.args in
    let within : c.list-listed.result.taken ≤ a.l.left =
    listed_within (paper_listing a.l a.store.now) a.piece.now a.out.now a.place (sym c.in_range.ensures ∙ c.if-not-in_range.false)
    c.list-listed.result c.wanted-n.ensures c.list-listed.ensures in
    omega arith

pub overflow_sub-result : goal.overflow_sub-result
overflow_sub-result c =
    let a = c.args in
    listed_within (paper_listing a.l a.store.now) a.piece.now a.out.now a.place (sym c.in_range.ensures ∙ c.if-not-in_range.false)
    c.list-listed.result c.wanted-n.ensures c.list-listed.ensures

pub returns : goal.returns
returns c =
    let a = c.args in
    let free : 24 ≤ length a.out.now - a.place = omega (arith, c.saturating_sub.ensures, c.if-saturating_sub-lt-LINE.false) in
    fill-listed (paper_listing a.l a.store.now) a.piece.now a.out.now a.place (sym c.in_range.ensures ∙ c.if-not-in_range.false)
    c.list-listed.result free c.wanted-n.ensures c.list-listed.ensures
