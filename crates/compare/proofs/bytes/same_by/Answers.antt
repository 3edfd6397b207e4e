-- `compare::bytes::same_by` meets its contract. Assumes nothing.
use Rattle.std.proofs.Common.{◌<◌, ◌-◌, length, ℕ, arith, inl, inr, sym, ◌∙◌}
use Rattle.std.specs.Slice.Iter.{chunks_exact_rest}
use Rattle.compare.specs.Compare.{same_bytes}
use Rattle.compare.proofs.BlockLaws.{left_all, block_not, block_more, left_long, block_last, to_end}
use Rattle.compare.proofs.bytes.same_by.Goals as goal

pub loop-a-init : goal.loop-a-init
loop-a-init c = (left_all _ _ _ _ (cc) (cc), cc, cc)

pub returns-then-not-same_block : goal.returns-then-not-same_block
returns-then-not-same_block c =
    let inv = c.loop-a.invariant in
    let next = c.in-Some.ensures.steps in
    block_not _ _ _ _ inv.0 c.args.width _ _ _ _ next.0.1.0 next.1.1.0 (next.0.1.1 ∙ inv.1) (next.1.1.1 ∙ inv.2) (sym c.if-not-same_block.ensures)

pub loop-a-preserved : goal.loop-a-preserved
loop-a-preserved c =
    let inv = c.loop-a.invariant in
    let next = c.in-Some.ensures.steps in (
      block_more _ _ _ _ inv.0 c.args.width _ _ _ _ next.0.1.0 next.1.1.0 (next.0.1.1 ∙ inv.1) (next.1.1.1 ∙ inv.2) (sym c.if-not-same_block.ensures),
      next.0.0 ∙ inv.1,
      next.1.0 ∙ inv.2,
    )

-- the iterator ends where less than a block is left of one string, and so of both
pub returns : goal.returns
returns c =
    let x = c.args.x.now in
    let y = c.args.y.now in
    let inv = c.loop-a.invariant in
    let one_length = left_long x y _ _ inv.0 c.requires.0 in
    let left : length (chunks_exact_rest c.loop-a.a-iterator.a) < c.args.width =
    elim c.in-None.ensures.steps [ inl p ↦ omega (arith, p.1.1.0, inv.1) | inr p ↦ omega (arith, p.1.1.0, inv.2, one_length) ] in
    let m : ℕ = length x - c.args.width in
    c.same_block-2.ensures ∙ (λ i. same_bytes (to_end m x i) (to_end m y i)) ∙ block_last x y _ _ inv.0 m (omega (arith, left))
