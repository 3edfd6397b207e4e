use Rattle.std.proofs.Common.{◌<◌, length, drop, arith, sym, ap, ◌∙◌}
use Rattle.std.specs.Slice.Iter.{chunks_exact_rest}
use Rattle.shdlc.proofs.RunLaws.{run_short, block_fits, block_rest, block_passed, block_ends}
use Rattle.shdlc.proofs.runs.skip.Goals as goal

pub returns-then-has_escaped : goal.returns-then-has_escaped
returns-then-has_escaped c =
    let inv = c.loop-block.invariant in
    let next = c.in-Some.ensures.steps in
    (inv.0, inv.1, block_ends _ _ _ _ _ inv.0 (sym inv.2 ∙ next.1.0) (next.1.1 ∙ inv.3) _ c.has_escaped.ensures c.if-has_escaped.true)

pub loop-block-preserved : goal.loop-block-preserved
loop-block-preserved c =
    let inv = c.loop-block.invariant in
    let next = c.in-Some.ensures.steps in
    let parts = sym inv.2 ∙ next.1.0 in
    let size = next.1.1 ∙ inv.3 in (
      block_fits _ _ _ _ _ inv.0 parts size,
      block_passed _ _ _ _ _ inv.0 parts size _ c.has_escaped.ensures c.if-has_escaped.false ∙ inv.1,
      block_rest _ _ _ _ _ inv.0 parts size,
      next.0 ∙ inv.3,
    )

pub returns : goal.returns
returns c =
    let inv = c.loop-block.invariant in
    let short = run_short (drop c.loop-block.n c.args.bytes.now) in
    let left : length (chunks_exact_rest c.loop-block.block-iterator) < c.args.width = omega (arith, c.in-None.ensures.steps.1.0, inv.3) in
    (inv.0, inv.1, omega (arith, short, left, ap length inv.2))
