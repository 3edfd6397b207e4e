-- `compare::bytes::same_block` meets its contract: a fold of the pairs. Assumes nothing.
use Rattle.std.proofs.Common.{rules, ◌∙◌}
use Rattle.std.proofs.lemmas.Iterator.{YieldsList-from_slice, YieldsList-from_zip}
use Rattle.std.proofs.lemmas.Iterator.Consumers.{fold_from_yields_List}
use borrow.Author.Tests.{ne_eqb}
use Rattle.compare.proofs.BlockLaws.{found_by, block_by, other_length}
use Rattle.compare.proofs.bytes.same_block.Goals as goal

pub returns-then-x-y : goal.returns-then-x-y
returns-then-x-y c =
    let x = c.args.x.now in
    let y = c.args.y.now in
    block_by x y c.if-x-y.true
    (fold_from_yields_List _ found_by _ _ c.fold.ensures.ran (YieldsList-from_zip (YieldsList-from_slice x (cc)) (YieldsList-from_slice y (cc))) (λ a x b q k. search rules))

pub returns-else-x-y : goal.returns-else-x-y
returns-else-x-y c = ne_eqb _ _ c.if-x-y.false ∙ other_length _ _ c.if-x-y.false
