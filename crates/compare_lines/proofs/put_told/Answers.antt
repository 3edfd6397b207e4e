-- `compare_lines::put_told` meets its contract. Assumes nothing.
use mathlib.Core.Path.{◌∙◌}
use Rattle.compare_lines.specs.Text.{same_word, line}
use Rattle.compare_lines.proofs.Fitting.{fitted_in, telling_start, telling_more, telling_over}
use Rattle.compare_lines.proofs.put_told.Goals as goal

pub loop-i-preserved : goal.loop-i-preserved
loop-i-preserved c =
    telling_more c.args.marks.now c.args.same c.args.from c.args.out.now c.loop-i.out c.loop-i.next c.loop-i.skip c.loop-i.i c.loop-i.invariant
    c.loop-i-test.true c.put_mark-next.ensures c.skip_mark-skip.ensures

pub returns : goal.returns
returns c =
    telling_over c.args.marks.now c.args.same c.args.from c.args.out.now c.loop-i.out c.loop-i.next c.loop-i.skip c.loop-i.i c.loop-i.invariant
    c.loop-i-test.false c.put_line.ensures

pub shape_of-out : goal.shape_of-out
shape_of-out c =
    (fitted_in c.loop-i.out _ (line same_word c.args.same) _ c.loop-i.next c.loop-i.skip c.loop-i.invariant.within c.put_line.ensures).1 ∙ c.loop-i.invariant.kept

pub loop-i-init : goal.loop-i-init
loop-i-init c = telling_start _ _ _ _

pub put_mark-next-requires : goal.put_mark-next-requires
put_mark-next-requires c = c.loop-i.invariant.within

pub put_line-requires : goal.put_line-requires
put_line-requires c = c.loop-i.invariant.within
