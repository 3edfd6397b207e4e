-- `compare::mark` meets its contract. Assumes nothing.
use Rattle.std.proofs.Common.{true, false}
use Rattle.compare.proofs.MarkLaws.{mark_kinds, mark_by}
use Rattle.compare.proofs.mark.Goals as goal
use Rattle.compare.proofs.mark.Goals.{else-eq-via-then-eq+else-same_bytes, else-eq-via-else-eq}

pub returns-then-same_bytes : goal.returns-then-same_bytes
returns-then-same_bytes c = mark_by _ _ c.args.x c.args.y c.if-eq.ensures true c.if-same_bytes.ensures

pub returns-else-eq : goal.returns-else-eq
returns-else-eq c =
    elim c.else-eq.branch [
      | else-eq-via-then-eq+else-same_bytes w ↦ mark_by _ _ c.args.x c.args.y w.if-eq.ensures false w.if-same_bytes.ensures
      | else-eq-via-else-eq w ↦ mark_kinds _ _ c.args.x c.args.y w.if-eq.ensures
    ]
