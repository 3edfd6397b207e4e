use Rattle.board_lines.proofs.Value.{Reading}
use Rattle.board_lines.proofs.lease.lease.Given as goal

abbrev pub invariant-loop-b : goal.invariant-loop-b
invariant-loop-b l = Reading l.text l.n l.b-index
