-- `compare::mark_records` meets its contract. The invariant: the marks that are left, from the newest on, make the whole. Assumes nothing.
use Rattle.std.proofs.Common.{length}
use Rattle.compare.specs.Private.{marks_to}
use Rattle.compare.proofs.MarkLaws.{Marking}
use Rattle.compare.proofs.mark_records.Given as goal

abbrev pub invariant-loop-i : goal.invariant-loop-i
invariant-loop-i l = Marking l.a l.b l.initial.marks (marks_to l.a l.p l.b l.q) (length l.initial.marks) l.marks l.at_a l.at_b l.i l.same
