-- `compare_lines::put_told`: the lines of the marks that are left, laid from here on, make the whole.
use Rattle.compare_lines.proofs.Fitting.{Telling}
use Rattle.compare_lines.proofs.put_told.Given as goal

abbrev pub invariant-loop-i : goal.invariant-loop-i
invariant-loop-i l = Telling l.marks l.same l.from l.initial.out l.out l.next l.skip l.i
