use Rattle.std.proofs.Common.{◌≡◌, ℕ, Bool, List, map, reverse}
use Rattle.board.proofs.Seen.{marked}
use Rattle.board.proofs.survey.is_good.Given as goal

abbrev pub invariant-loop-e : goal.invariant-loop-e
invariant-loop-e l = ◌≡◌ {A = Bool × List ℕ} (l.good, l.seen) (marked (reverse (map (λ e. e.now) l.yielded)))
