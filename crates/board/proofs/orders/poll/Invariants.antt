use Rattle.std.proofs.Common.{◌≡◌}
use Rattle.board.specs.Orders.{tick}
use Rattle.board.proofs.Runs.{done_to}
use Rattle.board.proofs.orders.poll.Given as goal

abbrev pub invariant-loop-e : goal.invariant-loop-e
invariant-loop-e l = l.t ≡ done_to (tick) l.e-index l.initial.t
