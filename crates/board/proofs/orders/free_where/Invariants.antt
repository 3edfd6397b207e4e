use Rattle.std.proofs.Common.{◌≡◌, Bool}
use Rattle.board.specs.declared.entries.Entry.{Entry}
use Rattle.board.specs.Orders.{freed}
use Rattle.board.proofs.Runs.{done_to}
use Rattle.board.proofs.orders.free_where.Given as goal

abbrev pub invariant-loop-e : goal.invariant-loop-e
invariant-loop-e g l = (f : Entry → Bool) → ((e : Entry) (b : Bool) → goal.F-post g l.holds e b → b ≡ f e) → l.t ≡ done_to (freed f) l.e-index l.initial.t
