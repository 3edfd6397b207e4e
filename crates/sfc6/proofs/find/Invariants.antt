-- `sfc6::find` meets its contract. The invariant: no row so far passes. Assumes nothing.
use mathlib.Core.Bool.{false}
use Prim.Native.Nat.{ℕ, ◌<◌}
use Rattle.sfc6.specs.Commands.{row, request_at}
use Rattle.sfc6.proofs.find.Given as goal

abbrev pub invariant-loop-place : goal.invariant-loop-place
invariant-loop-place g l = (k : ℕ) → k < l.place → goal.F-post g l.passes (row (request_at k 0)) false
