-- The invariant of `lines::list`: a listing of what is left of the piece, from here on, gives the whole. Assumes nothing.
use Prim.Native.Nat.{◌-◌, ◌≤◌, ◌<◌}
use mathlib.Core.Path.{◌≡◌}
use mathlib.Core.Bool.{true}
use lib.ListN.{length, drop}
use Rattle.receiver.specs.Record.{held, in_range}
use Rattle.lines.specs.Private.{list_of}
use Rattle.lines.proofs.Loop.{shifted}
use Rattle.lines.proofs.list.Given as goal

abbrev pub invariant-loop-taken : goal.invariant-loop-taken
invariant-loop-taken l = record {
  within : l.taken ≤ length l.piece;
  place : l.filled ≤ length l.out;
  size : length l.store ≡ 260;
  room : length l.frame ≡ 260;
  range : l.taken < length l.piece → in_range (held l.r l.store) ≡ true;
  same : shifted l.taken (list_of (held l.r l.store) (drop l.taken l.piece) l.out l.filled) ≡ list_of (held l.fn.from l.fn.store) l.piece l.fn.out l.fn.place;
}

abbrev pub decreases-loop-taken : goal.decreases-loop-taken
decreases-loop-taken l = length l.piece - l.taken
