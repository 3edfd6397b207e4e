-- The invariant of `receiver::scan`: the scan of the whole piece is that of what is left, from the record that the variables make; outside a
-- stretch the next byte is a 7E. Assumes nothing.
use Prim.Native.Nat.{◌≤◌, ◌<◌, ◌-◌}
use mathlib.Core.Path.{◌≡◌}
use lib.ListN.{length, get_or, drop}
use Rattle.receiver.specs.declared.Mode.TheVariants.{Outside}
use Rattle.receiver.specs.Record.{held}
use Rattle.receiver.specs.Calls.{scan_from}
use Rattle.receiver.proofs.scan.Given as goal

abbrev pub invariant-loop-i : goal.invariant-loop-i
invariant-loop-i l = record {
  within : l.i ≤ length l.piece;
  same : scan_from 0 (held l.fn.r l.fn.store) l.piece
      ≡ scan_from l.i (record { kind = l.kind; mode = l.mode; len = l.len; noise = l.noise; store = l.store }) (drop l.i l.piece);
  no_noise : l.mode ≡ Outside → l.i < length l.piece → get_or l.piece l.i 0 ≡ 0x7E;
}

abbrev pub decreases-loop-i : goal.decreases-loop-i
decreases-loop-i l = length l.piece - l.i
