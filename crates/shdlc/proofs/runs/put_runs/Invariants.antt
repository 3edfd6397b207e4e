-- What is written now, with the bytes left written after it, is the whole.
use Rattle.std.proofs.Common.{◌≡◌, ◌+◌, ◌-◌, ◌≤◌, length, drop}
use Rattle.refusal.specs.Room.{overlay}
use Rattle.shdlc.specs.Stuffing.{stuff}
use Rattle.shdlc.proofs.runs.put_runs.Given as goal

abbrev pub invariant-loop-i : goal.invariant-loop-i
invariant-loop-i l =
    (l.i ≤ length l.bytes)
    × (l.o + length (stuff (drop l.i l.bytes)) ≡ l.place + length (stuff l.bytes))
    × (overlay l.out l.o (stuff (drop l.i l.bytes)) ≡ overlay l.initial.out l.place (stuff l.bytes))
    × (length l.out ≡ length l.initial.out)

abbrev pub decreases-loop-i : goal.decreases-loop-i
decreases-loop-i l = length l.bytes - l.i
