-- The bytes that are left, written from here on, make the whole.
use Rattle.std.proofs.Common.{◌≡◌, length, take, drop}
use Rattle.refusal.specs.Room.{overlay}
use Rattle.refusal.proofs.laying.copy.Given as goal

abbrev pub invariant-loop-i : goal.invariant-loop-i
invariant-loop-i l =
    (length l.room ≡ length l.initial.room)
    × (overlay l.room l.i (drop l.i (take (length l.initial.room) l.bytes)) ≡ overlay l.initial.room 0 (take (length l.initial.room) l.bytes))
