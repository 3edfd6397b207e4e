-- What is written now, with the bytes left written after it, is the whole, and the same of the sum.
use Rattle.std.proofs.Common.{◌≡◌, ◌+◌, ◌%◌, length, drop}
use Rattle.refusal.specs.Room.{overlay}
use Rattle.shdlc.specs.Checksum.{sum}
use Rattle.shdlc.specs.Stuffing.{stuff}
use Rattle.shdlc.proofs.Laid.put_stuffed.Given as goal

abbrev pub invariant-loop-b : goal.invariant-loop-b
invariant-loop-b l =
    (l.place + length (stuff (drop l.b-index l.bytes)) ≡ l.fn.self.place + length (stuff l.bytes))
    × (overlay l.out l.place (stuff (drop l.b-index l.bytes)) ≡ overlay l.initial.out l.fn.self.place (stuff l.bytes))
    × (length l.out ≡ length l.initial.out)
    × ((l.total + sum (drop l.b-index l.bytes)) % 256 ≡ (l.fn.self.total + sum l.bytes) % 256)
