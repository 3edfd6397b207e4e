-- The sum so far and that of the bytes left are the whole sum, modulo 256.
use Rattle.std.proofs.Common.{◌≡◌, ◌+◌, ◌%◌, drop}
use Rattle.shdlc.specs.Checksum.{sum}
use Rattle.shdlc.proofs.sum_on.Given as goal

abbrev pub invariant-loop-b : goal.invariant-loop-b
invariant-loop-b l = (l.total + sum (drop l.b-index l.bytes)) % 256 ≡ (l.start + sum l.bytes) % 256
