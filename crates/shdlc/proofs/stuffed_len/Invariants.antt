-- The count so far and that of the bytes left are the whole.
use Rattle.std.proofs.Common.{◌≡◌, ◌+◌, length, drop}
use Rattle.shdlc.specs.Stuffing.{stuff}
use Rattle.shdlc.proofs.stuffed_len.Given as goal

abbrev pub invariant-loop-b : goal.invariant-loop-b
invariant-loop-b l = l.n + length (stuff (drop l.b-index l.bytes)) ≡ length (stuff l.bytes)
