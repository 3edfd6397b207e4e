-- One was found where the bytes so far get longer by stuffing.
use Rattle.std.proofs.Common.{◌≡◌, ◌+◌, ◌≤◌, ℕ, cond, ltb, length, drop}
use Rattle.shdlc.specs.Stuffing.{stuff}
use Rattle.shdlc.proofs.has_escaped.Given as goal

abbrev pub invariant-loop-b : goal.invariant-loop-b
invariant-loop-b l =
    (l.b-index + length (stuff (drop l.b-index l.bytes)) ≤ length (stuff l.bytes))
    × (l.found ≡ cond {A = ℕ} (ltb (l.b-index + length (stuff (drop l.b-index l.bytes))) (length (stuff l.bytes))) 1 0)
