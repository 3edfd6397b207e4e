use Rattle.std.proofs.Common.{◌≡◌}
use Rattle.arrayvec.specs.ArrayVec.{array_vec_len}
use Rattle.shdlc_vectors.proofs.read_line.Given as goal

-- each turn has put a byte
abbrev pub invariant-loop : goal.invariant-loop
invariant-loop g l = array_vec_len l.line ≡ l.counter
