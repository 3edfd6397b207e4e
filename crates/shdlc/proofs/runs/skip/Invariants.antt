-- The blocks left are those of the bytes from the place reached on, and the run there ends where the run from the start does.
use Rattle.std.proofs.Common.{◌≡◌, ◌+◌, ◌≤◌, length, drop}
use Rattle.std.specs.Slice.Iter.{chunks_exact_rest, chunks_exact_size}
use Rattle.shdlc.specs.Runs.{run_of}
use Rattle.shdlc.proofs.runs.skip.Given as goal

abbrev pub invariant-loop-block : goal.invariant-loop-block
invariant-loop-block l =
    (l.n ≤ length l.bytes)
    × (l.n + run_of (drop l.n l.bytes) ≡ l.from + run_of (drop l.from l.bytes))
    × (chunks_exact_rest l.block-iterator ≡ drop l.n l.bytes)
    × (chunks_exact_size l.block-iterator ≡ l.width)
