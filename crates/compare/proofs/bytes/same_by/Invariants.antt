-- `compare::bytes::same_by` meets its contract. The invariant: what stands before the blocks that are left is the same. Assumes nothing.
use Rattle.std.proofs.Common.{◌≡◌}
use Rattle.std.specs.Slice.Iter.{chunks_exact_rest, chunks_exact_size}
use Rattle.std.specs.Iterator.Adapters.{zip_first, zip_second}
use Rattle.compare.proofs.BlockLaws.{Left}
use Rattle.compare.proofs.bytes.same_by.Given as goal

abbrev pub invariant-loop-a : goal.invariant-loop-a
invariant-loop-a l =
    Left l.x l.y (chunks_exact_rest (zip_first l.a-iterator)) (chunks_exact_rest (zip_second l.a-iterator))
    × (chunks_exact_size (zip_first l.a-iterator) ≡ l.width)
    × (chunks_exact_size (zip_second l.a-iterator) ≡ l.width)
