-- `compare::bytes::same_bytes` meets its contract. Assumes nothing.
use Rattle.compare.proofs.BlockLaws.{other_length}
use Rattle.compare.proofs.bytes.same_bytes.Goals as goal

pub returns-then-x-y : goal.returns-then-x-y
returns-then-x-y c = other_length _ _ c.if-x-y.true
