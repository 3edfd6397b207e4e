-- `wire_log::reader::count` meets its contract. The invariant: the count so far and that of the records left are the whole. Assumes nothing.
use Rattle.std.proofs.Common.{◌≡◌, ◌+◌, ◌≤◌, length}
use Rattle.wire_log.specs.Log.{kinds}
use Rattle.wire_log.specs.Check.{counting}
use Rattle.wire_log.specs.Private.{records_in}
use Rattle.wire_log.proofs.Steps.{plus}
use Rattle.wire_log.proofs.reader.count.Given as goal

abbrev pub invariant-loop-rest : goal.invariant-loop-rest
invariant-loop-rest l =
    (l.count + length l.rest ≤ length l.records) × (plus l.count (counting (records_in kinds l.rest)) ≡ counting (records_in kinds l.records))

abbrev pub decreases-loop-rest : goal.decreases-loop-rest
decreases-loop-rest l = length l.rest
