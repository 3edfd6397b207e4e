-- `wire_log::listing::older` meets its contract. The invariant: what is left to be left out, from here, is what there was. Assumes nothing.
use Rattle.std.proofs.Common.{◌≡◌, ◌-◌, length, take, drop}
use Rattle.wire_log.specs.Log.{kinds}
use Rattle.wire_log.specs.Private.{records_in, shown}
use Rattle.wire_log.proofs.listing.older.Given as goal

abbrev pub invariant-loop : goal.invariant-loop
invariant-loop l =
    (l.rest ≡ take (length l.rest) l.records) × (drop (l.skip - l.counter) (shown (records_in kinds l.rest)) ≡ drop l.skip (shown (records_in kinds l.records)))
