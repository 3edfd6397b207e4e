-- `wire_log::listing::put_rows` meets its contract. The invariant: the rows that are left, laid from here on, make the whole. Assumes
-- nothing.
use Rattle.std.proofs.Common.{◌≡◌, ℕ, List, ◌-◌, ◌*◌, ◌≤◌, length, take}
use Rattle.refusal.specs.Room.{overlay}
use Rattle.wire_log.specs.Log.{kinds}
use Rattle.wire_log.specs.Listing.{rows_of, numbers_of}
use Rattle.wire_log.specs.Private.{records_in, shown}
use Rattle.wire_log.proofs.listing.put_rows.Given as goal

abbrev rows_in : List ℕ → ℕ → List ℕ
rows_in records n = numbers_of (take n (rows_of (shown (records_in kinds records))))

abbrev pub invariant-loop-i : goal.invariant-loop-i
invariant-loop-i l =
    (l.rest ≡ take (length l.rest) l.records) × (length l.rest ≤ 65000) × (l.n - l.i ≤ length (shown (records_in kinds l.rest))) × (length l.rows ≡ length l.initial.rows)
    × (overlay l.rows (3 * l.i) (rows_in l.rest (l.n - l.i)) ≡ overlay l.initial.rows 0 (rows_in l.records l.n))
