-- `wire_log::text::put_lines` meets its contract. The invariant: the lines that are left, laid from here on, make the whole. Assumes
-- nothing.
use Rattle.std.proofs.Common.{◌≡◌, ◌-◌, length, take, drop}
use Rattle.wire_log.specs.Log.{kinds}
use Rattle.wire_log.specs.Text.{lines_of, log_text}
use Rattle.wire_log.specs.Private.{records_in, shown}
use Rattle.wire_log.proofs.Windows.{Laying}
use Rattle.wire_log.proofs.text.put_lines.Given as goal

abbrev pub invariant-loop : goal.invariant-loop
invariant-loop l =
    (l.rest ≡ take (length l.rest) (take (length l.file - 8) l.file)) × (l.count - l.counter ≡ length (shown (records_in kinds l.rest)))
    × Laying (lines_of (shown (records_in kinds l.rest))) l.initial.out 0 (take (length l.initial.out) (drop l.from (log_text kinds l.file))) l.out l.next l.left
