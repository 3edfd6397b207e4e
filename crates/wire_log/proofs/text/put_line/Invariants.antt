-- `wire_log::text::put_line` meets its contract. The invariant: the bytes that are left, laid from here on, make the whole. Assumes
-- nothing.
use Rattle.std.proofs.Common.{◌-◌, length, take, drop}
use Rattle.wire_log.specs.Log.{recorded}
use Rattle.wire_log.specs.Kinds.{number_of_kind}
use Rattle.wire_log.specs.Text.{line_of}
use Rattle.wire_log.proofs.Windows.{fitting, Laying}
use Rattle.wire_log.proofs.Spelled.{rest_of}
use Rattle.wire_log.proofs.text.put_line.Given as goal

abbrev pub invariant-loop-b : goal.invariant-loop-b
invariant-loop-b l =
    Laying (rest_of (take (length l.body - l.skipped) (drop l.skipped l.body)) l.b-index) l.fn.out l.place (fitting (line_of (recorded (number_of_kind l.fn.kind) l.body)) l.skip (length l.fn.out) l.place) l.out l.next l.left
