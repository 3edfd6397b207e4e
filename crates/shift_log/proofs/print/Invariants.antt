-- Each part begins where the last one ended, and no text is longer than 195,000 bytes.
use Rattle.std.proofs.Common.{◌≡◌, ◌+◌, ◌-◌, ◌≤◌, length, take, drop}
use Rattle.std.specs.Io.KnownBytes.{Appends}
use Rattle.wire_log.specs.Log.{kinds}
use Rattle.wire_log.specs.Text.{log_text}
use Rattle.shift_log.proofs.print.Given as goal

abbrev pub invariant-loop-n : goal.invariant-loop-n
invariant-loop-n g l =
    (length l.out ≡ 4096) × (l.n ≤ 4096) × (l.from + l.n ≤ length (log_text kinds l.file)) × (take l.n l.out ≡ take l.n (drop l.from (log_text kinds l.file)))
    × (l.n ≤ 0 → length (log_text kinds l.file) ≤ l.from)
    × (length (log_text kinds l.file) ≤ 195000)
    × Appends (g.W.Write.contents l.initial.to) (g.W.Write.contents l.to) (take l.from (log_text kinds l.file))

abbrev pub decreases-loop-n : goal.decreases-loop-n
decreases-loop-n g l = 195000 - l.from
