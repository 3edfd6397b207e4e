-- Each part begins where the last one ended, and no text of two logs is longer than 300,000 bytes.
use Rattle.std.proofs.Common.{◌≡◌, ◌+◌, ◌-◌, ◌≤◌, length, take, drop}
use Rattle.std.specs.Io.KnownBytes.{Appends}
use Rattle.compare_lines.specs.Text.{compare_text}
use Rattle.compare_logs.proofs.print.Given as goal

abbrev pub invariant-loop-n : goal.invariant-loop-n
invariant-loop-n g l =
    (length l.out ≡ 65536) × (l.n ≤ 65536) × (l.from + l.n ≤ length (compare_text l.a l.b)) × (take l.n l.out ≡ take l.n (drop l.from (compare_text l.a l.b)))
    × (l.n ≤ 0 → length (compare_text l.a l.b) ≤ l.from)
    × (length (compare_text l.a l.b) ≤ 300000)
    × Appends (g.W.Write.contents l.initial.to) (g.W.Write.contents l.to) (take l.from (compare_text l.a l.b))

abbrev pub decreases-loop-n : goal.decreases-loop-n
decreases-loop-n g l = 300000 - l.from
