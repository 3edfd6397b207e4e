use Rattle.std.proofs.Common.{◌≡◌, ◌++◌, ◌≤◌, ◌+◌, ◌*◌, length, take}
use Rattle.board_lines.specs.Text.{entry_lines}
use Rattle.board_lines.proofs.append_entries.Given as goal

abbrev pub invariant-loop-e : goal.invariant-loop-e
invariant-loop-e l = (l.text.items ≡ l.fn.text.items ++ entry_lines (take l.e-index l.entries)) × (length l.text.items ≤ 44 + 106 * l.e-index)
