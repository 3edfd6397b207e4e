use Rattle.std.proofs.Common.{ℕ, List, ◌++◌, ◌∙◌, ap, sym, take, get_or, arith}
use Rattle.std.proofs.lemmas.List.{append_assoc}
use Rattle.board.specs.Entries.{free}
use Rattle.board_lines.specs.Text.{entry_line, entry_lines}
use Rattle.board_lines.proofs.Rows.{lines_more}
use Rattle.board_lines.proofs.append_entries.Goals as goal

pub loop-e-preserved : goal.loop-e-preserved
loop-e-preserved c =
    let e = get_or c.args.entries.now c.loop-e.e-index free in (
      c.append_entry.ensures.items
          ∙ ap (λ (l : List ℕ). l ++ entry_line e) c.loop-e.invariant.0
          ∙ append_assoc c.args.text.now.items (entry_lines (take c.loop-e.e-index c.args.entries.now)) (entry_line e)
          ∙ ap (λ (l : List ℕ). c.args.text.now.items ++ l) (sym (lines_more c.args.entries.now c.loop-e.e-index c.loop-e-test.true)),
      omega (arith, c.append_entry.ensures.room, c.loop-e.invariant.1),
    )
