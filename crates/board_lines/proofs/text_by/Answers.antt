use Rattle.std.proofs.Common.{rules, ◌≡◌, ◌∙◌, ap, min, length, take}
use Rattle.std.proofs.lemmas.List.{take_min}
use Rattle.board_lines.specs.Text.{board_text}
use Rattle.board_lines.proofs.Writing.{numbered_0}
use Rattle.board_lines.proofs.text_by.Goals as goal

pub returns-then-refusal-eq0 : goal.returns-then-refusal-eq0
returns-then-refusal-eq0 c =
    let entries = c.args.entries.now in
    let n : c.min-n.result ≡ min 32 (length entries) = search rules in
    c.board_text.ensures
    ∙ numbered_0 c.args.refusal (take c.min-n.result entries) c.if-refusal-eq0.true
    ∙ ap (board_text c.args.refusal) (ap (λ m. take m entries) n ∙ take_min 32 entries)
