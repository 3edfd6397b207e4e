-- `wire_log::text::put_refused` meets its contract: the line is made of the refusal's number. Assumes nothing.
use Rattle.std.proofs.Common.{ℕ, ap, ◌∙◌}
use Rattle.wire_log.specs.Text.{refused_line, window}
use Rattle.wire_log.proofs.Windows.{window_at}
use Rattle.wire_log.proofs.text.put_refused.Goals as goal

pub returns : goal.returns
unfolding refused_line
returns c =
    let a = c.args in
    window_at (refused_line c.number-n.result) _ _ _ _ c.put_from.ensures ∙ ap (λ (n : ℕ). window (refused_line n) a.from a.out.now) c.number-n.ensures
