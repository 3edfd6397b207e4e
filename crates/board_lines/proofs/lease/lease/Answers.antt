use Rattle.std.proofs.Common.{ℕ, ◌+◌, ◌*◌, min, ap, sym, ◌∙◌, arith}
use Rattle.board_lines.specs.Lease.{is_digit}
use Rattle.board_lines.proofs.Value.{reading_more, reading_other, reading_end}
use Rattle.board_lines.proofs.lease.lease.Goals as goal

pub returns-then-not-is_ascii_digit : goal.returns-then-not-is_ascii_digit
unfolding is_digit
returns-then-not-is_ascii_digit c = reading_other _ _ _ c.loop-b.invariant c.loop-b-test.true (sym c.is_ascii_digit.ensures.value ∙ c.if-not-is_ascii_digit.true)

pub loop-b-preserved : goal.loop-b-preserved
loop-b-preserved c =
    reading_more _ _ _ c.loop-b.invariant c.loop-b-test.true (omega (arith, c.if-not-is_ascii_digit.ensures.cases)) (omega (arith, c.if-not-is_ascii_digit.ensures.cases)) _ (c.min-n.ensures ∙ ap (λ (d : ℕ). min (c.loop-b.n * 10 + d) 65536) c.from.ensures)

pub returns : goal.returns
returns c = reading_end _ _ _ c.loop-b.invariant c.loop-b-test.false
