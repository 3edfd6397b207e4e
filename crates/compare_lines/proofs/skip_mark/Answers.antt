-- `compare_lines::skip_mark` meets its contract. Assumes nothing.
use Rattle.std.proofs.Common.{◌-◌, List, ℕ, length, ap, sym, ◌∙◌, arith}
use Rattle.compare_lines.proofs.Fitting.{none_told, is_told, length-line}
use Rattle.compare_lines.proofs.skip_mark.Goals as goal

pub returns-in-Some : goal.returns-in-Some
returns-in-Some c =
    let g = c.args in
    let digits = c.digits_in_bytes-number.ensures.1 in
    let line = ap (λ (l : List ℕ). length l) (sym (is_told g.m _ g.n c.in-Some.ensures.0 c.in-Some.ensures.1)) ∙ length-line c.in-Some.word.now g.n in
    c.saturating_sub.ensures ∙ ap (λ (k : ℕ). g.skip - k) (omega (arith, digits, line))

pub returns-in-None : goal.returns-in-None
returns-in-None c = omega (arith, ap (λ (l : List ℕ). length l) (none_told c.args.m c.args.n c.in-None.ensures))
