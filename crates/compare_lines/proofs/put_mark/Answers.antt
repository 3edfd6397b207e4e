-- `compare_lines::put_mark` meets its contract: a mark with a word has the line of it. Assumes nothing.
use Rattle.compare_lines.proofs.Fitting.{none_told, is_told, fitted_none, fitted_as}
use Rattle.compare_lines.proofs.put_mark.Goals as goal

pub returns-in-Some : goal.returns-in-Some
returns-in-Some c =
    let g = c.args in
    fitted_as g.out.now g.place g.skip (is_told g.m _ g.n c.in-Some.ensures.0 c.in-Some.ensures.1) c.put_line.ensures

pub returns-in-None : goal.returns-in-None
returns-in-None c =
    let g = c.args in
    fitted_none g.out.now g.place g.skip _ (none_told g.m g.n c.in-None.ensures)
