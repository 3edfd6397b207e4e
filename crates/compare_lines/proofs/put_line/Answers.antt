-- `compare_lines::put_line` meets its contract: word, number and line feed, one after another. Assumes nothing.
use Rattle.compare_lines.proofs.Fitting.{line-laid}
use Rattle.compare_lines.proofs.put_line.Goals as goal

pub returns : goal.returns
returns c =
    line-laid c.args.out.now _ _ _ c.args.word.now _ c.args.n _ _ _ c.args.place c.args.skip _ _ c.requires c.digits_in_bytes-number.ensures.0
    c.put_from-after_word.ensures c.saturating_sub-past_word.ensures c.put_from-after_digits.ensures c.saturating_sub-past_digits.ensures c.put_from.ensures
