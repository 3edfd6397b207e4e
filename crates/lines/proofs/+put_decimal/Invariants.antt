-- `lines::put_decimal` calls itself: the number is the measure. Assumes nothing.
use Rattle.lines.proofs.+put_decimal.Given as goal

abbrev pub decreases-put_decimal : goal.decreases-put_decimal
decreases-put_decimal l = l.n
