-- One law for each return.
use Rattle.i2c.proofs.WordAnswers.{write_all}
use Rattle.i2c.proofs.word.write_words.Goals as goal

pub returns : goal.returns
returns c = write_all _ _ _ c.if-n-eq0.false c.if-out-n.false c.store_by.ensures
