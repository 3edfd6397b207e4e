-- One law for each return.
use Rattle.i2c.proofs.WordAnswers.{three_wrong}
use Rattle.i2c.proofs.word.read_three.Goals as goal

pub returns-in-Some : goal.returns-in-Some
returns-in-Some c = three_wrong _ _ _ c.requires _ c.check_three.ensures _ c.in-Some.is
