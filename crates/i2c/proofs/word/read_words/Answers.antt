-- One law for each return.
use native.Mathlib.Omega.{arith}
use mathlib.Core.Path.{ap, ◌∙◌}
use Rattle.std.specs.Prelude.{Some}
use Rattle.i2c.proofs.WordAnswers.{read-wrong, read_all}
use Rattle.i2c.proofs.word.read_words.Goals as goal

pub returns-in-Some : goal.returns-in-Some
returns-in-Some c = read-wrong _ _ _ c.if-len-eq0.false c.if-len-ne0.false _ c.check_words.ensures _ (c.in-Some.is ∙ ap Some (omega arith))

pub returns : goal.returns
returns c =
    read_all _ _ _ c.if-len-eq0.false c.if-len-ne0.false _ c.check_words.ensures c.in_default.is c.if-words-n.false c.store_words.ensures
