-- The first chunk that is a wrong word is the first wrong word.
use Rattle.std.proofs.Common.{rules, tests}
use Rattle.std.proofs.lemmas.Iterator.{YieldsList-from_slice}
use Rattle.std.proofs.lemmas.Iterator.Search.{position_from_yields_List}
use Rattle.i2c.proofs.WordLaws.{is_wrong, wrong_found}
use Rattle.i2c.proofs.word.check_words.Goals as goal

pub returns : goal.returns
returns c =
    let k = c.as_chunks in
    wrong_found c.args.start c.args.bytes.now k.result.0.now _ k.ensures.front
    (position_from_yields_List (is_wrong c.args.start) _ _ _ c.position.ensures.ran (YieldsList-from_slice k.result.0.now (cc)) (λ x b q h. search (rules, tests)))
