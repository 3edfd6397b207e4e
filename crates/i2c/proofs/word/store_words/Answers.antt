use Rattle.std.proofs.Common.{arith, ◌∙◌}
use Rattle.i2c.proofs.WordLaws.{words_in, words_end, words_count, word_stored, overlay-sets}
use Rattle.i2c.proofs.word.store_words.Goals as goal

pub bounds-words-k : goal.bounds-words-k
bounds-words-k c = omega (arith, c.as_chunks.ensures.front_len, c.requires, words_count c.args.bytes.now)

pub loop-k-preserved : goal.loop-k-preserved
loop-k-preserved c = word_stored _ _ _ _ c.loop-k-test.true c.from_be_bytes.ensures c.loop-k.invariant

pub returns : goal.returns
returns c =
    words_end _ _ _ c.loop-k-test.false c.loop-k.invariant
    ∙ rw (words_in c.args.bytes.now _ c.as_chunks.ensures.front) (overlay-sets _ _ c.requires)
