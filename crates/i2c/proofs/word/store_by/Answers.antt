use Rattle.std.proofs.Common.{◌∙◌}
use Rattle.i2c.proofs.WordLaws.{bytes-more, bytes-end, bytes_count, overlay-sets}
use Rattle.i2c.proofs.word.store_by.Goals as goal

pub loop-k-preserved : goal.loop-k-preserved
loop-k-preserved c = bytes-more _ _ _ _ _ _ c.loop-k-test.true (c.type_inv.words _).fits c.to_be_bytes.ensures c.word_crc.ensures c.loop-k.invariant

pub returns : goal.returns
returns c = bytes-end _ _ _ _ c.loop-k-test.false c.loop-k.invariant ∙ overlay-sets _ _ (rw bytes_count c.requires)
