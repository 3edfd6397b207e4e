-- A fold of the pairs, and the last byte.
use Rattle.std.proofs.Common.{rules}
use Rattle.std.proofs.lemmas.Iterator.{YieldsList-from_slice}
use Rattle.std.proofs.lemmas.Iterator.Consumers.{fold_from_yields_List}
use Rattle.i2c.proofs.PairLaws.{pair_of, by_pairs}
use Rattle.i2c.proofs.crc.Table+8.crc_by_pairs.Goals as goal

pub returns : goal.returns
returns c =
    let k = c.as_chunks in
    by_pairs _ c.args.self.now.steps _ _ _ _ _ _ c.fold-c.type_inv (λ i. (c.type_inv.bytes i).fits) k.ensures.front k.ensures.back
    (fold_from_yields_List _ pair_of _ _ c.fold-c.ensures.ran (YieldsList-from_slice k.result.0.now (cc)) (λ a x b q k. search rules))
    c.crc.ensures
