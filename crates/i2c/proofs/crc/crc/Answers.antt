-- The CRC is a fold of the bytes.
use Rattle.std.proofs.Common.{rules, ◌∙◌}
use Rattle.std.proofs.lemmas.Iterator.{YieldsList-from_slice}
use Rattle.std.proofs.lemmas.Iterator.Consumers.{fold_from_yields_List}
use Rattle.i2c.specs.Crc.{byte_step}
use Rattle.i2c.proofs.CrcLaws.{crc_fold}
use Rattle.i2c.proofs.crc.crc.Goals as goal

pub returns : goal.returns
returns c =
    fold_from_yields_List _ byte_step _ _ c.fold.ensures.ran (YieldsList-from_slice c.args.bytes.now (cc)) (λ a x b q k. search rules)
    ∙ crc_fold _ _
