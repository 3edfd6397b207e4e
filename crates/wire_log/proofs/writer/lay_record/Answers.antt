-- `wire_log::writer::lay_record` meets its contract: five writes, one after another. Assumes nothing.
use Rattle.std.proofs.Common.{◌+◌, length, refl, arith, ◌∙◌}
use Rattle.payload.proofs.Big.{length-big_endian, big_endian_is}
use Rattle.wire_log.proofs.Adding.{laid}
use Rattle.wire_log.proofs.Written.{copied_to}
use Rattle.wire_log.proofs.writer.lay_record.Goals as goal

pub returns : goal.returns
returns c =
    laid _ _ _ _ _ c.requires.2 (copied_to _ _ _ (c.copy.ensures.whole (omega arith)) refl)
    (copied_to _ _ _ (c.copy_from_slice.ensures.after ∙ c.to_be_bytes.ensures ∙ big_endian_is 2 _) (omega (arith, length-big_endian 2 (length c.args.body.now))))
    (copied_to _ _ _ (c.copy_from_slice-2.ensures.after ∙ c.to_be_bytes-2.ensures ∙ big_endian_is 4 _) (omega (arith, length-big_endian 4 c.args.count)))
    (copied_to _ _ _ (c.copy_from_slice-3.ensures.after ∙ c.to_be_bytes-3.ensures ∙ big_endian_is 4 _) (omega (arith, length-big_endian 4 (c.args.total + length c.args.body.now + 3))))
