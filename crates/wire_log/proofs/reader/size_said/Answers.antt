-- `wire_log::reader::size_said` meets its contract: with nothing in the high byte the low one is the number. Assumes nothing.
use Rattle.std.proofs.Common.{◌-◌, length, sym, ap, ◌∙◌, arith}
use Rattle.refusal.specs.Refusals.{answered}
use Rattle.wire_log.proofs.Numbers.{number_there, value_there, low_byte}
use Rattle.wire_log.proofs.reader.size_said.Goals as goal

pub returns-then-records-n-eq0 : goal.returns-then-records-n-eq0
returns-then-records-n-eq0 c =
    c.from.ensures ∙ low_byte c.args.records.now (length c.args.records.now - 2) (length c.args.records.now - 1) (omega arith) (omega arith) c.if-records-n-eq0.true

pub unwrap-size-requires : goal.unwrap-size-requires
unwrap-size-requires c = value_there _ _ _ (omega arith) _ c.field_at.ensures

pub returns : goal.returns
returns c = c.from-2.ensures ∙ number_there _ _ _ (omega arith) (sym (ap answered c.unwrap-size.ensures) ∙ c.field_at.ensures)
