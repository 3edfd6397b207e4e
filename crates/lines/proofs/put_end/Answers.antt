-- `lines::put_end` meets its contract. Assumes nothing.
use native.Mathlib.Omega.{arith}
use Rattle.refusal.proofs.Room.{write_then}
use Rattle.lines.specs.Text.{end_word, field, end_line}
use Rattle.lines.proofs.Decimal.{field_u32}
use Rattle.lines.proofs.put_end.Goals as goal

pub put_field-requires : goal.put_field-requires
put_field-requires c =
    omega (arith, field_u32 c.args.n 10 (omega arith))

pub returns : goal.returns
unfolding end_line
returns c =
    let w = write_then c.args.out.now _ _ end_word (field c.args.n 10) 0 _ _ (omega arith) c.put-first.ensures c.put_field.ensures in
    (omega (arith, w.0), w.1)
