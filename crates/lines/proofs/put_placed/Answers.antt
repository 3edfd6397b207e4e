-- `lines::put_placed` meets its contract: three writes, one after the other. Assumes nothing.
use native.Mathlib.Omega.{arith}
use Prim.Native.Nat.{ℕ}
use mathlib.Core.Path.{◌≡◌, refl}
use mathlib.Core.List.{◌++◌}
use Rattle.refusal.proofs.Room.{write_then}
use Rattle.lines.specs.Text.{at_word, field, placed_field}
use Rattle.lines.proofs.Lines.{laid-as}
use Rattle.lines.proofs.Decimal.{field_byte, field_u16}
use Rattle.lines.proofs.put_placed.Goals as goal

same : {n m place at : ℕ} → n ≡ m → place ≡ at
    → (field n 32 ++ at_word) ++ field place 10 ≡ (field m 32 ++ at_word) ++ field at 10
same e f = rw (e, f) refl

pub put_field-first-requires : goal.put_field-first-requires
put_field-first-requires c =
    omega (arith, field_byte c.from.result 32 (omega arith))

pub put-second-requires : goal.put-second-requires
put-second-requires c =
    omega (arith, field_byte c.from.result 32 (omega arith))

pub put_field-requires : goal.put_field-requires
put_field-requires c =
    omega (arith, field_byte c.from.result 32 (omega arith), field_u16 c.from-2.result 10 (omega arith))

pub returns : goal.returns
unfolding placed_field
returns c =
    let out = c.args.out.now in
    let from = c.args.place in
    let a = field c.from.result 32 in
    let w₁ = write_then out _ _ a at_word from _ _ (omega arith) c.put_field-first.ensures c.put-second.ensures in
    let w₂ = write_then out _ _ (a ++ at_word) (field c.from-2.result 10) from _ _ (omega arith) w₁ c.put_field.ensures in
    laid-as _ _ _ _ (same c.from.ensures c.from-2.ensures) w₂
