-- `lines::put_frame` meets its contract: four writes, one after the other. Assumes nothing.
use native.Mathlib.Omega.{arith}
use Prim.Native.Nat.{ℕ}
use mathlib.Core.Path.{◌≡◌, refl}
use mathlib.Core.List.{◌++◌}
use Rattle.refusal.proofs.Room.{write_then}
use Rattle.lines.specs.Text.{frame_word, field, frame_line}
use Rattle.lines.proofs.Lines.{laid-as}
use Rattle.lines.proofs.Decimal.{field_byte}
use Rattle.lines.proofs.put_frame.Goals as goal

same : {a b l address command last : ℕ} → a ≡ address → b ≡ command → l ≡ last
    → ((frame_word ++ field a 32) ++ field b 32) ++ field l 10 ≡ ((frame_word ++ field address 32) ++ field command 32) ++ field last 10
same e f g = rw (e, f, g) refl

pub put_field-second-requires : goal.put_field-second-requires
put_field-second-requires c =
    omega (arith, field_byte c.from.result 32 (omega arith))

pub put_field-third-requires : goal.put_field-third-requires
put_field-third-requires c =
    omega (arith, field_byte c.from.result 32 (omega arith), field_byte c.from-2.result 32 (omega arith))

pub put_field-requires : goal.put_field-requires
put_field-requires c =
    omega (
      arith,
      field_byte c.from.result 32 (omega arith),
      field_byte c.from-2.result 32 (omega arith),
      field_byte c.from-3.result 10 (omega arith),
    )

pub returns : goal.returns
unfolding frame_line
returns c =
    let out = c.args.out.now in
    let at = c.args.place in
    let a = field c.from.result 32 in
    let b = field c.from-2.result 32 in
    let w₁ = write_then out _ _ frame_word a at _ _ (omega arith) c.put-first.ensures c.put_field-second.ensures in
    let w₂ = write_then out _ _ (frame_word ++ a) b at _ _ (omega arith) w₁ c.put_field-third.ensures in
    let w₃ = write_then out _ _ ((frame_word ++ a) ++ b) (field c.from-3.result 10) at _ _ (omega arith) w₂ c.put_field.ensures in
    laid-as _ _ _ _ (same c.from.ensures c.from-2.ensures c.from-3.ensures) w₃
