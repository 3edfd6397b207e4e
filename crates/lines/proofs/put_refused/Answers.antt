-- `lines::put_refused` meets its contract, with a place and without. Assumes nothing.
use Prim.Native.Nat.{ℕ, ◌+◌, ◌≤◌}
use native.Mathlib.Omega.{arith}
use mathlib.Core.Path.{◌≡◌, sym, ap, ◌∙◌}
use mathlib.Core.Bool.{true, false}
use mathlib.Core.List.{List, ◌++◌}
use lib.ListN.{length}
use Rattle.refusal.specs.Room.{overlay}
use Rattle.refusal.specs.Refusals.{number_of, is_placed, paper, place_of}
use Rattle.refusal.specs.declared.Refusal.{Refusal}
use Rattle.refusal.proofs.Room.{write_then}
use Rattle.lines.specs.Text.{refused_word, placed_field, field, refused_line}
use Rattle.lines.proofs.Decimal.{field_byte}
use Rattle.lines.proofs.put_refused.Goals as goal

module _ (why : Refusal) (n : ℕ) (is : n ≡ number_of why) where
  said : is_placed n ≡ false → refused_word ++ field n 10 ≡ refused_line (paper why)
  unfolding refused_line
  said h = rw (← is, h)

  said_at : is_placed n ≡ true → (place : ℕ) → place ≡ place_of why → refused_word ++ placed_field n place ≡ refused_line (paper why)
  unfolding refused_line
  said_at h place e = rw (← is, ← e, h)

-- the text behind the word, by what wrote it
module _ (out : List ℕ) (place : ℕ) {mid after tail text : List ℕ} {at n : ℕ} where
  behind : place ≤ length out → (at ≡ place + length refused_word) × (mid ≡ overlay out place refused_word)
      → (n ≡ at + length tail) × (after ≡ overlay mid at tail) → refused_word ++ tail ≡ text
      → (n ≡ place + length text) × (after ≡ overlay out place text)
  behind fits p q is =
      let w = write_then out mid after refused_word tail place at n fits p q in
      (omega (arith, w.0, ap length is), w.1 ∙ ap (overlay out place) is)

pub returns-then-is_placed : goal.returns-then-is_placed
returns-then-is_placed c =
    behind c.args.out.now c.args.place (omega arith) c.put-first.ensures c.put_placed.ensures
    (said_at c.args.why c.number-n.result c.number-n.ensures (sym c.is_placed.ensures ∙ c.if-is_placed.true) c.place.result
    c.place.ensures)

pub put_field-requires : goal.put_field-requires
put_field-requires c =
    omega (arith, field_byte c.from.result 10 (omega arith))

pub returns : goal.returns
returns c =
    behind c.args.out.now c.args.place (omega arith) c.put-first.ensures c.put_field.ensures
    (said c.args.why c.from.result (c.from.ensures ∙ c.number-n.ensures)
    (ap is_placed c.from.ensures ∙ sym c.is_placed.ensures ∙ c.if-is_placed.false))
