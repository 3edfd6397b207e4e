-- `lines::put_field` meets its contract. Assumes nothing.
use borrow.Author.Rules.{rules}
use Prim.Native.Nat.{ℕ, ◌+◌, ◌≤◌}
use native.Mathlib.Omega.{arith}
use mathlib.Core.Path.{◌≡◌, refl, ap, ◌∙◌}
use mathlib.Core.List.{List, [], ◌∷◌}
use lib.ListN.{length, set, length-set}
use Rattle.refusal.specs.Room.{overlay}
use Rattle.refusal.proofs.Room.{set-overlay, length-overlay, write_then}
use Rattle.lines.specs.Text.{decimal, field}
use Rattle.lines.proofs.Decimal.{field_size}
use Rattle.lines.proofs.put_field.Goals as goal

ended : (room mid : List ℕ) (place n after last : ℕ) → place + length (field n after) ≤ length room
    → (last ≡ place + length (decimal n)) × (mid ≡ overlay room place (decimal n))
    → (last + 1 ≡ place + length (field n after)) × (set mid last after ≡ overlay room place (field n after))
unfolding field
ended room mid place n after last fits e =
    let more = field_size n after in
    let kept : length mid ≡ length room = ap length e.1 ∙ length-overlay room place (decimal n) (omega arith) in
    write_then room mid (set mid last after) (decimal n) (after ∷ []) place last (last + 1) (omega arith) e
    (refl, set-overlay mid last after (omega (arith, e.0)))

pub put_decimal-last-requires : goal.put_decimal-last-requires
put_decimal-last-requires c = let a = c.args in omega (arith, field_size a.n a.after)

pub bounds-out-last : goal.bounds-out-last
bounds-out-last c = let a = c.args in omega (arith, field_size a.n a.after)

pub overflow_add-result : goal.overflow_add-result
overflow_add-result c = let a = c.args in omega (arith, field_size a.n a.after)

pub shape_of-out : goal.shape_of-out
shape_of-out c = simp length-set (search rules)

pub returns : goal.returns
returns c = ended c.args.out.now _ c.args.place c.args.n c.args.after _ c.requires c.put_decimal-last.ensures
