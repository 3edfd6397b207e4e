-- A bus and a kind by their numbers. Assumes nothing.
use mathlib.Core.Path.{◌≡◌, refl, sym, ◌∙◌, ap}
use Prim.Native.Nat.{ℕ}
use mathlib.Core.Bool.{Bool, true, false, cond, ◌&&◌}
use Rattle.std.specs.Prelude.{Result, Ok, Err}
use Rattle.refusal.specs.declared.Refusal.{Refusal}
use Rattle.refusal.specs.declared.Refusal.TheVariants.{OutOfRange}
use Rattle.board.specs.declared.entries.Bus.{Bus}
use Rattle.board.specs.declared.entries.Kind.{Kind}
use Rattle.board.specs.Entries.{is_kind}
use Rattle.board.specs.Numbers.{is_bus, bus_of, kind_of, bus_by, kind_by}

-- what is made of a bus and a kind, or of a bus, where the numbers stand for them
module _ {A : Type 0} (z : A) where
  abbrev with_both : (Bus → Kind → A) → Result Bus Refusal → Result Kind Refusal → A
  with_both f (Ok bus) (Ok kind) = f bus kind
  with_both f (Ok bus) (Err why) = z
  with_both f (Err why) kind = z

  abbrev with_bus : (Bus → A) → Result Bus Refusal → A
  with_bus f (Ok bus) = f bus
  with_bus f (Err why) = z

  pub by_both : (f : Bus → Kind → A) (n m : ℕ) {r x : Result Bus Refusal} {s y : Result Kind Refusal} → r ≡ bus_by n → s ≡ kind_by m → r ≡ x → s ≡ y
      → with_both f x y ≡ cond (is_bus n && is_kind m) (f (bus_of n) (kind_of m)) z
  unfolding bus_by kind_by
  by_both f n m u v g h = (λ j. with_both f ((sym g ∙ u) j) ((sym h ∙ v) j)) ∙ go (is_bus n) (is_kind m)
    where
      go : (a b : Bool) → with_both f (cond a (Ok (bus_of n)) (Err OutOfRange)) (cond b (Ok (kind_of m)) (Err OutOfRange)) ≡ cond (a && b) (f (bus_of n) (kind_of m)) z
      go true true = refl
      go true false = refl
      go false b = refl

  pub by_bus : (f : Bus → A) (n : ℕ) {r x : Result Bus Refusal} → r ≡ bus_by n → r ≡ x → with_bus f x ≡ cond (is_bus n) (f (bus_of n)) z
  unfolding bus_by
  by_bus f n u g = ap (with_bus f) (sym g ∙ u) ∙ go (is_bus n)
    where
      go : (a : Bool) → with_bus f (cond a (Ok (bus_of n)) (Err OutOfRange)) ≡ cond a (f (bus_of n)) z
      go true = refl
      go false = refl
