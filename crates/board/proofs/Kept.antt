-- What an order leaves of the places: as many, on a refusal the same, and a free place is taken only where no lower one is free. Assumes nothing.
use mathlib.Core.Path.{◌≡◌, refl, sym, ◌∙◌, ap}
use Prim.Native.Nat.{ℕ, ◌<◌}
use native.Mathlib.Omega.{arith}
use mathlib.Core.Bool.{Bool, true, false, not, cond}
use mathlib.Core.List.{List, [], ◌∷◌, map}
use lib.Dec.{eqb}
use lib.ListN.{length, set, get_or, get_or-map}
use lib.Seq.{get_or-set_other}
use borrow.Author.Tests.{eqb-true, eqb-false}
use Rattle.refusal.specs.Refusals.{number, served, refused, in_order}
use Rattle.board.specs.declared.entries.Kind.{Kind}
use Rattle.board.specs.declared.entries.Node.{Node}
use Rattle.board.specs.declared.entries.Entry.{Entry}
use Rattle.board.specs.declared.orders.Order.{Order}
use Rattle.board.specs.declared.orders.Order.TheVariants.{Open, Close, Restart, Poll, Unnamed, Nothing}
use Rattle.board.specs.Entries.{entry_of, free, is_free, is_of, on_node, place_of, holds, valid}
use Rattle.board.specs.Orders.{Outcome, order_in_range, opened, freed, tick, done, or_unchanged, change}
use Rattle.board.proofs.Tests.{true_not_false, free-not}
use Rattle.board.proofs.Search.{at_place, before_place}

-- what holds of the table that is left by an order carried out, and of the same table, holds of what every order leaves
left_by_lem : (P : List Entry → Type 0) (t : List Entry) (o : Order) → P (done o t).1 → P t → P (change t o).1
unfolding change
left_by_lem P t o d s = go (not (eqb (length t) 32)) (not (valid t)) (not (order_in_range o))
  where
    go : (a b c : Bool) → P (or_unchanged (in_order ((a, number 1) ∷ (b, number 2) ∷ (c, number 12) ∷ []) (done o t)) t).1
    go true b c = s
    go false true c = s
    go false false true = s
    go false false false = d

-- ---- the lowest place first
-- a place that was free and is held in another table has no free place before it
abbrev Lowest : List Entry → List Entry → Type 0
Lowest t after = (place lower : ℕ) → is_free (get_or t place free) ≡ true → is_free (get_or after place free) ≡ false → lower < place → is_free (get_or t lower free) ≡ false

unchanged_lowest : (t : List Entry) → Lowest t t
unchanged_lowest t place lower f h l = absurd (true_not_false (sym f ∙ h))

-- where a free place stays free when each is changed
mapped_lowest : (g : Entry → Entry) → g free ≡ free → ((e : Entry) → is_free e ≡ true → is_free (g e) ≡ true) → (t : List Entry) → Lowest t (map g t)
mapped_lowest g z k t place lower f h l =
    absurd (true_not_false (sym (k (get_or t place free) f) ∙ ap is_free (sym (get_or-map g t place free) ∙ ap (get_or (map g t) place) z) ∙ h))

-- where an entry is stored at a place that no free one comes before, or that is held
stored_lowest : (t : List Entry) (at_place : ℕ) (e : Entry) → ((lower : ℕ) → is_free (get_or t at_place free) ≡ true → lower < at_place → is_free (get_or t lower free) ≡ false) → Lowest t (set t at_place e)
stored_lowest t p e k place lower f h l = go (eqb place p) refl
  where
    go : (b : Bool) → eqb place p ≡ b → is_free (get_or t lower free) ≡ false
    go true u = let s : place ≡ p = eqb-true place p u in k lower (ap (λ (m : ℕ). is_free (get_or t m free)) (sym s) ∙ f) (omega (arith, s, l))
    go false u = absurd (true_not_false (sym f ∙ ap is_free (sym (get_or-set_other t p place e free (eqb-false place p u))) ∙ h))

opened_lowest : (node : Node) (kind : Kind) (lease : ℕ) (t : List Entry) → Lowest t (opened node kind lease t).1
unfolding opened
opened_lowest node kind lease t = go (holds (is_of node kind) t) refl (holds is_free t)
  where
    go : (b : Bool) → holds (is_of node kind) t ≡ b → (c : Bool) → Lowest t (cond {A = Outcome} b (served tt, set t (place_of (is_of node kind) t) (entry_of node kind lease)) (cond c (served tt, set t (place_of is_free t) (entry_of node kind lease)) (refused (number 19), t))).1
    go true h c = stored_lowest t _ _ (λ lower f l. absurd (true_not_false (sym (at_place (is_of node kind) t free h) ∙ free-not node kind (get_or t (place_of (is_of node kind) t) free) f)))
    go false h true = stored_lowest t _ _ (λ lower f l. before_place is_free t lower free l)
    go false h false = unchanged_lowest t

freed-free : (f : Entry → Bool) (e : Entry) → is_free e ≡ true → is_free (freed f e) ≡ true
unfolding freed
freed-free f e h = go (f e)
  where
    go : (b : Bool) → is_free (cond b free e) ≡ true
    go true = refl
    go false = h

freed-same : (f : Entry → Bool) → freed f free ≡ free
unfolding freed
freed-same f = go (f free)
  where
    go : (b : Bool) → cond b free free ≡ free
    go true = refl
    go false = refl

done_lowest : (o : Order) (t : List Entry) → Lowest t (done o t).1
done_lowest (Open node kind lease) t = opened_lowest node kind lease t
done_lowest (Close node kind) t = mapped_lowest (freed (is_of node kind)) (freed-same (is_of node kind)) (freed-free (is_of node kind)) t
done_lowest (Restart node) t = mapped_lowest (freed (on_node node)) (freed-same (on_node node)) (freed-free (on_node node)) t
done_lowest Poll t = mapped_lowest tick refl (λ e h. h) t
done_lowest Unnamed t = unchanged_lowest t
done_lowest Nothing t = unchanged_lowest t

pub change_lowest : (t : List Entry) (o : Order) → Lowest t (change t o).1
change_lowest t o = left_by_lem (Lowest t) t o (done_lowest o t) (unchanged_lowest t)
