-- What stands in a table is what the orders carried out say, order by order. Assumes nothing.
use mathlib.Core.Path.{◌≡◌, refl, ◌∙◌, ap}
use Prim.Native.Nat.{ℕ}
use mathlib.Core.Bool.{Bool, true, false, cond}
use mathlib.Core.List.{List, ◌∷◌, map}
use mathlib.Core.Option.{Option, none, some}
use lib.ListN.{get_or, set}
use Rattle.board.specs.declared.entries.Kind.{Kind}
use Rattle.board.specs.declared.entries.Node.{Node}
use Rattle.board.specs.declared.entries.Entry.{Entry}
use Rattle.board.specs.declared.orders.Order.{Order}
use Rattle.board.specs.declared.orders.Order.TheVariants.{Open, Close, Restart, Poll, Nothing}
use Rattle.board.specs.Entries.{entry_of, free, is_free, has, is_of, on_node, place_of, holds, found}
use Rattle.board.specs.Orders.{freed, tick}
use Rattle.board.specs.Series.{same_node, same, polled, left, entry_if, standing_after}
use Rattle.board.proofs.Tests.{free-not, free_none, of_other, on-other, of_entry, self_entry, same_sym, same-entry, same_test}
use Rattle.board.proofs.Search.{mapped, at_place, found_elsewhere, found_renewed, found_placed, found-freed, found-kept, found-mapped}

-- the table holds what the orders leave
abbrev pub Tells : List Entry → List Order → Type 0
Tells t carried = (node : Node) (kind : Kind) → found (is_of node kind) t ≡ standing_after carried node kind

module _ (t : List Entry) (carried : List Order) (tells : Tells t carried) where
  -- an opened entry in its place
  module _ (other : Node) (k : Kind) (lease : ℕ) where
    abbrev new : Entry
    new = entry_of other k lease

    stored : (i : ℕ) → found (is_of other k) (set t i new) ≡ some new → ((node : Node) (kind : Kind) → same other k node kind ≡ false → is_of node kind (get_or t i free) ≡ false)
        → Tells (set t i new) (Open other k lease ∷ carried)
    unfolding left
    stored i its others node kind = go (same other k node kind) refl
      where
        go : (b : Bool) → same other k node kind ≡ b → found (is_of node kind) (set t i new) ≡ entry_if node kind (cond b (some lease) (left carried node kind))
        go true s = ap (λ (f : Entry → Bool). found f (set t i new)) (same_test other k node kind s) ∙ its ∙ ap some (same-entry other k node kind s lease)
        go false s = found_elsewhere (is_of node kind) t i new free (of_entry node kind other k lease ∙ s) (others node kind s) ∙ tells node kind

    pub tells_renewed : holds (is_of other k) t ≡ true → Tells (set t (place_of (is_of other k) t) new) (Open other k lease ∷ carried)
    tells_renewed h =
        stored (place_of (is_of other k) t) (found_renewed (is_of other k) t new (self_entry other k lease) h)
        (λ node kind s. of_other other k (get_or t (place_of (is_of other k) t) free) (at_place (is_of other k) t free h) node kind ∙ same_sym node kind other k ∙ s)

    pub tells_placed : holds (is_of other k) t ≡ false → holds is_free t ≡ true → Tells (set t (place_of is_free t) new) (Open other k lease ∷ carried)
    tells_placed n h =
        stored (place_of is_free t) (found_placed (is_of other k) is_free t new (self_entry other k lease) n h)
        (λ node kind s. free-not node kind (get_or t (place_of is_free t) free) (at_place is_free t free h))

  pub tells_closed : (other : Node) (k : Kind) → Tells (map (freed (is_of other k)) t) (Close other k ∷ carried)
  unfolding left
  tells_closed other k node kind = go (same other k node kind) refl
    where
      go : (b : Bool) → same other k node kind ≡ b → found (is_of node kind) (map (freed (is_of other k)) t) ≡ entry_if node kind (cond b none (left carried node kind))
      go true s = found-freed (is_of node kind) (free_none node kind) (is_of other k) (λ e h. of_other node kind e h other k ∙ s) t
      go false s = found-kept (is_of node kind) (free_none node kind) (is_of other k) (λ e h. of_other node kind e h other k ∙ s) t ∙ tells node kind

  pub tells_restarted : (other : Node) → Tells (map (freed (on_node other)) t) (Restart other ∷ carried)
  unfolding left
  tells_restarted other node kind = go (same_node other node) refl
    where
      go : (b : Bool) → same_node other node ≡ b → found (is_of node kind) (map (freed (on_node other)) t) ≡ entry_if node kind (cond b none (left carried node kind))
      go true s = found-freed (is_of node kind) (free_none node kind) (on_node other) (λ e h. on-other node kind e h other ∙ s) t
      go false s = found-kept (is_of node kind) (free_none node kind) (on_node other) (λ e h. on-other node kind e h other ∙ s) t ∙ tells node kind

  pub tells_polled : Tells (map tick t) (Poll ∷ carried)
  unfolding left has
  tells_polled node kind = found-mapped (is_of node kind) tick (λ e. refl) t ∙ ap (mapped tick) (tells node kind) ∙ go (left carried node kind)
    where
      go : (o : Option ℕ) → mapped tick (entry_if node kind o) ≡ entry_if node kind (polled o)
      go none = refl
      go (some n) = refl

  pub tells_nothing : Tells t (Nothing ∷ carried)
  unfolding left
  tells_nothing = tells
