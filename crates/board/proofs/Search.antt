-- The first place, the first entry and the number of entries of which a test holds, in a table that is stored to or changed place by place.
-- Assumes nothing.
use mathlib.Core.Path.{◌≡◌, refl, sym, ◌∙◌, ap}
use Prim.Native.Nat.{ℕ, zero, suc, ◌<◌}
use native.Mathlib.Omega.{arith}
use mathlib.Core.Bool.{Bool, true, false, cond, ◌||◌}
use mathlib.Core.List.{List, [], ◌∷◌, map}
use mathlib.Core.Option.{Option, none, some}
use lib.ListN.{get_or, set}
use Rattle.board.specs.declared.entries.Entry.{Entry}
use Rattle.board.specs.Entries.{free, place_of, holds, found}
use Rattle.board.specs.Orders.{freed}
use Rattle.board.proofs.Tests.{true_not_false, or_left, or_right}

not_lt_zero : (i : ℕ) → i < 0 → ⊥
not_lt_zero i l = omega (arith, l)

abbrev pub is_some : Option Entry → Bool
is_some none = false
is_some (some e) = true

abbrev pub mapped : (Entry → Entry) → Option Entry → Option Entry
mapped h none = none
mapped h (some e) = some (h e)

module _ (f : Entry → Bool) where
  pub holds-found : (t : List Entry) → holds f t ≡ is_some (found f t)
  unfolding holds found
  holds-found [] = refl
  holds-found (e ∷ t) = go (f e) (holds-found t)
    where
      go : (b : Bool) → holds f t ≡ is_some (found f t) → (b || holds f t) ≡ is_some (cond b (some e) (found f t))
      go true h = refl
      go false h = h

  pub found_is : (t : List Entry) (x : Entry) → found f t ≡ some x → f x ≡ true
  unfolding found
  found_is [] x h = absurd (true_not_false (sym (ap is_some h)))
  found_is (e ∷ t) x h = go (f e) refl h (found_is t x)
    where
      go : (b : Bool) → f e ≡ b → cond b (some e) (found f t) ≡ some x → (found f t ≡ some x → f x ≡ true) → f x ≡ true
      go true u g r = let same : e ≡ x = cc in ap f (sym same) ∙ u
      go false u g r = r g

  -- the first place
  pub at_place : (t : List Entry) (d : Entry) → holds f t ≡ true → f (get_or t (place_of f t) d) ≡ true
  unfolding holds place_of
  at_place [] d h = absurd (true_not_false (sym h))
  at_place (e ∷ t) d h = go (f e) refl h (at_place t d)
    where
      go : (b : Bool) → f e ≡ b → (b || holds f t) ≡ true → (holds f t ≡ true → f (get_or t (place_of f t) d) ≡ true)
          → f (get_or (e ∷ t) (cond {A = ℕ} b 0 (suc (place_of f t))) d) ≡ true
      go true u g r = u
      go false u g r = r g

  pub before_place : (t : List Entry) (i : ℕ) (d : Entry) → i < place_of f t → f (get_or t i d) ≡ false
  unfolding place_of
  before_place [] i d l = absurd (not_lt_zero i l)
  before_place (e ∷ t) i d l = go (f e) refl l i refl (before_place t)
    where
      go : (b : Bool) → f e ≡ b → i < cond {A = ℕ} b 0 (suc (place_of f t)) → (j : ℕ) → i ≡ j → ((k : ℕ) (c : Entry) → k < place_of f t → f (get_or t k c) ≡ false) → f (get_or (e ∷ t) i d) ≡ false
      go true u h j s r = absurd (not_lt_zero i h)
      go false u h zero s r = ap (λ (k : ℕ). f (get_or (e ∷ t) k d)) s ∙ u
      go false u h (suc j) s r = ap (λ (k : ℕ). f (get_or (e ∷ t) k d)) s ∙ r j d (omega (arith, h, s))

  -- a store elsewhere
  pub found_elsewhere : (t : List Entry) (i : ℕ) (e d : Entry) → f e ≡ false → f (get_or t i d) ≡ false → found f (set t i e) ≡ found f t
  unfolding found
  found_elsewhere [] i e d h g = refl
  found_elsewhere (x ∷ t) zero e d h g = rw (h, g)
  found_elsewhere (x ∷ t) (suc i) e d h g = ap (λ (o : Option Entry). cond (f x) (some x) o) (found_elsewhere t i e d h g)

  -- a store at the first place, and at the first place of another test where this one holds of none
  pub found_renewed : (t : List Entry) (e : Entry) → f e ≡ true → holds f t ≡ true → found f (set t (place_of f t) e) ≡ some e
  unfolding found holds place_of
  found_renewed [] e h g = absurd (true_not_false (sym g))
  found_renewed (x ∷ t) e h g = go (f x) refl g (found_renewed t e h)
    where
      go : (b : Bool) → f x ≡ b → (b || holds f t) ≡ true → (holds f t ≡ true → found f (set t (place_of f t) e) ≡ some e)
          → found f (set (x ∷ t) (cond {A = ℕ} b 0 (suc (place_of f t))) e) ≡ some e
      go true u v r = rw h
      go false u v r = rw u (r v)

  pub found_placed : (g : Entry → Bool) (t : List Entry) (e : Entry) → f e ≡ true → holds f t ≡ false → holds g t ≡ true → found f (set t (place_of g t) e) ≡ some e
  unfolding found holds place_of
  found_placed g [] e h n p = absurd (true_not_false (sym p))
  found_placed g (x ∷ t) e h n p = go (g x) p (found_placed g t e h (or_right (f x) _ n))
    where
      go : (b : Bool) → (b || holds g t) ≡ true → (holds g t ≡ true → found f (set t (place_of g t) e) ≡ some e)
          → found f (set (x ∷ t) (cond {A = ℕ} b 0 (suc (place_of g t))) e) ≡ some e
      go true v r = rw h
      go false v r = rw (or_left (f x) _ n) (r v)

  -- places freed
  module _ (none_free : f free ≡ false) (g : Entry → Bool) where
    pub found-freed : ((e : Entry) → f e ≡ true → g e ≡ true) → (t : List Entry) → found f (map (freed g) t) ≡ none
    unfolding found freed
    found-freed h [] = refl
    found-freed h (e ∷ t) = go (g e) (f e) refl refl (found-freed h t)
      where
        go : (b c : Bool) → g e ≡ b → f e ≡ c → found f (map (freed g) t) ≡ none → cond (f (cond b free e)) (some (cond b free e)) (found f (map (freed g) t)) ≡ none
        go true c u v r = rw none_free r
        go false true u v r = absurd (true_not_false (sym (h e v) ∙ u))
        go false false u v r = rw v r

    pub found-kept : ((e : Entry) → f e ≡ true → g e ≡ false) → (t : List Entry) → found f (map (freed g) t) ≡ found f t
    unfolding found freed
    found-kept h [] = refl
    found-kept h (e ∷ t) = go (g e) (f e) refl refl (found-kept h t)
      where
        go : (b c : Bool) → g e ≡ b → f e ≡ c → found f (map (freed g) t) ≡ found f t
            → cond (f (cond b free e)) (some (cond b free e)) (found f (map (freed g) t)) ≡ cond c (some e) (found f t)
        go true true u v r = absurd (true_not_false (sym u ∙ h e v))
        go true false u v r = rw none_free r
        go false c u v r = rw v (ap (λ (o : Option Entry). cond c (some e) o) r)

  -- every place changed by what the test does not look at
  pub found-mapped : (h : Entry → Entry) → ((e : Entry) → f (h e) ≡ f e) → (t : List Entry) → found f (map h t) ≡ mapped h (found f t)
  unfolding found
  found-mapped h s [] = refl
  found-mapped h s (e ∷ t) = rw (s e) (go (f e) (found-mapped h s t))
    where
      go : (b : Bool) → found f (map h t) ≡ mapped h (found f t) → cond b (some (h e)) (found f (map h t)) ≡ mapped h (cond b (some e) (found f t))
      go true r = refl
      go false r = r
