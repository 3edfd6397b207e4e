-- A valid table stays valid: changed place by place, with a lease renewed, and with a new entry in a free place. Assumes nothing.
use mathlib.Core.Path.{◌≡◌, refl, sym, ◌∙◌, ap}
use Prim.Native.Nat.{ℕ, zero, suc, ◌-◌}
use native.Mathlib.Omega.{arith}
use mathlib.Core.Bool.{Bool, true, false, cond, not, ◌&&◌, ◌||◌}
use mathlib.Core.List.{List, [], ◌∷◌, map}
use lib.Dec.{eqb}
use lib.ListN.{set}
use borrow.Author.Tests.{eq-eqb, eqb-true, eqb-false, not-true}
use Rattle.board.specs.declared.entries.Entry.{Entry}
use Rattle.board.specs.Entries.{free, is_free, has, is_kind, is_node, is_clear, entry_in_range, place_of, holds, again, valid}
use Rattle.board.specs.Orders.{freed, tick}
use Rattle.board.proofs.Tests.{true_not_false, and_left, and_right, both, or_left, or_right, not-both, has_fields, has_those}

-- ---- some place
module _ (f : Entry → Bool) where
  pub holds-mapped : (g : Entry → Bool) (h : Entry → Entry) → ((x : Entry) → g (h x) ≡ true → f x ≡ true) → (t : List Entry)
      → holds g (map h t) ≡ true → holds f t ≡ true
  unfolding holds
  holds-mapped g h k [] e = e
  holds-mapped g h k (x ∷ t) e = go (g (h x)) refl (f x) refl e (holds-mapped g h k t)
    where
      go : (b : Bool) → g (h x) ≡ b → (c : Bool) → f x ≡ c → (b || holds g (map h t)) ≡ true → (holds g (map h t) ≡ true → holds f t ≡ true) → (c || holds f t) ≡ true
      go b u true v d r = refl
      go true u false v d r = absurd (true_not_false (sym (k x u) ∙ v))
      go false u false v d r = r d

  pub holds-set : (t : List Entry) (i : ℕ) (e : Entry) → f e ≡ false → holds f (set t i e) ≡ true → holds f t ≡ true
  unfolding holds
  holds-set [] i e n h = h
  holds-set (x ∷ t) zero e n h = go (f x) (rw n at h)
    where
      go : (b : Bool) → holds f t ≡ true → (b || holds f t) ≡ true
      go true d = refl
      go false d = d
  holds-set (x ∷ t) (suc i) e n h = go (f x) h (holds-set t i e n)
    where
      go : (b : Bool) → (b || holds f (set t i e)) ≡ true → (holds f (set t i e) ≡ true → holds f t ≡ true) → (b || holds f t) ≡ true
      go true d r = refl
      go false d r = r d

-- ---- an entry that stands again
module _ (e : Entry) (t : List Entry) where
  pub again-held : again e t ≡ true → is_free e ≡ false
  unfolding again
  again-held h = not-true (is_free e) (and_left (not (is_free e)) _ h)

  pub again-holds : again e t ≡ true → holds (has e.kind e.bus e.address) t ≡ true
  unfolding again
  again-holds h = and_right (not (is_free e)) _ h

  pub stands_again : is_free e ≡ false → holds (has e.kind e.bus e.address) t ≡ true → again e t ≡ true
  unfolding again
  stands_again u h = rw (u, h)

  pub not-again : holds (has e.kind e.bus e.address) t ≡ false → again e t ≡ false
  not-again h = not-both (again e t) (λ g. true_not_false (sym (again-holds g) ∙ h))

-- it is by its numbers alone
again_alike : (e x : Entry) (t : List Entry) → e.kind ≡ x.kind → e.bus ≡ x.bus → e.address ≡ x.address → again e t ≡ again x t
unfolding again
again_alike e x t k b a i = not (eqb (k i) 0) && holds (has (k i) (b i) (a i)) t

again-set : (x e : Entry) (t : List Entry) (i : ℕ) → again x t ≡ false → has x.kind x.bus x.address e ≡ false → again x (set t i e) ≡ false
again-set x e t i h n =
    not-both (again x (set t i e)) (λ g. true_not_false (sym (stands_again x t (again-held x (set t i e) g) (holds-set _ t i e n (again-holds x (set t i e) g))) ∙ h))

-- ---- a valid table taken apart, and put together
module _ (e : Entry) (t : List Entry) where
  module _ (v : valid (e ∷ t) ≡ true) where
    pub first_in_range : entry_in_range e ≡ true
    unfolding valid
    first_in_range = and_left (entry_in_range e) _ v

    pub first_once : again e t ≡ false
    unfolding valid
    first_once = not-true (again e t) (and_left (not (again e t)) _ (and_right (entry_in_range e) _ v))

    pub rest_valid : valid t ≡ true
    unfolding valid
    rest_valid = and_right (not (again e t)) _ (and_right (entry_in_range e) _ v)

  pub valid-first : entry_in_range e ≡ true → again e t ≡ false → valid t ≡ true → valid (e ∷ t) ≡ true
  unfolding valid
  valid-first r a v = rw (r, a, v)

-- ---- changed place by place
module _ (h : Entry → Entry) (in_range_lem : (e : Entry) → entry_in_range e ≡ true → entry_in_range (h e) ≡ true) (held : (e : Entry) → is_free (h e) ≡ false → is_free e ≡ false) (alike : (e x : Entry) → is_free (h e) ≡ false → has (h e).kind (h e).bus (h e).address (h x) ≡ true → has e.kind e.bus e.address x ≡ true) where
  again-mapped : (e : Entry) (t : List Entry) → again e t ≡ false → again (h e) (map h t) ≡ false
  again-mapped e t n =
      not-both (again (h e) (map h t)) (λ g.
      let u : is_free (h e) ≡ false = again-held (h e) (map h t) g in
      true_not_false (sym (stands_again e t (held e u) (holds-mapped _ _ h (λ x. alike e x u) t (again-holds (h e) (map h t) g))) ∙ n))

  pub valid-mapped : (t : List Entry) → valid t ≡ true → valid (map h t) ≡ true
  valid-mapped [] v = v
  valid-mapped (e ∷ t) v =
      valid-first (h e) (map h t) (in_range_lem e (first_in_range e t v)) (again-mapped e t (first_once e t v)) (valid-mapped t (rest_valid e t v))

-- by a poll
tick_in_range : (e : Entry) → entry_in_range e ≡ true → entry_in_range (tick e) ≡ true
unfolding entry_in_range is_clear
tick_in_range e h = go (is_free e) (is_kind e.kind && is_node e.bus e.address) h
  where
    go : (b c : Bool) → cond b (eqb e.bus 0 && (eqb e.address 0 && eqb e.left 0)) c ≡ true → cond b (eqb e.bus 0 && (eqb e.address 0 && eqb (e.left - 1) 0)) c ≡ true
    go true c g =
        let r : (eqb e.address 0 && eqb e.left 0) ≡ true = and_right (eqb e.bus 0) _ g in
        let z : e.left ≡ 0 = eqb-true e.left 0 (and_right (eqb e.address 0) _ r) in
        let y : e.left - 1 ≡ 0 = omega (arith, z) in
        both (eqb e.bus 0) _ (and_left (eqb e.bus 0) _ g) (both (eqb e.address 0) _ (and_left (eqb e.address 0) _ r) (eq-eqb _ _ y))
    go false c g = g

pub valid-polled : (t : List Entry) → valid t ≡ true → valid (map tick t) ≡ true
valid-polled = valid-mapped tick tick_in_range (λ e u. u) (λ e x u h. let r = has_fields _ _ _ (tick x) h in has_those _ _ _ x r.0 r.1 r.2)

-- by freeing
module _ (g : Entry → Bool) where
  freed_in_range : (e : Entry) → entry_in_range e ≡ true → entry_in_range (freed g e) ≡ true
  unfolding freed entry_in_range is_clear
  freed_in_range e h = go (g e)
    where
      go : (b : Bool) → entry_in_range (cond b free e) ≡ true
      go true = refl
      go false = h

  freed-held : (e : Entry) → is_free (freed g e) ≡ false → freed g e ≡ e
  unfolding freed
  freed-held e u = go (g e) u
    where
      go : (b : Bool) → is_free (cond b free e) ≡ false → cond b free e ≡ e
      go true v = absurd (true_not_false v)
      go false v = refl

  freed_alike : (e x : Entry) → is_free e ≡ false → has e.kind e.bus e.address (freed g x) ≡ true → has e.kind e.bus e.address x ≡ true
  unfolding freed
  freed_alike e x u h = go (g x) h
    where
      go : (b : Bool) → has e.kind e.bus e.address (cond b free x) ≡ true → has e.kind e.bus e.address x ≡ true
      go true v = absurd (eqb-false e.kind 0 u (sym (has_fields _ _ _ free v).0))
      go false v = v

  pub valid-freed : (t : List Entry) → valid t ≡ true → valid (map (freed g) t) ≡ true
  valid-freed = valid-mapped (freed g) freed_in_range (λ e u. ap is_free (sym (freed-held e u)) ∙ u)
      (λ e x u h. let s : freed g e ≡ e = freed-held e u in freed_alike e x (ap is_free (sym s) ∙ u) (ap (λ (y : Entry). has y.kind y.bus y.address (freed g x)) (sym s) ∙ h))

-- ---- an entry is stored
module _ (e : Entry) (in_range_lem : entry_in_range e ≡ true) where
  abbrev its : Entry → Bool
  its = has e.kind e.bus e.address

  apart : (x : Entry) → its x ≡ false → has x.kind x.bus x.address e ≡ false
  apart x n = not-both (has x.kind x.bus x.address e) (λ h. let r = has_fields _ _ _ e h in true_not_false (sym (has_those _ _ _ x (sym r.0) (sym r.1) (sym r.2)) ∙ n))

  -- in the place of that node and kind
  pub valid_renewed : (t : List Entry) → holds its t ≡ true → valid t ≡ true → valid (set t (place_of its t) e) ≡ true
  unfolding place_of holds
  valid_renewed [] h v = v
  valid_renewed (x ∷ t) h v = go (its x) refl h (valid_renewed t)
    where
      go : (b : Bool) → its x ≡ b → (b || holds its t) ≡ true → (holds its t ≡ true → valid t ≡ true → valid (set t (place_of its t) e) ≡ true)
          → valid (set (x ∷ t) (cond {A = ℕ} b 0 (suc (place_of its t))) e) ≡ true
      go true u d r =
          let s = has_fields _ _ _ x u in
          valid-first e t in_range_lem (again_alike e x t (sym s.0) (sym s.1) (sym s.2) ∙ first_once x t v) (rest_valid x t v)
      go false u d r = valid-first x _ (first_in_range x t v) (again-set x e t _ (first_once x t v) (apart x u)) (r d (rest_valid x t v))

  -- in a free place, where that node and kind has none
  pub valid_placed : (t : List Entry) → holds its t ≡ false → holds is_free t ≡ true → valid t ≡ true → valid (set t (place_of is_free t) e) ≡ true
  unfolding place_of holds
  valid_placed [] n h v = v
  valid_placed (x ∷ t) n h v = go (is_free x) h (valid_placed t (or_right (its x) _ n))
    where
      go : (b : Bool) → (b || holds is_free t) ≡ true → (holds is_free t ≡ true → valid t ≡ true → valid (set t (place_of is_free t) e) ≡ true)
          → valid (set (x ∷ t) (cond {A = ℕ} b 0 (suc (place_of is_free t))) e) ≡ true
      go true d r = valid-first e t in_range_lem (not-again e t (or_right (its x) _ n)) (rest_valid x t v)
      go false d r = valid-first x _ (first_in_range x t v) (again-set x e t _ (first_once x t v) (apart x (or_left (its x) _ n))) (r d (rest_valid x t v))
