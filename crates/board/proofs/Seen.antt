-- The kinds that were seen of each node tell whether an entry stands again; what the loop over the places comes to. Assumes nothing.
use mathlib.Core.Path.{◌≡◌, refl, sym, ◌∙◌, ap}
use Prim.Native.Nat.{ℕ, zero, suc, ◌+◌, ◌*◌, ◌<◌, ◌≤◌}
use native.Mathlib.Omega.{arith}
use mathlib.Core.Bool.{Bool, true, false, not, cond, ◌&&◌, ◌||◌}
use mathlib.Core.List.{List, [], ◌∷◌, ◌++◌, reverse}
use lib.ListN.{length, get_or, set, length-set, replicate, length-replicate, get_or-replicate}
use lib.Seq.{get_or-set_same, get_or-set_other}
use lib.Bits.{bit_and, bit_or}
use lib.Dec.{leb, eqb}
use borrow.Author.Tests.{eq-eqb, ne_eqb, eqb-true, eqb-false, leb-true}
use Rattle.std.proofs.lemmas.List.{reverse-append, reverse-reverse}
use Rattle.board.specs.declared.entries.Entry.{Entry}
use Rattle.board.specs.Entries.{is_free, has, is_kind, is_node, is_clear, entry_in_range, holds, again, valid}
use Rattle.board.specs.Private.{node_place, mark}
use Rattle.board.proofs.Tests.{true_not_false, and_left, and_right, not-both}
use Rattle.board.proofs.Validity.{first_in_range, first_once, rest_valid, stands_again}

-- ---- an entry in range
or_cases : (a b : Bool) → (a || b) ≡ true → (b ≡ true → ⊥) → a ≡ true
or_cases true b e h = refl
or_cases false b e h = absurd (h e)

node_bounds : (b a : ℕ) → is_node b a ≡ true → (b ≤ 1) × (a ≤ 254)
unfolding is_node
node_bounds b a h = go (eqb b 0) refl h
  where
    go : (x : Bool) → eqb b 0 ≡ x → (x && leb a 254 || eqb b 1 && leb a 127) ≡ true → (b ≤ 1) × (a ≤ 254)
    go true e g =
        let z : b ≡ 0 = eqb-true b 0 e in
        let n : eqb b 1 ≡ false = ne_eqb b 1 (λ o. omega (arith, z, o)) in
        let l : a ≤ 254 = leb-true a 254 (or_cases (leb a 254) (eqb b 1 && leb a 127) g (λ k. true_not_false (sym (and_left (eqb b 1) _ k) ∙ n))) in
        (omega (arith, z), l)
    go false e g =
        let o : b ≡ 1 = eqb-true b 1 (and_left (eqb b 1) _ g) in
        let l : a ≤ 127 = leb-true a 127 (and_right (eqb b 1) _ g) in
        (omega (arith, o), omega (arith, l))

kind_bound : (k : ℕ) → is_kind k ≡ true → k ≤ 2
unfolding is_kind
kind_bound k h = go (eqb k 1) refl h
  where
    go : (x : Bool) → eqb k 1 ≡ x → (x || eqb k 2) ≡ true → k ≤ 2
    go true e g = omega (arith, eqb-true k 1 e)
    go false e g = omega (arith, eqb-true k 2 g)

pub in_bounds : (e : Entry) → entry_in_range e ≡ true → (e.kind ≤ 2) × (e.bus ≤ 1) × (e.address ≤ 254)
unfolding entry_in_range is_clear
in_bounds e h = go (eqb e.kind 0) refl h
  where
    go : (x : Bool) → eqb e.kind 0 ≡ x → cond x (eqb e.bus 0 && (eqb e.address 0 && eqb e.left 0)) (is_kind e.kind && is_node e.bus e.address) ≡ true
        → (e.kind ≤ 2) × (e.bus ≤ 1) × (e.address ≤ 254)
    go true k g =
        let r : (eqb e.address 0 && eqb e.left 0) ≡ true = and_right (eqb e.bus 0) _ g in
        let z : e.kind ≡ 0 = eqb-true e.kind 0 k in
        let b : e.bus ≡ 0 = eqb-true e.bus 0 (and_left (eqb e.bus 0) _ g) in
        let a : e.address ≡ 0 = eqb-true e.address 0 (and_left (eqb e.address 0) _ r) in
        (omega (arith, z), omega (arith, b), omega (arith, a))
    go false k g =
        let n : (e.bus ≤ 1) × (e.address ≤ 254) = node_bounds e.bus e.address (and_right (is_kind e.kind) _ g) in
        (kind_bound e.kind (and_left (is_kind e.kind) _ g), n.0, n.1)

pub place_bound : (e : Entry) → is_node e.bus e.address ≡ true → node_place e < 384
unfolding node_place is_node
place_bound e h = go (eqb e.bus 0) refl h
  where
    go : (x : Bool) → eqb e.bus 0 ≡ x → (x && leb e.address 254 || eqb e.bus 1 && leb e.address 127) ≡ true → e.bus * 256 + e.address < 384
    go true k g = let z : e.bus ≡ 0 = eqb-true e.bus 0 k in let l : e.address ≤ 254 = (node_bounds e.bus e.address h).1 in omega (arith, z, l)
    go false k g =
        let o : e.bus ≡ 1 = eqb-true e.bus 1 (and_left (eqb e.bus 1) _ g) in
        let l : e.address ≤ 127 = leb-true e.address 127 (and_right (eqb e.bus 1) _ g) in
        omega (arith, o, l)

-- ---- an entry of a kind on the node of a place
unfoldable on : ℕ → ℕ → Entry → Bool
on n k e = eqb e.kind k && eqb (node_place e) n

on_kind : (n k : ℕ) (e : Entry) → node_place e ≡ n → on n k e ≡ eqb e.kind k
unfolding on
on_kind n k e h = rw (eq-eqb (node_place e) n h) (go (eqb e.kind k))
  where
    go : (b : Bool) → (b && true) ≡ b
    go true = refl
    go false = refl

on-other : (n k : ℕ) (e : Entry) → (node_place e ≡ n → ⊥) → on n k e ≡ false
unfolding on
on-other n k e h = rw (ne_eqb (node_place e) n h) (go (eqb e.kind k))
  where
    go : (b : Bool) → (b && false) ≡ false
    go true = refl
    go false = refl

-- what an entry in range is, and what a table with one more is
in_range_is : (e : Entry) → (e.kind ≡ 0 → ⊥) → (is_kind e.kind && is_node e.bus e.address) ≡ true → entry_in_range e ≡ true
unfolding entry_in_range
in_range_is e z f = rw (ne_eqb e.kind 0 z) f

valid_cons : (e : Entry) (t : List Entry) → entry_in_range e ≡ true → valid t ≡ true → valid (e ∷ t) ≡ not (again e t)
unfolding valid
valid_cons e t f v = rw (f, v) (go (not (again e t)))
  where
    go : (b : Bool) → (b && true) ≡ b
    go true = refl
    go false = refl

valid-not : (e : Entry) (t : List Entry) → valid t ≡ false → valid (e ∷ t) ≡ false
valid-not e t v = not-both (valid (e ∷ t)) (λ w. true_not_false (sym (rest_valid e t w) ∙ v))

-- a place is one node's
on-has : (e x : Entry) (k : ℕ) → entry_in_range e ≡ true → entry_in_range x ≡ true → on (node_place e) k x ≡ has k e.bus e.address x
unfolding on node_place has
on-has e x k f g = ap (λ (b : Bool). eqb x.kind k && b) (go (eqb x.bus e.bus) refl (eqb x.address e.address) refl)
  where
    far : (x.bus ≡ e.bus → ⊥) → (x.bus * 256 + x.address ≡ e.bus * 256 + e.address) → ⊥
    far n h = n (omega (arith, h, (in_bounds e f).1, (in_bounds e f).2, (in_bounds x g).1, (in_bounds x g).2))

    go : (b : Bool) → eqb x.bus e.bus ≡ b → (c : Bool) → eqb x.address e.address ≡ c → eqb (x.bus * 256 + x.address) (e.bus * 256 + e.address) ≡ (b && c)
    go true h true h' = eq-eqb _ _ (λ i. eqb-true x.bus e.bus h i * 256 + eqb-true x.address e.address h' i)
    go true h false h' = let u : x.bus ≡ e.bus = eqb-true x.bus e.bus h in ne_eqb (x.bus * 256 + x.address) (e.bus * 256 + e.address) (λ w. eqb-false x.address e.address h' (omega (arith, u, w)))
    go false h c h' = ne_eqb (x.bus * 256 + x.address) (e.bus * 256 + e.address) (far (eqb-false x.bus e.bus h))

holds_on : (e : Entry) (k : ℕ) → entry_in_range e ≡ true → (t : List Entry) → valid t ≡ true → holds (on (node_place e) k) t ≡ holds (has k e.bus e.address) t
unfolding holds
holds_on e k f [] v = refl
holds_on e k f (x ∷ t) v = λ i. on-has e x k f (first_in_range x t v) i || holds_on e k f t (rest_valid x t v) i

-- ---- the sum of a place: each kind counts once
abbrev counts : Bool → ℕ → ℕ
counts b k = cond {A = ℕ} b k 0

-- an entry that does not stand again is the only one of its kind on its node
alone : (e : Entry) (t : List Entry) → valid (e ∷ t) ≡ true → (e.kind ≡ 0 → ⊥) → holds (on (node_place e) e.kind) t ≡ false
alone e t v h =
    holds_on e e.kind (first_in_range e t v) t (rest_valid e t v)
    ∙ not-both _ (λ g. true_not_false (sym (stands_again e t (ne_eqb e.kind 0 h) g) ∙ first_once e t v))

module _ (n : ℕ) where
  abbrev told : List Entry → ℕ
  told t = counts (holds (on n 1) t) 1 + counts (holds (on n 2) t) 2

  -- an entry more, of this node or not
  added : (e : Entry) (t : List Entry) → valid (e ∷ t) ≡ true → node_place e ≡ n → bit_or (told t) e.kind ≡ told (e ∷ t)
  unfolding holds
  added e t v p = rw (on_kind n 1 e p, on_kind n 2 e p) (go e.kind refl (holds (on n 1) t) refl (holds (on n 2) t) refl)
    where
      only : (k : ℕ) → e.kind ≡ k → (k ≡ 0 → ⊥) → holds (on n k) t ≡ false
      only k h z = (λ i. holds (on (sym p i) (sym h i)) t) ∙ alone e t v (λ w. z (sym h ∙ w))

      go : (k : ℕ) → e.kind ≡ k → (c : Bool) → holds (on n 1) t ≡ c → (d : Bool) → holds (on n 2) t ≡ d
          → bit_or (counts c 1 + counts d 2) k ≡ counts (eqb k 1 || c) 1 + counts (eqb k 2 || d) 2
      go zero f true h true h' = refl
      go zero f true h false h' = refl
      go zero f false h true h' = refl
      go zero f false h false h' = refl
      go (suc zero) f true h d h' = absurd (true_not_false (sym h ∙ only 1 f (λ z. omega (arith, z))))
      go (suc zero) f false h true h' = refl
      go (suc zero) f false h false h' = refl
      go (suc (suc zero)) f c h true h' = absurd (true_not_false (sym h' ∙ only 2 f (λ z. omega (arith, z))))
      go (suc (suc zero)) f true h false h' = refl
      go (suc (suc zero)) f false h false h' = refl
      go (suc (suc (suc k))) f c h d h' = absurd (let m : e.kind ≤ 2 = (in_bounds e (first_in_range e t v)).0 in omega (arith, m, f))

  passed : (e : Entry) (t : List Entry) → (node_place e ≡ n → ⊥) → told t ≡ told (e ∷ t)
  unfolding holds
  passed e t h = rw (on-other n 1 e h, on-other n 2 e h)

  passed_free : (e : Entry) (t : List Entry) → e.kind ≡ 0 → told t ≡ told (e ∷ t)
  unfolding holds on
  passed_free e t h = rw (ne_eqb e.kind 1 (λ z. omega (arith, h, z)), ne_eqb e.kind 2 (λ z. omega (arith, h, z)))

-- whether an entry stands again is told by the kinds of its node
again-told : (e : Entry) (t : List Entry) → entry_in_range e ≡ true → (e.kind ≡ 0 → ⊥) → valid t ≡ true → eqb (bit_and (told (node_place e) t) e.kind) 0 ≡ not (again e t)
unfolding again
again-told e t f z v =
    rw (ne_eqb e.kind 0 z, ← holds_on e e.kind f t v)
    (go e.kind refl (holds (on (node_place e) 1) t) refl (holds (on (node_place e) 2) t) refl)
  where
    go : (k : ℕ) → e.kind ≡ k → (a : Bool) → holds (on (node_place e) 1) t ≡ a → (b : Bool) → holds (on (node_place e) 2) t ≡ b
        → eqb (bit_and (counts a 1 + counts b 2) k) 0 ≡ not (holds (on (node_place e) k) t)
    go zero h a g b g' = absurd (z h)
    go (suc zero) h true g true g' = sym (ap not g)
    go (suc zero) h true g false g' = sym (ap not g)
    go (suc zero) h false g true g' = sym (ap not g)
    go (suc zero) h false g false g' = sym (ap not g)
    go (suc (suc zero)) h true g true g' = sym (ap not g')
    go (suc (suc zero)) h true g false g' = sym (ap not g')
    go (suc (suc zero)) h false g true g' = sym (ap not g')
    go (suc (suc zero)) h false g false g' = sym (ap not g')
    go (suc (suc (suc k))) h a g b g' = absurd (let m : e.kind ≤ 2 = (in_bounds e f).0 in omega (arith, m, h))

-- ---- one place more
module _ (good : Bool) (seen : List ℕ) (e : Entry) where
  pub mark-length : length (mark good seen e).1 ≡ length seen
  unfolding mark
  mark-length = go (is_free e) (is_kind e.kind && is_node e.bus e.address)
    where
      go : (a b : Bool) → length (cond {A = Bool × List ℕ} a (good && is_clear e, seen) (cond b (good && eqb (bit_and (get_or seen (node_place e) 0) e.kind) 0, set seen (node_place e) (bit_or (get_or seen (node_place e) 0) e.kind)) (false, seen))).1 ≡ length seen
      go true b = refl
      go false true = length-set seen _ _
      go false false = refl

-- the places looked through, the last first
unfoldable pub marked : List Entry → Bool × List ℕ
marked [] = (true, replicate 384 0)
marked (e ∷ t) = mark (marked t).0 (marked t).1 e

pub marked-length : (t : List Entry) → length (marked t).1 ≡ 384
unfolding marked
marked-length [] = length-replicate {A = ℕ} 384 0
marked-length (e ∷ t) = mark-length (marked t).0 (marked t).1 e ∙ marked-length t

-- what they come to
abbrev Told : List Entry → Type 0
Told t = ((marked t).0 ≡ valid t) × (valid t ≡ true → (n : ℕ) → n < 384 → get_or (marked t).1 n 0 ≡ told n t)

module _ (e : Entry) (t : List Entry) (ih : Told t) where
  and_swap : (a b : Bool) → (a && b) ≡ (b && (true && a))
  and_swap true true = refl
  and_swap true false = refl
  and_swap false true = refl
  and_swap false false = refl

  at-free : e.kind ≡ 0 → Told (e ∷ t)
  unfolding marked mark valid again entry_in_range
  at-free z = rw (eq-eqb e.kind 0 z) (ap (λ (g : Bool). g && is_clear e) ih.0 ∙ and_swap (valid t) (is_clear e), λ v n l. ih.1 (and_right true _ (and_right (is_clear e) _ v)) n l ∙ passed_free n e t z)

  at_out : (e.kind ≡ 0 → ⊥) → (is_kind e.kind && is_node e.bus e.address) ≡ false → Told (e ∷ t)
  unfolding marked mark valid entry_in_range
  at_out z f = rw (ne_eqb e.kind 0 z, f) (refl, λ v. absurd (true_not_false (sym v)))

  at_in : (e.kind ≡ 0 → ⊥) → (is_kind e.kind && is_node e.bus e.address) ≡ true → Told (e ∷ t)
  unfolding marked mark
  at_in z f = rw (ne_eqb e.kind 0 z, f) (first (valid t) refl, next)
    where
      good : entry_in_range e ≡ true
      good = in_range_is e z f

      small : node_place e < 384
      small = place_bound e (and_right (is_kind e.kind) _ f)

      first : (b : Bool) → valid t ≡ b → ((marked t).0 && eqb (bit_and (get_or (marked t).1 (node_place e) 0) e.kind) 0) ≡ valid (e ∷ t)
      first true v = rw (ih.0, v, ih.1 v (node_place e) small, again-told e t good z v) (sym (valid_cons e t good v))
      first false v = rw (ih.0, v) (sym (valid-not e t v))

      next : valid (e ∷ t) ≡ true → (n : ℕ) → n < 384 → get_or (set (marked t).1 (node_place e) (bit_or (get_or (marked t).1 (node_place e) 0) e.kind)) n 0 ≡ told n (e ∷ t)
      next v n l = go (eqb (node_place e) n) refl
        where
          go : (b : Bool) → eqb (node_place e) n ≡ b → get_or (set (marked t).1 (node_place e) (bit_or (get_or (marked t).1 (node_place e) 0) e.kind)) n 0 ≡ told n (e ∷ t)
          go true h =
              let p : node_place e ≡ n = eqb-true (node_place e) n h in
              let k : n < length (marked t).1 = omega (arith, marked-length t, l) in
              ap (λ (m : ℕ). get_or (set (marked t).1 m (bit_or (get_or (marked t).1 m 0) e.kind)) n 0) p ∙ get_or-set_same (marked t).1 n _ 0 k ∙ ap (λ (m : ℕ). bit_or m e.kind) (ih.1 (rest_valid e t v) n l) ∙ added n e t v p
          go false h =
              let p : node_place e ≡ n → ⊥ = eqb-false (node_place e) n h in
              get_or-set_other (marked t).1 (node_place e) n _ 0 (λ q. p (sym q)) ∙ ih.1 (rest_valid e t v) n l ∙ passed n e t p

all_told : (t : List Entry) → Told t
unfolding marked valid holds
all_told [] = (refl, λ v n l. get_or-replicate 384 n 0 0 l)
all_told (e ∷ t) = go (eqb e.kind 0) refl (is_kind e.kind && is_node e.bus e.address) refl (all_told t)
  where
    go : (a : Bool) → eqb e.kind 0 ≡ a → (b : Bool) → (is_kind e.kind && is_node e.bus e.address) ≡ b → Told t → Told (e ∷ t)
    go true h b g ih = at-free e t ih (eqb-true e.kind 0 h)
    go false h true g ih = at_in e t ih (eqb-false e.kind 0 h) g
    go false h false g ih = at_out e t ih (eqb-false e.kind 0 h) g

pub marked-valid : (t : List Entry) → (marked t).0 ≡ valid t
marked-valid t = (all_told t).0

-- ---- the loop, from the last place on: those looked through come last first
pub marked_start : ◌≡◌ {A = Bool × List ℕ} (true, replicate 384 0) (marked [])
unfolding marked
marked_start = refl

pub marked_more : (ts : List Entry) (e : Entry) {g : Bool} {s : List ℕ} {r : Bool × List ℕ} → (g, s) ≡ marked (reverse ts) → r ≡ mark g s e → r ≡ marked (reverse (ts ++ e ∷ []))
unfolding marked
marked_more ts e v w = w ∙ (λ j. mark (v j).0 (v j).1 e) ∙ ap marked (sym (reverse-append ts (e ∷ [])))

pub marked-end : (t ts : List Entry) {g : Bool} {s : List ℕ} → ts ≡ reverse t → (g, s) ≡ marked (reverse ts) → g ≡ valid t
marked-end t ts h v = ap (λ (x : Bool × List ℕ). x.0) v ∙ ap (λ (l : List Entry). (marked (reverse l)).0) h ∙ ap (λ (l : List Entry). (marked l).0) (reverse-reverse t) ∙ marked-valid t
