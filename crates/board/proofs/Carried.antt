-- A search for a place, the checks before an order, and the answers of an order and of a list. Assumes nothing.
use mathlib.Core.Path.{◌≡◌, refl, sym, ◌∙◌, ap}
use Prim.Native.Nat.{ℕ, suc, ◌<◌, ◌≤◌}
use native.Mathlib.Omega.{arith}
use mathlib.Core.Bool.{Bool, true, false, cond, not}
use mathlib.Core.List.{List, [], ◌∷◌, ◌++◌}
use lib.ListN.{length, set, take, drop}
use lib.Seq.{take-length}
use lib.Dec.{eqb, ltb}
use borrow.Author.Tests.{eq-eqb, eqb-true, lt-ltb, le-ltb, ltb-false}
use Rattle.std.specs.Prelude.{Option, Some, None, Result, Ok, Err, position}
use Rattle.std.specs.Option.{option_or}
use Rattle.std.specs.List.{position_or_len}
use Rattle.arrayvec.specs.ArrayVec.{ArrayVec, array_vec_len}
use Rattle.refusal.specs.declared.Refusal.{Refusal}
use Rattle.refusal.specs.Refusals.{Numbered, number, paper, Answered, served, refused, answered_as, answered, in_order}
use Rattle.board.specs.declared.entries.Kind.{Kind}
use Rattle.board.specs.declared.entries.Node.{Node}
use Rattle.board.specs.declared.entries.Entry.{Entry}
use Rattle.board.specs.Entries.{entry_of, empty, is_free, is_of, place_of, holds, valid}
use Rattle.board.specs.Orders.{Outcome, opened}
use Rattle.board.specs.Listing.{standing_in, listed, list_answer, laid, or_as_it_was, list, fewest, laid_first}
use Rattle.board.proofs.Turns.{holds_place}

-- ---- the first place
place-position : (f : Entry → Bool) (t : List Entry) → place_of f t ≡ position_or_len f t
unfolding place_of
place-position f [] = refl
place-position f (e ∷ t) = go (f e) refl (place-position f t)
  where
    go : (b : Bool) → f e ≡ b → place_of f t ≡ position_or_len f t → cond {A = ℕ} b 0 (suc (place_of f t)) ≡ position_or_len f (e ∷ t)
    go true u r = rw u
    go false u r = rw u (omega (arith, r))

pub position_is : (f : Entry → Bool) (t : List Entry) → position f t ≡ cond (holds f t) (Some (place_of f t)) None
position_is f t = rw (← place-position f t, ← holds_place f t)

-- ---- opening: the entry stands there, it takes the first free place, or there is none
module _ (node : Node) (kind : Kind) (lease : ℕ) (t : List Entry) {o p r : Option ℕ} (u : o ≡ position (is_of node kind) t) (v : p ≡ position is_free t) (w : r ≡ option_or o p) where
  abbrev its : Entry → Bool
  its = is_of node kind

  abbrev new : Entry
  new = entry_of node kind lease

  places : r ≡ option_or (cond (holds its t) (Some (place_of its t)) None) (cond (holds is_free t) (Some (place_of is_free t)) None)
  places = w ∙ (λ j. option_or ((u ∙ position_is its t) j) ((v ∙ position_is is_free t) j))

  pub opened_at : {i : ℕ} → r ≡ Some i → opened node kind lease t ≡ (served tt, set t i new)
  unfolding opened
  opened_at {i} e = go (holds its t) (holds is_free t) (sym e ∙ places)
    where
      go : (b c : Bool) → Some i ≡ option_or (cond b (Some (place_of its t)) None) (cond c (Some (place_of is_free t)) None)
          → cond {A = Outcome} b (served tt, set t (place_of its t) new) (cond c (served tt, set t (place_of is_free t) new) (refused (number 19), t)) ≡ (served tt, set t i new)
      go true c h = let s : i ≡ place_of its t = cc in rw s
      go false true h = let s : i ≡ place_of is_free t = cc in rw s
      go false false h = absurd (cc)

  pub opened_full : r ≡ None → opened node kind lease t ≡ (refused (number 19), t)
  unfolding opened
  opened_full e = go (holds its t) (holds is_free t) (sym e ∙ places)
    where
      go : (b c : Bool) → None ≡ option_or (cond b (Some (place_of its t)) None) (cond c (Some (place_of is_free t)) None)
          → cond {A = Outcome} b (served tt, set t (place_of its t) new) (cond c (served tt, set t (place_of is_free t) new) (refused (number 19), t)) ≡ (refused (number 19), t)
      go true c h = absurd (cc)
      go false true h = absurd (cc)
      go false false h = refl

pub ruleset opening = (opened_at, opened_full)

-- ---- the checks before an order and a list
abbrev pub checks : List Entry → List (Bool × Numbered)
checks t = (not (eqb (length t) 32), number 1) ∷ (not (valid t), number 2) ∷ []

module _ (t : List Entry) {r : Result (Unit {0}) Refusal} (a : answered r ≡ in_order (checks t) (tt {0})) where
  pub checked_ok : {u : Unit {0}} → r ≡ Ok u → (length t ≡ 32) × (valid t ≡ true)
  checked_ok {u} e = go (eqb (length t) 32) refl (valid t) refl (sym (ap answered e) ∙ a)
    where
      go : (b : Bool) → eqb (length t) 32 ≡ b → (c : Bool) → valid t ≡ c → served u ≡ in_order ((not b, number 1) ∷ (not c, number 2) ∷ []) (tt {0}) → (length t ≡ 32) × (valid t ≡ true)
      go true g true h s = (eqb-true (length t) 32 g, h)
      go true g false h s = absurd (cc)
      go false g c h s = absurd (cc)

  pub checked_err : {A : Type 0} (rest : List (Bool × Numbered)) (x : A) {e : Refusal} → r ≡ Err e
      → in_order ((not (eqb (length t) 32), number 1) ∷ (not (valid t), number 2) ∷ rest) x ≡ refused (paper e)
  checked_err {A} rest x {e} h = go (eqb (length t) 32) (valid t) (sym (ap answered h) ∙ a)
    where
      go : (b c : Bool) → refused (paper e) ≡ in_order ((not b, number 1) ∷ (not c, number 2) ∷ []) (tt {0}) → in_order ((not b, number 1) ∷ (not c, number 2) ∷ rest) x ≡ refused (paper e)
      go true true s = absurd (cc)
      go true false s = let n : paper e ≡ number 2 = cc in rw n
      go false c s = let n : paper e ≡ number 1 = cc in rw n

-- ---- the answer of a list
module _ (t : List Entry) (room : ℕ) {r : Result (Unit {0}) Refusal} (a : answered r ≡ in_order (checks t) (tt {0})) where
  pub listing_bad : {e : Refusal} → r ≡ Err e → refused (paper e) ≡ list_answer t room
  unfolding list_answer
  listing_bad h = sym (checked_err t a ((ltb room (length (listed (standing_in t))), number 1) ∷ []) (length (listed (standing_in t))) h)

  module _ {u : Unit {0}} (h : r ≡ Ok u) {n : ℕ} (g : n ≡ length (listed (standing_in t))) where
    all_listed : list_answer t room ≡ in_order ((ltb room n, number 1) ∷ []) n
    unfolding list_answer
    all_listed = let c = checked_ok t a h in rw (eq-eqb (length t) 32 c.0, c.1, g)

    pub listing_room : room < n → refused (number 1) ≡ list_answer t room
    listing_room l = sym (all_listed ∙ rw (lt-ltb room n l))

    pub listing_served : n ≤ room → served n ≡ list_answer t room
    listing_served l = sym (all_listed ∙ rw (le-ltb room n l))

pub ruleset listing = (listing_bad, listing_room, listing_served)

-- ---- a list in the lent room, where what is served has room
fewest_all : (count room : ℕ) → count ≤ room → count ≤ 32 → fewest count room ≡ count
fewest_all count room l m = omega (arith, l, m)

pub laid_by : {a : Answered ℕ} (entries zs : List Entry) {xs : List Entry} → a ≡ served (length xs) → xs ≡ entries → length xs ≤ length zs → length xs ≤ 32
    → {n : ℕ} {out : List Entry} → (n ≡ length xs) × (out ≡ laid_first (length xs) xs zs) → ◌≡◌ {A = Answered ℕ × List Entry} (served n, out) (a, or_as_it_was a entries zs)
laid_by {a} entries zs {xs} k e l m {n} {out} (f, w) = (λ j. (served (f j), same j)) ∙ (λ j. (sym k j, or_as_it_was (sym k j) entries zs))
  where
    all : fewest (length xs) (length zs) ≡ length xs
    all = fewest_all (length xs) (length zs) l m

    same : out ≡ laid entries zs
    same = w ∙ (λ j. take (all j) xs ++ drop (all j) zs) ∙ ap (λ (x : List Entry). x ++ drop (length xs) zs) (take-length xs) ∙ ap (λ (x : List Entry). laid x zs) e

-- and a list laid in 32 free places
pub laid_free : (xs l zs : List Entry) → xs ≡ l → zs ≡ empty → length xs ≤ 32 → {n : ℕ} {out : List Entry}
    → (n ≡ length xs) × (out ≡ laid_first (length xs) xs zs) → out ≡ take n l ++ drop n empty
laid_free xs l zs e z m {n} {out} (f, w) = w ∙ (λ j. laid_first (sym f j) (e j) (z j)) ∙ (λ j. take (all j) l ++ drop (all j) empty)
  where
    all : fewest n (length empty) ≡ n
    all = fewest_all n (length empty) (omega (arith, f, m)) (omega (arith, f, m))

-- what is served has room
pub serves_few : (t : List Entry) (room : ℕ) {n : ℕ} → list_answer t room ≡ served n → n ≤ room
unfolding list_answer
serves_few t room {n} k = go (eqb (length t) 32) (valid t) (ltb room (length (listed (standing_in t)))) refl k
  where
    go : (b c d : Bool) → ltb room (length (listed (standing_in t))) ≡ d → in_order ((not b, number 1) ∷ (not c, number 2) ∷ (d, number 1) ∷ []) (length (listed (standing_in t))) ≡ served n → n ≤ room
    go true true false h s = let e : length (listed (standing_in t)) ≡ n = cc in let l : length (listed (standing_in t)) ≤ room = ltb-false room (length (listed (standing_in t))) h in omega (arith, e, l)
    go true true true h s = absurd (cc)
    go true false d h s = absurd (cc)
    go false c d h s = absurd (cc)

module _ (t : List Entry) (zs : List Entry) {r : Result (ArrayVec Entry) Refusal} (a : answered_as array_vec_len r ≡ list_answer t (length zs)) where
  pub laid_bad : {e : Refusal} → r ≡ Err e → (refused (paper e), zs) ≡ list t zs
  unfolding list
  laid_bad {e} h = λ j. (k j, or_as_it_was (k j) (listed (standing_in t)) zs)
    where
      k : refused (paper e) ≡ list_answer t (length zs)
      k = sym (ap (answered_as array_vec_len) h) ∙ a

  pub laid_all : {v : ArrayVec Entry} → r ≡ Ok v → v.items ≡ listed (standing_in t) → {xs : List Entry} → xs ≡ v.items → length xs ≤ 32 → {n : ℕ} {out : List Entry}
      → (n ≡ length xs) × (out ≡ laid_first (length xs) xs zs) → (served n, out) ≡ list t zs
  unfolding list
  laid_all {v} h e {xs} p m f =
      let k : list_answer t (length zs) ≡ served (length xs) = sym a ∙ ap (answered_as array_vec_len) h ∙ ap (λ (x : List Entry). served (length x)) (sym p) in
      laid_by (listed (standing_in t)) zs k (p ∙ e) (serves_few t (length zs) k) m f

pub ruleset laying = (laid_bad, laid_all)
