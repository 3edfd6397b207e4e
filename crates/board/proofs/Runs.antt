-- A function over the places of a table, in place: those before i are done. Assumes nothing.
use mathlib.Core.Path.{◌≡◌, sym, ◌∙◌, ap}
use Prim.Native.Nat.{ℕ, suc, ◌+◌, ◌<◌, ◌≤◌}
use native.Mathlib.Numerals.{add-one}
use native.Mathlib.Omega.{arith}
use mathlib.Core.List.{List, ◌++◌, map}
use lib.ListN.{length, get_or, set, take, drop, length-map}
use lib.Seq.{length-take-le, drop-cons, get_or_at}
use Rattle.std.proofs.lemmas.List.{get_or-map, set-get_or}
use Rattle.board.specs.declared.entries.Entry.{Entry}
use Rattle.board.proofs.Walk.{over, over_step, over_all}

abbrev pub done_to : (Entry → Entry) → ℕ → List Entry → List Entry
done_to f i t = over i (map f t) t

module _ (f : Entry → Entry) (t : List Entry) (i : ℕ) (d : Entry) {q : List Entry} (l : i < length t) (v : q ≡ done_to f i t) where
  mapped_length : i < length (map f t)
  mapped_length = let g : length (map f t) ≡ length t = length-map t f in omega (arith, g, l)

  -- the place that is next stands as it was
  next_is : get_or q i d ≡ get_or t i d
  next_is =
      ap (λ (r : List Entry). get_or r i d) (v ∙ ap (λ (r : List Entry). take i (map f t) ++ r) (drop-cons t i d l))
      ∙ get_or_at (take i (map f t)) (get_or t i d) (drop (suc i) t) d i (length-take-le i (map f t) (let h = mapped_length in omega (arith, h)))

  -- one more
  pub done_more : {e : Entry} → e ≡ f (get_or q i d) → set q i e ≡ done_to f (i + 1) t
  done_more {e} w =
      (λ j. set (v j) i ((w ∙ ap f next_is ∙ sym (get_or-map f t i d d l)) j))
      ∙ over_step (map f t) t i d mapped_length l
      ∙ ap (λ (m : ℕ). done_to f m t) (sym (add-one i))

  -- one more, which stays as it is
  pub done_same : f (get_or q i d) ≡ get_or q i d → q ≡ done_to f (i + 1) t
  done_same w = sym (set-get_or q i d) ∙ done_more (sym w)

pub done_all : (f : Entry → Entry) (t : List Entry) (i : ℕ) {q : List Entry} → length t ≤ i → q ≡ done_to f i t → q ≡ map f t
done_all f t i l v = v ∙ over_all i (map f t) t (let g : length (map f t) ≡ length t = length-map t f in omega (arith, g, l)) l

pub ruleset each = (done_more, done_same, done_all)
