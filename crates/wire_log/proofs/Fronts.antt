-- The front of a file: what ends in it, and the walk through it, are those of the file. Assumes nothing.
use mathlib.Core.Path.{◌≡◌, refl, sym, ap, ◌∙◌}
use mathlib.Core.Bool.{Bool, true, false, cond}
use mathlib.Core.List.{List, []}
use Prim.Native.Nat.{ℕ, zero, suc, ◌+◌, ◌-◌, ◌≤◌}
use native.Mathlib.Omega.{arith}
use lib.Dec.{ltb, eqb}
use lib.ListN.{length, take, drop}
use lib.Seq.{length-take-le, take-take}
use borrow.Author.Tests.{ltb-true, ltb-false}
use Rattle.std.proofs.lemmas.List.{get_or-take, drop-take}
use Rattle.refusal.specs.Refusals.{Answered, served, refused}
use Rattle.payload.specs.Field.{big}
use Rattle.wire_log.specs.Log.{LogRecord, Rule, recorded}
use Rattle.wire_log.specs.Check.{kind_at, size_at, start_at, record_at, ending_at, newest_of, walk, records_before}
use Rattle.wire_log.specs.Listing.{rowed}
use Rattle.wire_log.specs.Private.{found_in, last_in, records_in}
use Rattle.wire_log.proofs.Walk.{start-before, ending_cut, ending_before-start, ending_unknown, ending_served}

-- a part of the front is a part of the file
part : (file : List ℕ) (n i m : ℕ) → i + m ≤ n → take m (drop i (take n file)) ≡ take m (drop i file)
part file n i m h =
    let e : n ≡ i + (n - i) = omega arith in
    ap (λ (k : ℕ). take m (drop i (take k file))) e ∙ ap (take m) (drop-take i (n - i) file) ∙ take-take m (n - i) (drop i file) (omega arith)

module _ (rule : Rule) (file : List ℕ) (n : ℕ) where
  abbrev front : List ℕ
  front = take n file

  size_front : (place : ℕ) → 3 ≤ place → place ≤ n → size_at front place ≡ size_at file place
  unfolding size_at
  size_front place long h = ap big (part file n (place - 2) 2 (omega arith))

  pub start_front : (place : ℕ) → place ≤ n → start_at front place ≡ start_at file place
  unfolding start_at
  start_front place h = go (ltb place 3) refl
    where
      go : (t : Bool) → ltb place 3 ≡ t → place - 3 - size_at front place ≡ place - 3 - size_at file place
      go true e = omega (arith, ltb-true place 3 e)
      go false e = ap (λ (k : ℕ). place - 3 - k) (size_front place (ltb-false place 3 e) h)

  kind_front : (place : ℕ) → 3 ≤ place → place ≤ n → kind_at front place ≡ kind_at file place
  unfolding kind_at
  kind_front place long h = get_or-take n file (place - 3) 0 (omega arith)

  record_front : (place : ℕ) → 3 ≤ place → place ≤ n → size_at file place ≤ place - 3 → record_at front place ≡ record_at file place
  unfolding record_at start_at
  record_front place long h points =
      let size = size_front place long h in
      let body : take (size_at front place) (drop (place - 3 - size_at front place) front) ≡ take (size_at file place) (drop (place - 3 - size_at file place) file) =
      ap (λ (k : ℕ). take k (drop (place - 3 - k) front)) size ∙ part file n (place - 3 - size_at file place) (size_at file place) (omega (arith, points)) in
      λ i. recorded (kind_front place long h i) (body i)

  pub ending_front : (place : ℕ) → place ≤ n → ending_at rule front place ≡ ending_at rule file place
  ending_front place h = go (ltb place 3) refl (ltb (place - 3) (size_at file place)) refl (rule (kind_at file place) (size_at file place)) refl
    where
      go : (t : Bool) → ltb place 3 ≡ t → (u : Bool) → ltb (place - 3) (size_at file place) ≡ u → (v : Bool) → rule (kind_at file place) (size_at file place) ≡ v
          → ending_at rule front place ≡ ending_at rule file place
      go true e u f v g = ending_cut rule front place (ltb-true place 3 e) ∙ sym (ending_cut rule file place (ltb-true place 3 e))
      go false e true f v g =
          let past = ltb-true _ _ f in
          ending_before-start rule front place (omega (arith, past, size_front place (ltb-false place 3 e) h)) ∙ sym (ending_before-start rule file place past)
      go false e false f v g =
          let long = ltb-false place 3 e in
          let points = ltb-false _ _ f in
          let size = size_front place long h in
          let same : rule (kind_at front place) (size_at front place) ≡ v = (λ i. rule (kind_front place long h i) (size i)) ∙ g in
          last v g same long points (omega (arith, points, size))
        where
          last : (v : Bool) → rule (kind_at file place) (size_at file place) ≡ v → rule (kind_at front place) (size_at front place) ≡ v → 3 ≤ place
              → size_at file place ≤ place - 3 → size_at front place ≤ place - 3 → ending_at rule front place ≡ ending_at rule file place
          last false g k long points inside = ending_unknown rule front place long inside k ∙ sym (ending_unknown rule file place long points g)
          last true g k long points inside =
              ending_served rule front place long inside k ∙ ap served (record_front place long h points) ∙ sym (ending_served rule file place long points g)

  -- the walk
  walk_front : (turns place : ℕ) → place ≤ n → walk rule front turns place ≡ walk rule file turns place
  unfolding walk
  walk_front zero place h = refl
  walk_front (suc turns) place h =
      (λ i. cond (eqb place 0) (served []) (newest_of (ending_front place h i) (walk rule front turns (start_at front place))))
      ∙ ap (λ (w : Answered (List LogRecord)). cond (eqb place 0) (served []) (newest_of (ending_at rule file place) w))
      (walk_front turns (start_at front place) (omega (arith, start-before rule front place)) ∙ ap (walk rule file turns) (start_front place h))

  pub records_front : (place : ℕ) → place ≤ n → records_before rule front place ≡ records_before rule file place
  unfolding records_before
  records_front place h = walk_front place place h

  -- the records in the front that ends at a place
  pub records_to_front : n ≤ length file → records_in rule front ≡ records_before rule file n
  records_to_front h = ap (records_before rule front) (length-take-le n file h) ∙ records_front n (omega arith)

  pub found_front : (place : ℕ) → place ≤ n → found_in front place (ending_at rule front place) ≡ found_in file place (ending_at rule file place)
  found_front place h = ap (found_in front place) (ending_front place h) ∙ go (ending_at rule file place)
    where
      go : (a : Answered LogRecord) → found_in front place a ≡ found_in file place a
      go (served r) = ap (λ (s : ℕ). served (rowed r.kind s (length r.body))) (start_front place h)
      go (refused m) = refl

  pub last_front : n ≤ length file → last_in rule front ≡ found_in file n (ending_at rule file n)
  last_front h = ap (λ (k : ℕ). found_in front k (ending_at rule front k)) (length-take-le n file h) ∙ found_front n (omega arith)
