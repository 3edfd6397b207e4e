-- When the check gives each of its refusals. Assumes nothing.
use mathlib.Core.Path.{◌≡◌, refl, sym, ap, subst, ◌∙◌}
use mathlib.Core.Logic.{◌⊎◌, inl, inr}
use mathlib.Core.Bool.{Bool, true, false, cond, not}
use mathlib.Core.List.{List, ◌++◌, append_assoc, reverse, reverse-reverse}
use Prim.Native.Nat.{ℕ, ◌+◌, ◌-◌, ◌^◌, ◌≤◌, ◌<◌}
use native.Mathlib.Omega.{arith}
use lib.Dec.{ltb, eqb}
use lib.ListN.{length, take, drop, length-append, length-take, take-append-drop}
use lib.Seq.{length-take-le}
use borrow.Author.Tests.{ltb-true, ltb-false, eqb-true, eqb-false, ne_eqb}
use Rattle.refusal.specs.Refusals.{Numbered, number, Answered, served, refused}
use Rattle.refusal.proofs.Order.{refused_not_served}
use Rattle.payload.specs.Field.{Bytes}
use Rattle.wire_log.specs.Log.{LogRecord, Rule, joined, Follows, most}
use Rattle.wire_log.specs.Check.{kind_at, size_at, start_at, record_at, ending_at, newest_of, records_before, count_in, total_in, bad_total, counted, records_of}
use Rattle.wire_log.specs.Logs.{Sized, Reached}
use Rattle.wire_log.proofs.Walk.{follows_reverse, ending_cut, ending_before-start, ending_unknown, records_before_lem, newest_refused, walk_through, after, FaultBefore, Walked, walked}
use Rattle.wire_log.proofs.Tiling.{bad_differs, bad_over, not_bad}

-- two numbers of the table
pub other : {A B : Type 0} {m n : ℕ} → (m ≡ n → ⊥) → ◌≡◌ {A = Answered A} (refused (number m)) (refused (number n)) → B
other {m = m} {n = n} h e = absurd (h (let z : m ≡ n = cc in z))

pub same_number : {m n : ℕ} → number m ≡ number n → m ≡ n
same_number e = cc

-- what is wrong with a record that ends at a place
module _ (rule : Rule) (file : List ℕ) (place : ℕ) where
  abbrev Points : Type 0
  Points = (place < 3) ⊎ (place - 3 < size_at file place)

  abbrev Unknown : Type 0
  Unknown = (3 ≤ place) × (size_at file place ≤ place - 3) × (rule (kind_at file place) (size_at file place) ≡ false)

  pub fault_21 : ending_at rule file place ≡ refused (number 21) → Points
  unfolding ending_at
  fault_21 = go (ltb place 3) refl (ltb (place - 3) (size_at file place)) refl (rule (kind_at file place) (size_at file place))
    where
      go : (t : Bool) → ltb place 3 ≡ t → (u : Bool) → ltb (place - 3) (size_at file place) ≡ u → (v : Bool)
          → cond t (refused (number 21)) (cond u (refused (number 21)) (cond (not v) (refused (number 22)) (served (record_at file place)))) ≡ refused (number 21)
          → Points
      go true e u f v h = inl (ltb-true _ _ e)
      go false e true f v h = inr (ltb-true _ _ f)
      go false e false f false h = other (λ z. omega arith) h
      go false e false f true h = absurd (refused_not_served (sym h))

  pub fault_22 : ending_at rule file place ≡ refused (number 22) → Unknown
  unfolding ending_at
  fault_22 = go (ltb place 3) refl (ltb (place - 3) (size_at file place)) refl (rule (kind_at file place) (size_at file place)) refl
    where
      go : (t : Bool) → ltb place 3 ≡ t → (u : Bool) → ltb (place - 3) (size_at file place) ≡ u → (v : Bool) → rule (kind_at file place) (size_at file place) ≡ v
          → cond t (refused (number 21)) (cond u (refused (number 21)) (cond (not v) (refused (number 22)) (served (record_at file place)))) ≡ refused (number 22)
          → Unknown
      go true e u f v g h = other (λ z. omega arith) h
      go false e true f v g h = other (λ z. omega arith) h
      go false e false f false g h = (ltb-false _ _ e, ltb-false _ _ f, g)
      go false e false f true g h = absurd (refused_not_served (sym h))

  pub points_21 : Points → ending_at rule file place ≡ refused (number 21)
  points_21 (inl h) = ending_cut rule file place h
  points_21 (inr h) = ending_before-start rule file place h

  pub unknown_22 : Unknown → ending_at rule file place ≡ refused (number 22)
  unknown_22 u = ending_unknown rule file place u.0 u.1 u.2

-- a record's refusal is 21 or 22
pub ending_number : (rule : Rule) (file : List ℕ) (place : ℕ) (n : ℕ) → ending_at rule file place ≡ refused (number n) → (n ≡ 21) ⊎ (n ≡ 22)
unfolding ending_at
ending_number rule file place n = go (ltb place 3) (ltb (place - 3) (size_at file place)) (rule (kind_at file place) (size_at file place))
  where
    go : (t u v : Bool) → cond t (refused (number 21)) (cond u (refused (number 21)) (cond (not v) (refused (number 22)) (served (record_at file place)))) ≡ refused (number n)
        → (n ≡ 21) ⊎ (n ≡ 22)
    go true u v h = inl (cc)
    go false true v h = inl (cc)
    go false false false h = inr (cc)
    go false false true h = absurd (refused_not_served (sym h))

-- the check's refusals
module _ (rule : Rule) (file : List ℕ) where
  -- which part of the check refused
  pub data Cause (n : Numbered) : Type 0 where
    total : bad_total file ≡ true → n ≡ number 20 → Cause n
    record_bad : bad_total file ≡ false → records_before rule file (length file - 8) ≡ refused n → Cause n
    count : (listing : List LogRecord) → bad_total file ≡ false → records_before rule file (length file - 8) ≡ served listing
        → (length listing ≡ count_in file → ⊥) → n ≡ number 23 → Cause n

  pub cause : (n : Numbered) → records_of rule file ≡ refused n → Cause n
  unfolding records_of
  cause n = go (bad_total file) refl (records_before rule file (length file - 8)) refl
    where
      counting : (listing : List LogRecord) → bad_total file ≡ false → records_before rule file (length file - 8) ≡ served listing
          → (t : Bool) → eqb (length listing) (count_in file) ≡ t → cond t (served listing) (refused (number 23)) ≡ refused n → Cause n
      counting listing b r true e h = absurd (refused_not_served (sym h))
      counting listing b r false e h = count listing b r (eqb-false _ _ e) (cc)

      go : (t : Bool) → bad_total file ≡ t → (a : Answered (List LogRecord)) → records_before rule file (length file - 8) ≡ a
          → cond t (refused (number 20)) (counted (count_in file) a) ≡ refused n → Cause n
      go true e a f h = total e (cc)
      go false e (refused m) f h = record_bad e (f ∙ h)
      go false e (served listing) f h = counting listing e f (eqb (length listing) (count_in file)) refl h

  pub refused_total : bad_total file ≡ true → records_of rule file ≡ refused (number 20)
  unfolding records_of
  refused_total e = rw e

  -- a file that is longer than any log
  pub over_long : most + 8 < length file → records_of rule file ≡ refused (number 20)
  over_long h = go (eqb (total_in file) (length file - 8)) refl
    where
      go : (t : Bool) → eqb (total_in file) (length file - 8) ≡ t → records_of rule file ≡ refused (number 20)
      go true e = refused_total (bad_over file (omega (arith, eqb-true (total_in file) (length file - 8) e)))
      go false e = refused_total (bad_differs file (eqb-false (total_in file) (length file - 8) e))

  pub refused_record : {n : Numbered} → bad_total file ≡ false → records_before rule file (length file - 8) ≡ refused n → records_of rule file ≡ refused n
  unfolding records_of
  refused_record e f = rw (e, f)

  pub refused_count : (listing : List LogRecord) → bad_total file ≡ false → records_before rule file (length file - 8) ≡ served listing
      → (length listing ≡ count_in file → ⊥) → records_of rule file ≡ refused (number 23)
  unfolding records_of
  refused_count listing e f g = rw (e, f, ne_eqb (length listing) (count_in file) g)

  -- the newest faulty record: what the walk found of it, and that the walk finds it
  pub fault_reached : {n : Numbered} (w : FaultBefore rule file (length file - 8) n) → Reached rule file w.fault
  fault_reached w = record { some = w.some; newer = reverse w.newer; stand = w.stand; follow = follows_reverse rule w.newer w.follow }

  pub reached_fault : {n : Numbered} → Sized file → (place : ℕ) → Reached rule file place → ending_at rule file place ≡ refused n
      → records_before rule file (length file - 8) ≡ refused n
  reached_fault {n} s place w e =
      let end : ℕ = length file - 8 in
      let front : List ℕ = take place file in
      let listing : List LogRecord = reverse w.newer in
      let same : reverse listing ≡ w.newer = reverse-reverse w.newer in
      let sum : end ≡ length front + length (joined w.newer) = sym (length-take-le end file (omega arith)) ∙ ap length w.stand ∙ length-append front (joined w.newer) in
      let inside : length front ≡ place = length-take place file ∙ (omega (arith, s.long, length-take place file)) in
      let is : file ≡ front ++ (joined (reverse listing) ++ drop end file) =
      sym (take-append-drop end file) ∙ ap (λ (l : List ℕ). l ++ drop end file) w.stand ∙ append_assoc front (joined w.newer) (drop end file)
      ∙ ap (λ (l : List LogRecord). front ++ (joined l ++ drop end file)) (sym same) in
      let small : length (joined (reverse listing)) < 256 ^ 2 = rw same (omega (arith, s.agrees, s.within)) in
      let here : records_before rule file (length front) ≡ refused n =
      ap (records_before rule file) inside ∙ records_before_lem rule file place w.some ∙ ap (λ (a : Answered LogRecord). newest_of a (records_before rule file (start_at file place))) e ∙ newest_refused n (records_before rule file (start_at file place)) in
      ap (records_before rule file) (sum ∙ ap (λ (l : List LogRecord). length front + length (joined l)) (sym same))
      ∙ walk_through rule file front listing (drop end file) is (follows_reverse rule w.newer w.follow) small
      ∙ ap (after listing) here

  module _ (bytes : Bytes file) where
    pub found_fault : {n : Numbered} → records_before rule file (length file - 8) ≡ refused n → FaultBefore rule file (length file - 8) n
    unfolding records_before
    found_fault {n} e = subst (Walked rule file (length file - 8)) e (walked rule file bytes (length file - 8) (length file - 8) (omega arith) (omega arith))

    pub found_records : (listing : List LogRecord) → records_before rule file (length file - 8) ≡ served listing
        → (take (length file - 8) file ≡ joined (reverse listing)) × Follows rule listing
    unfolding records_before
    found_records listing e = subst (Walked rule file (length file - 8)) e (walked rule file bytes (length file - 8) (length file - 8) (omega arith) (omega arith))

  pub not_refused : Sized file → bad_total file ≡ false
  not_refused s = not_bad file s.long s.agrees s.within
