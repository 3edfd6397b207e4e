-- The marks of two whole logs. Assumes nothing.
use mathlib.Core.Path.{◌≡◌, refl, sym, ap, ◌∙◌}
use mathlib.Core.Logic.{◌⊎◌, inl, inr}
use mathlib.Core.Bool.{Bool, true, false}
use mathlib.Core.List.{List, [], ◌∷◌, ◌++◌, reverse, reverse-append, append_assoc, append-nil}
use Prim.Native.Nat.{ℕ, zero, suc, ◌+◌, ◌-◌, ◌≤◌, ◌<◌, min, max}
use native.Mathlib.Omega.{arith}
use lib.Dec.{ltb}
use lib.ListN.{length, take, drop, replicate, length-take, length-drop, length-append, length-reverse, length-replicate, take-append-drop}
use lib.Seq.{take_at, drop_at, drop-drop}
use borrow.Rule.Slice.PartMut.{post_of}
use borrow.Author.Tests.{lt-ltb, le-ltb, ltb-true, ltb-false, ne_eqb}
use Rattle.refusal.specs.Refusals.{Numbered, number, Answered, served, refused}
use Rattle.refusal.specs.Room.{overlay}
use Rattle.refusal.proofs.Order.{refused_not_served}
use Rattle.wire_log.specs.Log.{LogRecord, kinds}
use Rattle.wire_log.specs.Check.{counting, records_of}
use Rattle.wire_log.specs.Oldest.{records_to, LeavesOut}
use Rattle.wire_log.proofs.Turns.{Passed}
use Rattle.compare.specs.Compare.{marks_of, equal_places, marks_by, marks_in, laid_by, compare}
use Rattle.compare.specs.Private.{marks_to}
use Rattle.compare.proofs.MarkLaws.{marks-append, equal_append, length-marks}

-- a mark for each place
pub length_places : (xs ys : List LogRecord) → length (marks_of xs ys) ≡ max (length xs) (length ys)
unfolding marks_of
length_places [] [] = omega arith
length_places (x ∷ xs) [] = omega (arith, length_places xs [])
length_places [] (y ∷ ys) = omega (arith, length_places [] ys)
length_places (x ∷ xs) (y ∷ ys) = omega (arith, length_places xs ys)

-- past the end of a log
past_b : (vs : List LogRecord) → marks_of vs [] ≡ replicate (length vs) 2
unfolding marks_of
past_b [] = refl
past_b (v ∷ vs) = ap (λ (l : List ℕ). 2 ∷ l) (past_b vs)

past_a : (ws : List LogRecord) → marks_of [] ws ≡ replicate (length ws) 3
unfolding marks_of
past_a [] = refl
past_a (w ∷ ws) = ap (λ (l : List ℕ). 3 ∷ l) (past_a ws)

not_equal : (k value : ℕ) → (value ≡ 0 → ⊥) → equal_places (replicate k value) ≡ 0
unfolding equal_places
not_equal zero value h = refl
not_equal (suc k) value h = rw (ne_eqb value 0 h) (ap (λ (n : ℕ). 0 + n) (not_equal k value h))

-- records, the newest first, of which so many are left out: the others, the oldest first, stand before them
parted : (xs : List LogRecord) (k : ℕ) → reverse xs ≡ reverse (drop k xs) ++ reverse (take k xs)
parted xs k = ap reverse (sym (take-append-drop k xs)) ∙ reverse-append (take k xs) (drop k xs)

none_of : (xs : List LogRecord) → length xs ≡ 0 → xs ≡ []
none_of [] e = refl
none_of (x ∷ xs) e = absurd (omega arith)

-- the marks of what is past the end of the shorter list
abbrev surplus : ℕ → ℕ → List ℕ
surplus m n = replicate (m - n) 2 ++ replicate (n - m) 3

surplus-marks : (vs ws : List LogRecord) (m n : ℕ) → length vs ≡ m - n → length ws ≡ n - m → marks_of vs ws ≡ surplus m n
surplus-marks vs ws m n e f = go (ltb m n) refl
  where
    go : (t : Bool) → ltb m n ≡ t → marks_of vs ws ≡ surplus m n
    go true h =
        let l = ltb-true m n h in
        let none : m - n ≡ 0 = omega (arith, l) in
        ap (λ (x : List LogRecord). marks_of x ws) (none_of vs (e ∙ none)) ∙ past_a ws ∙ rw (none, f)
    go false h =
        let l = ltb-false m n h in
        let none : n - m ≡ 0 = omega (arith, l) in
        ap (marks_of vs) (none_of ws (f ∙ none)) ∙ past_b vs ∙ rw (none, e) (sym (append-nil (replicate (m - n) 2)))

pub surplus_differs : (m n : ℕ) → equal_places (surplus m n) ≡ 0
surplus_differs m n =
    equal_append (replicate (m - n) 2) (replicate (n - m) 3)
    ∙ omega (arith, not_equal (m - n) 2 (λ z. omega arith), not_equal (n - m) 3 (λ z. omega arith))

-- two lists, the newest first, by their records up to the end of the shorter
whole_is : (xs ys : List LogRecord) (m n : ℕ) → m ≡ length xs → n ≡ length ys
    → (length (reverse (drop (m - min m n) xs)) ≡ min m n) × (length (reverse (drop (n - min m n) ys)) ≡ min m n)
    × (marks_of (reverse xs) (reverse ys) ≡ marks_of (reverse (drop (m - min m n) xs)) (reverse (drop (n - min m n) ys)) ++ surplus m n)
whole_is xs ys m n e f =
    let j : ℕ = m - min m n in
    let k : ℕ = n - min m n in
    let u : length (reverse (drop j xs)) ≡ min m n = length-reverse (drop j xs) ∙ length-drop j xs ∙ omega (arith, e) in
    let v : length (reverse (drop k ys)) ≡ min m n = length-reverse (drop k ys) ∙ length-drop k ys ∙ omega (arith, f) in
    let s : length (reverse (take j xs)) ≡ m - n = length-reverse (take j xs) ∙ length-take j xs ∙ omega (arith, e) in
    let t : length (reverse (take k ys)) ≡ n - m = length-reverse (take k ys) ∙ length-take k ys ∙ omega (arith, f) in (
      u,
      v,
      (λ i. marks_of (parted xs j i) (parted ys k i))
          ∙ marks-append (reverse (drop j xs)) (reverse (take j xs)) (reverse (drop k ys)) (reverse (take k ys)) (u ∙ sym v)
          ∙ ap (λ (l : List ℕ). marks_of (reverse (drop j xs)) (reverse (drop k ys)) ++ l) (surplus-marks (reverse (take j xs)) (reverse (take k ys)) m n s t),
    )

-- the mark that the code gives all of these
abbrev pub Past : ℕ → ℕ → ℕ → Type 0
Past m n past = ((m < n) × (past ≡ 3)) ⊎ ((n ≤ m) × (past ≡ 2))

past_is : (m n past : ℕ) → Past m n past → replicate (max m n - min m n) past ≡ surplus m n
past_is m n past (inl h) =
    let none : m - n ≡ 0 = omega (arith, h.0) in
    let many : max m n - min m n ≡ n - m = omega (arith, h.0) in
    rw (none, many, h.1)
past_is m n past (inr h) =
    let none : n - m ≡ 0 = omega (arith, h.0) in
    let many : max m n - min m n ≡ m - n = omega (arith, h.0) in
    rw (none, many, h.1) (sym (append-nil (replicate (m - n) 2)))

-- two parts of the room written one after the other
two_parts : (room xs ys : List ℕ) (j k : ℕ) → length xs ≡ j → length ys ≡ k
    → take j (xs ++ drop j room) ++ (ys ++ post_of j k (xs ++ drop j room)) ≡ overlay room 0 (xs ++ ys)
unfolding overlay
two_parts room xs ys j k e f =
    let front : take j (xs ++ drop j room) ≡ xs = take_at xs (drop j room) j e in
    let back : post_of j k (xs ++ drop j room) ≡ drop (0 + length (xs ++ ys)) room =
    ap (drop k) (drop_at xs (drop j room) j e) ∙ drop-drop k j room ∙ ap (λ (n : ℕ). drop n room) (omega (arith, e, f, length-append xs ys)) in
    rw (front, back) (sym (append_assoc xs ys (drop (0 + length (xs ++ ys)) room)))

-- two logs that passed their checks
module _ (a b : List ℕ) (m n : ℕ) (x : Passed kinds a m) (y : Passed kinds b n) where
  abbrev whole : List ℕ
  whole = marks_of (reverse x.listing) (reverse y.listing)

  length_whole : length whole ≡ max m n
  length_whole =
      length_places (reverse x.listing) (reverse y.listing)
      ∙ omega (arith, length-reverse x.listing, length-reverse y.listing, x.many, y.many)

  compared : (room : List ℕ) → laid_by (served whole) room ≡ compare a b room
  unfolding compare marks_in
  compared room = (λ i. laid_by (marks_by (sym x.is i) (sym y.is i)) room)

  pub no_room : (room : List ℕ) (places : ℕ) → places ≡ max m n → length room < places → (refused (number 1), room) ≡ compare a b room
  no_room room places e h = rw (lt-ltb (length room) (length whole) (omega (arith, length_whole))) at (compared room)

  -- the places up to which the records of both are looked at
  module _ (p q both : ℕ) (e : both ≡ min m n) (out-a : LeavesOut kinds a (length a - 8) (m - both) p) (out-b : LeavesOut kinds b (length b - 8) (n - both) q) where
    older_a : records_to kinds a p ≡ drop (m - min m n) x.listing
    older_a = out-a.1 (omega arith) ∙ (λ i. drop (m - e i) (x.before i))

    older_b : records_to kinds b q ≡ drop (n - min m n) y.listing
    older_b = out-b.1 (omega arith) ∙ (λ i. drop (n - e i) (y.before i))

    pub many_a : both ≡ length (records_to kinds a p)
    many_a = omega (arith, ap (λ (l : List LogRecord). length l) older_a, length-drop (m - min m n) x.listing, x.many, e)

    pub many_b : both ≡ length (records_to kinds b q)
    many_b = omega (arith, ap (λ (l : List LogRecord). length l) older_b, length-drop (n - min m n) y.listing, y.many, e)

    split : whole ≡ marks_to a p b q ++ surplus m n
    unfolding marks_to
    split = (whole_is x.listing y.listing m n x.many y.many).2 ∙ (λ i. marks_of (reverse (sym older_a i)) (reverse (sym older_b i)) ++ surplus m n)

    length-first : length (marks_to a p b q) ≡ min m n
    unfolding marks_to
    length-first =
        length-marks (reverse (records_to kinds a p)) (reverse (records_to kinds b q))
        (length-reverse (records_to kinds a p) ∙ sym many_a ∙ many_b ∙ sym (length-reverse (records_to kinds b q)))
        ∙ length-reverse (records_to kinds a p) ∙ sym many_a ∙ e

    equal_whole : equal_places whole ≡ equal_places (marks_to a p b q)
    equal_whole = ap equal_places split ∙ equal_append (marks_to a p b q) (surplus m n) ∙ omega (arith, surplus_differs m n)

    pub all_marked : (room : List ℕ) (places past : ℕ) → places ≡ max m n → places ≤ length room → Past m n past
        → {same : ℕ} {marks filled : List ℕ} → (same ≡ equal_places (marks_to a p b q)) × (marks ≡ marks_to a p b q)
        → filled ≡ replicate (length (take (places - both) (drop both (marks ++ drop both room)))) past
        → (served (places, same), take both (marks ++ drop both room) ++ (filled ++ post_of both (places - both) (marks ++ drop both room))) ≡ compare a b room
    all_marked room places past f h pasts {same} {marks} {filled} g k =
        let size : length marks ≡ both = ap (λ (l : List ℕ). length l) g.1 ∙ length-first ∙ sym e in
        let there : length (take (places - both) (drop both (marks ++ drop both room))) ≡ places - both =
        simp (length-take, length-drop, length-append) (omega (arith, size, e, f, h)) in
        let j : filled ≡ replicate (places - both) past = k ∙ ap (λ (n : ℕ). replicate n past) there in
        let long : length filled ≡ places - both = ap (λ (l : List ℕ). length l) j ∙ length-replicate (places - both) past in
        let parts : marks ++ filled ≡ whole =
        (λ i. g.1 i ++ j i) ∙ ap (λ (k : ℕ). marks_to a p b q ++ replicate k past) (omega (arith, e, f))
        ∙ ap (λ (l : List ℕ). marks_to a p b q ++ l) (past_is m n past pasts) ∙ sym split in
        let room-is : take both (marks ++ drop both room) ++ (filled ++ post_of both (places - both) (marks ++ drop both room)) ≡ overlay room 0 whole =
        two_parts room marks filled both (places - both) size long ∙ ap (overlay room 0) parts in
        let equal : same ≡ equal_places whole = g.0 ∙ sym equal_whole in
        let many : places ≡ length whole = f ∙ sym length_whole in
        (λ i. (served (many i, equal i), room-is i))
        ∙ rw (le-ltb (length room) (length whole) (omega (arith, many, h))) at (compared room)

-- the comparison where a log is bad
module _ (a b room : List ℕ) where
  pub first_bad : {n : Numbered} → refused n ≡ counting (records_of kinds a) → (refused n, room) ≡ compare a b room
  unfolding compare marks_in
  first_bad h = go (records_of kinds a) (records_of kinds b) h
    where
      go : {n : Numbered} (p q : Answered (List LogRecord)) → refused n ≡ counting p → (refused n, room) ≡ laid_by (marks_by p q) room
      go (served listing) q e = absurd (refused_not_served e)
      go {n = k} (refused n) (served ys) e = let z : k ≡ n = cc in rw z
      go {n = k} (refused n) (refused m) e = let z : k ≡ n = cc in rw z

  pub second_bad : (m : ℕ) → served m ≡ counting (records_of kinds a) → {n : Numbered} → refused n ≡ counting (records_of kinds b)
      → (refused n, room) ≡ compare a b room
  unfolding compare marks_in
  second_bad m good h = go (records_of kinds a) (records_of kinds b) good h
    where
      go : {n : Numbered} (p q : Answered (List LogRecord)) → served m ≡ counting p → refused n ≡ counting q
          → (refused n, room) ≡ laid_by (marks_by p q) room
      go (refused n) q d e = absurd (refused_not_served (sym d))
      go (served xs) (served listing) d e = absurd (refused_not_served e)
      go {n = k} (served xs) (refused n) d e = let z : k ≡ n = cc in rw z
