-- The check: what it serves is the file of the records, and the file of good records is served. Assumes nothing.
use mathlib.Core.Path.{◌≡◌, refl, sym, ap, subst, ◌∙◌}
use mathlib.Core.Bool.{Bool, true, false, cond, not, ◌||◌, true≢false}
use mathlib.Core.Logic.{◌⊎◌, inl, inr}
use mathlib.Core.List.{List, [], ◌∷◌, ◌++◌, append_assoc, append-nil, reverse, reverse-reverse}
use Prim.Native.Nat.{ℕ, ◌+◌, ◌-◌, ◌^◌, ◌≤◌, ◌<◌}
use native.Mathlib.Nat.{zero-add}
use native.Mathlib.Omega.{arith}
use lib.Dec.{ltb, eqb}
use lib.ListN.{length, take, drop, length-append, length-drop, length-reverse, take-append-drop}
use lib.Seq.{take_at, drop_at, drop-drop, length-take-le, take_all}
use borrow.Author.Tests.{lt-ltb, le-ltb, ltb-true, ltb-false, eq-eqb, ne_eqb, eqb-true, eqb-false}
use Rattle.refusal.specs.Refusals.{number, Answered, served, refused}
use Rattle.refusal.proofs.Order.{refused_not_served}
use Rattle.payload.specs.Field.{big, big_endian, Bytes}
use Rattle.payload.proofs.Big.{length-big_endian, big_of_big_endian, big_endian_of_big, drop-bytes, take-bytes}
use Rattle.wire_log.specs.Log.{LogRecord, Rule, joined, closing, log_of, Follows, Good, most}
use Rattle.wire_log.specs.Check.{records_before, count_in, total_in, bad_total, counted, records_of}
use Rattle.wire_log.specs.Logs.{Sized}
use Rattle.wire_log.proofs.Trailer.{length_record}
use Rattle.wire_log.proofs.Walk.{follows_reverse, none_before, walk_through, after, Walked, walked}

-- no record is shorter than its trailer
pub records_short : (records : List LogRecord) → length records ≤ length (joined records)
unfolding joined
records_short [] = omega arith
records_short (r ∷ records) = simp (length-append, length_record) (omega (arith, records_short records))

pub length-closing : (count total : ℕ) → length (closing count total) ≡ 8
unfolding closing
length-closing count total = simp (length-append, length-big_endian)

pub length_log : (records : List LogRecord) → length (log_of records) ≡ length (joined records) + 8
unfolding log_of
length_log records = simp (length-append, length-closing)

-- the closing bytes of a file, read
module _ (front : List ℕ) (count total : ℕ) (file : List ℕ) (is : file ≡ front ++ closing count total) where
  size : length file ≡ length front + 8
  size = ap length is ∙ simp (length-append, length-closing)

  pub count_of : count < 256 ^ 4 → count_in file ≡ count
  unfolding count_in closing
  count_of h =
      let at_front : length front ≡ length file - 8 = omega (arith, size) in
      let here : drop (length file - 8) file ≡ big_endian 4 count ++ big_endian 4 total =
      ap (drop (length file - 8)) is ∙ drop_at front _ (length file - 8) at_front in
      ap (λ (l : List ℕ). big (take 4 l)) here ∙ ap big (take_at (big_endian 4 count) _ 4 (length-big_endian 4 count)) ∙ big_of_big_endian 4 count h

  pub total_of : total < 256 ^ 4 → total_in file ≡ total
  unfolding total_in closing
  total_of h =
      let before : List ℕ = front ++ big_endian 4 count in
      let at-total : length before ≡ length file - 4 = simp (length-append, length-big_endian) (omega (arith, size)) in
      let here : drop (length file - 4) file ≡ big_endian 4 total =
      ap (drop (length file - 4)) (is ∙ sym (append_assoc front (big_endian 4 count) (big_endian 4 total))) ∙ drop_at before (big_endian 4 total) (length file - 4) at-total in
      ap (λ (l : List ℕ). big (take 4 l)) here
      ∙ ap big (take_all 4 (big_endian 4 total) (let z : length (big_endian 4 total) ≤ 4 = omega (arith, length-big_endian 4 total) in z))
      ∙ big_of_big_endian 4 total h

-- and the other way
pub closing_is : (file : List ℕ) → Bytes file → 8 ≤ length file → drop (length file - 8) file ≡ closing (count_in file) (total_in file)
unfolding count_in total_in closing
closing_is file bytes h =
    let l : List ℕ = drop (length file - 8) file in
    let m : List ℕ = drop (length file - 4) file in
    let long : length l ≡ 8 = simp length-drop (omega arith) in
    let short : length m ≡ 4 = simp length-drop (omega arith) in
    let next : drop 4 l ≡ m = drop-drop 4 (length file - 8) file ∙ ap (λ (n : ℕ). drop n file) (let z : length file - 8 + 4 ≡ length file - 4 = omega arith in z) in
    let first : big_endian 4 (big (take 4 l)) ≡ take 4 l = field-bytes l (drop-bytes (length file - 8) file bytes) (omega arith) in
    let last : big_endian 4 (big (take 4 m)) ≡ take 4 m = field-bytes m (drop-bytes (length file - 4) file bytes) (omega arith) in
    sym (take-append-drop 4 l) ∙ ap (λ (x : List ℕ). take 4 l ++ x) (next ∙ sym (take_all 4 m (let z : length m ≤ 4 = omega arith in z)))
    ∙ sym (ap (λ (x : List ℕ). x ++ big_endian 4 (big (take 4 m))) first ∙ ap (λ (x : List ℕ). take 4 l ++ x) last)
  where
    field-bytes : (l : List ℕ) → Bytes l → 4 ≤ length l → big_endian 4 (big (take 4 l)) ≡ take 4 l
    field-bytes l b g =
        subst (λ (n : ℕ). big_endian n (big (take 4 l)) ≡ take 4 l) (length-take-le 4 l g) (big_endian_of_big (take 4 l) (take-bytes 4 l b))

-- 20, test by test
module _ (file : List ℕ) where
  pub bad_short : length file < 8 → bad_total file ≡ true
  unfolding bad_total
  bad_short h = rw (lt-ltb _ _ h)

  pub bad_differs : (total_in file ≡ length file - 8 → ⊥) → bad_total file ≡ true
  unfolding bad_total
  bad_differs h = go (ltb (length file) 8)
    where
      go : (t : Bool) → (t || (not (eqb (total_in file) (length file - 8)) || ltb most (total_in file))) ≡ true
      go true = refl
      go false = rw (ne_eqb _ _ h)

  pub bad_over : most < total_in file → bad_total file ≡ true
  unfolding bad_total
  bad_over h = go (ltb (length file) 8) (not (eqb (total_in file) (length file - 8)))
    where
      go : (t u : Bool) → (t || (u || ltb most (total_in file))) ≡ true
      go true u = refl
      go false true = refl
      go false false = rw (lt-ltb _ _ h)

  pub not_bad : 8 ≤ length file → total_in file ≡ length file - 8 → total_in file ≤ most → bad_total file ≡ false
  unfolding bad_total
  not_bad h e m = rw (le-ltb _ _ h, eq-eqb _ _ e, le-ltb _ _ m)

  -- and the other way
  pub missized : bad_total file ≡ true → (length file < 8) ⊎ ((total_in file ≡ length file - 8 → ⊥) ⊎ (most < total_in file))
  unfolding bad_total
  missized = go (ltb (length file) 8) refl (eqb (total_in file) (length file - 8)) refl (ltb most (total_in file)) refl
    where
      go : (t : Bool) → ltb (length file) 8 ≡ t → (u : Bool) → eqb (total_in file) (length file - 8) ≡ u → (v : Bool) → ltb most (total_in file) ≡ v
          → (t || (not u || v)) ≡ true → (length file < 8) ⊎ ((total_in file ≡ length file - 8 → ⊥) ⊎ (most < total_in file))
      go true e u f v g h = inl (ltb-true _ _ e)
      go false e false f v g h = inr (inl (eqb-false _ _ f))
      go false e true f true g h = inr (inr (ltb-true _ _ g))
      go false e true f false g h = absurd (true≢false (sym h))

  pub sized : bad_total file ≡ false → Sized file
  unfolding bad_total
  sized = go (ltb (length file) 8) refl (eqb (total_in file) (length file - 8)) refl (ltb most (total_in file)) refl
    where
      go : (t : Bool) → ltb (length file) 8 ≡ t → (u : Bool) → eqb (total_in file) (length file - 8) ≡ u → (v : Bool) → ltb most (total_in file) ≡ v
          → (t || (not u || v)) ≡ false → Sized file
      go true e u f v g h = absurd (true≢false h)
      go false e false f v g h = absurd (true≢false h)
      go false e true f true g h = absurd (true≢false h)
      go false e true f false g h = record { long = ltb-false _ _ e; agrees = eqb-true _ _ f; within = ltb-false _ _ g }

pub log_is : (records : List LogRecord) → log_of records ≡ joined records ++ closing (length records) (length (joined records))
unfolding log_of
log_is records = refl

module _ (rule : Rule) where
  pub follows_listing : (listing : List LogRecord) → Follows rule (reverse listing) → Follows rule listing
  follows_listing listing f = subst (Follows rule) (reverse-reverse listing) (follows_reverse rule (reverse listing) f)

  -- records that tile a file's start
  pub tile : (file : List ℕ) (listing : List LogRecord) (tail : List ℕ) → file ≡ joined (reverse listing) ++ tail → Follows rule (reverse listing)
      → length (joined (reverse listing)) ≤ most → records_before rule file (length (joined (reverse listing))) ≡ served listing
  tile file listing tail e f h =
      let small : length (joined (reverse listing)) < 256 ^ 2 = omega arith in
      sym (ap (records_before rule file) (zero-add (length (joined (reverse listing)))))
      ∙ walk_through rule file [] listing tail e (follows_listing listing f) small
      ∙ ap (after listing) (none_before rule file)
      ∙ ap served (append-nil listing)

  -- what is written is listed
  listing_back : (listing : List LogRecord) → Good rule (reverse listing) → records_of rule (log_of (reverse listing)) ≡ served listing
  unfolding records_of
  listing_back listing good =
      let records : List LogRecord = reverse listing in
      let file : List ℕ = log_of records in
      let total : ℕ = length (joined records) in
      let is : file ≡ joined records ++ closing (length records) total = log_is records in
      let within : total ≤ most = good.within in
      let small : total < 256 ^ 4 = omega arith in
      let few : length records < 256 ^ 4 = omega (arith, records_short records) in
      let said : total_in file ≡ total = total_of (joined records) (length records) total file is small in
      let count : length listing ≡ count_in file = sym (count_of (joined records) (length records) total file is few ∙ length-reverse listing) in
      let place : length file - 8 ≡ total = omega (arith, length_log records) in
      let agrees : total_in file ≡ length file - 8 = said ∙ sym place in
      let tiled : records_before rule file (length file - 8) ≡ served listing =
      ap (records_before rule file) place ∙ tile file listing (closing (length records) total) is good.follows within in
      let long : 8 ≤ length file = omega (arith, length_log records) in
      let most-said : total_in file ≤ most = omega arith in
      rw (not_bad file long agrees most-said, tiled, eq-eqb (length listing) (count_in file) count)

  pub log_listed : (records : List LogRecord) → Good rule records → records_of rule (log_of records) ≡ served (reverse records)
  log_listed records good =
      subst (λ (l : List LogRecord). records_of rule (log_of l) ≡ served (reverse records)) (reverse-reverse records)
      (listing_back (reverse records) (subst (Good rule) (sym (reverse-reverse records)) good))

  -- and the other way: the check's answer, case by case
  pub check_served : (file : List ℕ) (listing : List LogRecord) → records_of rule file ≡ served listing
      → (bad_total file ≡ false) × (records_before rule file (length file - 8) ≡ served listing) × (length listing ≡ count_in file)
  unfolding records_of
  check_served file listing = go (bad_total file) refl (records_before rule file (length file - 8)) refl
    where
      counting : (t : Bool) (l : List LogRecord) → eqb (length l) (count_in file) ≡ t
          → cond t (served l) (refused (number 23)) ≡ served listing → (l ≡ listing) × (length listing ≡ count_in file)
      counting true l e h = let z : l ≡ listing = cc in (z, ap length (sym z) ∙ eqb-true _ _ e)
      counting false l e h = absurd (refused_not_served h)

      go : (t : Bool) → bad_total file ≡ t → (a : Answered (List LogRecord)) → records_before rule file (length file - 8) ≡ a
          → cond t (refused (number 20)) (counted (count_in file) a) ≡ served listing
          → (t ≡ false) × (a ≡ served listing) × (length listing ≡ count_in file)
      go true e a f h = absurd (refused_not_served h)
      go false e (refused n) f h = absurd (refused_not_served h)
      go false e (served l) f h = let c = counting (eqb (length l) (count_in file)) l refl h in (refl, ap served c.0, c.1)

  pub listed_is : (file : List ℕ) → Bytes file → (listing : List LogRecord) → records_of rule file ≡ served listing
      → Good rule (reverse listing) × (file ≡ log_of (reverse listing))
  unfolding records_before
  listed_is file bytes listing e =
      let c = check_served file listing e in
      let f = sized file c.0 in
      let place : ℕ = length file - 8 in
      let inside : place ≤ length file = omega arith in
      let w : Walked rule file place (served listing) = subst (Walked rule file place) c.1 (walked rule file bytes place place (omega arith) inside) in
      let total : length (joined (reverse listing)) ≡ place = ap length (sym w.0) ∙ length-take-le place file inside in
      let count : length (reverse listing) ≡ count_in file = length-reverse listing ∙ c.2 in (
        record {
          follows = follows_reverse rule listing w.1;
          within = omega (arith, total, f.agrees, f.within);
        },
        sym (take-append-drop place file)
            ∙ rw (w.0, closing_is file bytes f.long, ← count, f.agrees, ← total) (sym (log_is (reverse listing))),
      )
