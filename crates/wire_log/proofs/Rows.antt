-- The rows of a list, as the code lays them. Assumes nothing.
use mathlib.Core.Path.{◌≡◌, refl, sym, ap, ◌∙◌}
use mathlib.Core.List.{List, [], ◌∷◌}
use Prim.Native.Nat.{ℕ, zero, suc, ◌+◌, ◌-◌, ◌*◌, ◌/◌, min, ◌≤◌, ◌<◌}
use native.Mathlib.Omega.{arith}
use lib.ListN.{length, take, drop, set, length-take, length-drop, drop_of_length-le}
use lib.Seq.{length-take-le}
use borrow.Author.Tests.{lt-ltb, le-ltb}
use Rattle.refusal.specs.Refusals.{Numbered, number, Answered, served, refused}
use Rattle.refusal.specs.Room.{overlay}
use Rattle.refusal.proofs.Order.{refused_not_served}
use Rattle.refusal.proofs.Room.{overlay_nothing, overlay_then, length-overlay, set-overlay, set-two}
use Rattle.wire_log.specs.Log.{LogRecord, Rule}
use Rattle.wire_log.specs.Check.{records_before, counting, records_of}
use Rattle.wire_log.specs.Listing.{Row, rows_of, numbers_of, lay_rows, list_from, list}
use Rattle.wire_log.specs.Private.{shown}
use Rattle.wire_log.proofs.Turns.{Turn, passed}

-- three stores are a row
pub set-row : (room : List ℕ) (place a b c : ℕ) → place + 3 ≤ length room
    → set (set (set room place a) (place + 1) b) (place + 2) c ≡ overlay room place (a ∷ b ∷ c ∷ [])
set-row room place a b c h =
    let two : set (set room place a) (place + 1) b ≡ overlay room place (a ∷ b ∷ []) = set-two room place a b (omega arith) in
    let size : length (overlay room place (a ∷ b ∷ [])) ≡ length room = length-overlay room place (a ∷ b ∷ []) (omega arith) in
    rw two (set-overlay (overlay room place (a ∷ b ∷ [])) (place + 2) c (omega arith)
    ∙ overlay_then room place (a ∷ b ∷ []) (c ∷ []) (place + 2) (omega arith) refl)

pub length-rows : (records : List LogRecord) → length (rows_of records) ≡ length records
unfolding rows_of
length-rows [] = refl
length-rows (r ∷ older) = ap suc (length-rows older)

pub rows_drop : (n : ℕ) (records : List LogRecord) → rows_of (drop n records) ≡ drop n (rows_of records)
unfolding rows_of
rows_drop zero records = refl
rows_drop (suc n) [] = refl
rows_drop (suc n) (r ∷ older) = rows_drop n older

-- a loop that lays rows: one more, and the end
module _ (rule : Rule) (file : List ℕ) where
  abbrev rows_at : ℕ → ℕ → List ℕ
  rows_at n place = numbers_of (take n (rows_of (shown (records_before rule file place))))

  pub rows_start : (rows : List ℕ) (n place : ℕ) → overlay rows (3 * 0) (rows_at (n - 0) place) ≡ overlay rows 0 (rows_at n place)
  rows_start rows n place = let e : n - 0 ≡ n = omega arith in rw e

  pub rows_more : (rows : List ℕ) (i n place : ℕ) {kind start size : ℕ} → i < n → place ≤ length file → 3 * i ≤ length rows → Turn rule file place kind start size
      → overlay (overlay rows (3 * i) (kind ∷ start ∷ size ∷ [])) (3 * (i + 1)) (rows_at (n - (i + 1)) start) ≡ overlay rows (3 * i) (rows_at (n - i) place)
  unfolding rows_of numbers_of
  rows_more rows i n place {kind} {start} {size} h inside room t =
      let left : n - i ≡ suc (n - (i + 1)) = omega arith in
      let there : length (take size (drop start file)) ≡ size = length-take-le size (drop start file) (simp length-drop (omega (arith, t.ends))) in
      overlay_then rows (3 * i) (kind ∷ start ∷ size ∷ []) (rows_at (n - (i + 1)) start) (3 * (i + 1)) room (omega arith)
      ∙ ap (overlay rows (3 * i)) (sym (rw (left, t.newest, there, ← t.begins)))

  pub rows-over : (rows : List ℕ) (i n place : ℕ) → n ≤ i → overlay rows (3 * i) (rows_at (n - i) place) ≡ rows
  unfolding numbers_of
  rows-over rows i n place h = let e : n - i ≡ 0 = omega arith in rw e (overlay_nothing rows (3 * i))

-- as many as there are, or as fit
pub take_to : {A : Type 0} (n k : ℕ) (l : List A) → n ≡ min k (length l) → take n l ≡ take k l
take_to zero zero [] e = refl
take_to zero (suc k) [] e = refl
take_to (suc n) k [] e = absurd (omega arith)
take_to zero zero (x ∷ l) e = refl
take_to zero (suc k) (x ∷ l) e = absurd (omega arith)
take_to (suc n) zero (x ∷ l) e = absurd (omega arith)
take_to (suc n) (suc k) (x ∷ l) e = ap (λ (z : List _). x ∷ z) (take_to n k l (omega arith))

-- rows in lent room
module _ (rows : List Row) (room : List ℕ) (some : 0 < length rows) where
  pub lay_short : length room < 3 → lay_rows rows room ≡ (refused (number 1), room)
  unfolding lay_rows
  lay_short h = go rows some
    where
      go : (rows : List Row) → 0 < length rows → lay_rows rows room ≡ (refused (number 1), room)
      go [] k = absurd (omega arith)
      go (row ∷ rows) k = rw (lt-ltb (length room) 3 h)

  pub lay_some : 3 ≤ length room
      → lay_rows rows room ≡ (served (length (take (length room / 3) rows)), overlay room 0 (numbers_of (take (length room / 3) rows)))
  unfolding lay_rows
  lay_some h = go rows some
    where
      go : (rows : List Row) → 0 < length rows
          → lay_rows rows room ≡ (served (length (take (length room / 3) rows)), overlay room 0 (numbers_of (take (length room / 3) rows)))
      go [] k = absurd (omega arith)
      go (row ∷ rows) k = rw (le-ltb (length room) 3 h)

-- the answers of a list, case by case
module _ (rule : Rule) (file : List ℕ) (skip : ℕ) (room : List ℕ) where
  pub list_refused : {n : Numbered} → refused n ≡ counting (records_of rule file) → (refused n, room) ≡ list rule file skip room
  unfolding list
  list_refused h = go (records_of rule file) h
    where
      go : {n : Numbered} (a : Answered (List LogRecord)) → refused n ≡ counting a → (refused n, room) ≡ list_from a skip room
      go (served records) e = absurd (refused_not_served e)
      go {n = m} (refused n) e = let z : m ≡ n = cc in rw z

  module _ (count : ℕ) (checked : served count ≡ counting (records_of rule file)) where
    lists : list rule file skip room ≡ lay_rows (drop skip (rows_of (passed rule file count checked).listing)) room
    unfolding list
    lists = ap (λ (a : Answered (List LogRecord)). list_from a skip room) (passed rule file count checked).is

    pub list_past : count ≤ skip → (served 0, room) ≡ list rule file skip room
    unfolding lay_rows
    list_past h =
        let p = passed rule file count checked in
        let none : length (rows_of p.listing) ≤ skip = omega (arith, p.many, length-rows p.listing) in
        sym (lists ∙ ap (λ (l : List Row). lay_rows l room) (drop_of_length-le (rows_of p.listing) none))

    module _ (some : skip < count) where
      left_is : length (drop skip (rows_of (passed rule file count checked).listing)) ≡ count - skip
      left_is = simp length-drop (omega (arith, (passed rule file count checked).many, length-rows (passed rule file count checked).listing))

      pub list_short : length room < 3 → (refused (number 1), room) ≡ list rule file skip room
      list_short h = sym (lists ∙ lay_short (drop skip (rows_of (passed rule file count checked).listing)) room (omega (arith, left_is)) h)

      -- the rows to be laid are there, and fit
      pub list_fits : (n place : ℕ) → n ≡ min (length room / 3) (count - skip) → place ≤ length file - 8
          → shown (records_before rule file place) ≡ drop skip (shown (records_before rule file (length file - 8)))
          → (place ≤ 65000) × (place ≤ length file) × (n ≤ length (shown (records_before rule file place))) × (3 * n ≤ length room)
      list_fits n place e h f =
          let p = passed rule file count checked in
          let left : length (shown (records_before rule file place)) ≡ length p.listing - skip = ap length (f ∙ ap (drop skip) p.before) ∙ length-drop skip p.listing in
          (omega (arith, p.short), omega arith, omega (arith, p.many), omega arith)

      pub list_done : (n place : ℕ) {after : List ℕ} → 3 ≤ length room → n ≡ min (length room / 3) (count - skip)
          → shown (records_before rule file place) ≡ drop skip (shown (records_before rule file (length file - 8)))
          → after ≡ overlay room 0 (rows_at rule file n place) → (served n, after) ≡ list rule file skip room
      list_done n place {after} h e f g =
          let p = passed rule file count checked in
          let l : List Row = drop skip (rows_of p.listing) in
          let rows : rows_of (shown (records_before rule file place)) ≡ l = ap rows_of (f ∙ ap (drop skip) p.before) ∙ rows_drop skip p.listing in
          let least : n ≡ min (length room / 3) (length l) = rw left_is e in
          let cut : take n l ≡ take (length room / 3) l = take_to n (length room / 3) l least in
          let many : n ≡ length (take (length room / 3) l) = least ∙ sym (length-take (length room / 3) l) in
          let laid : after ≡ overlay room 0 (numbers_of (take (length room / 3) l)) = g ∙ ap (λ (x : List Row). overlay room 0 (numbers_of (take n x))) rows ∙ ap (λ (x : List Row). overlay room 0 (numbers_of x)) cut in
          sym (lists ∙ lay_some l room (omega (arith, left_is)) h ∙ rw (← laid, ← many))
