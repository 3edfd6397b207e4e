-- A log listed part after part. Assumes nothing.
use mathlib.Core.Path.{◌≡◌, refl, sym, ap, ◌∙◌}
use mathlib.Core.Bool.{Bool, true, false, cond}
use mathlib.Core.List.{List, [], ◌∷◌, ◌++◌, append_assoc, map, reverse}
use Prim.Native.Nat.{ℕ, zero, suc, ◌+◌, ◌-◌, ◌*◌, ◌/◌, min, ◌≤◌, ◌<◌}
use native.Mathlib.Omega.{arith}
use lib.Dec.{ltb}
use lib.ListN.{length, take, drop, length-take, length-drop}
use lib.Seq.{take_at, drop_at, take-add, drop-drop}
use Rattle.refusal.specs.Refusals.{Numbered, number, Answered, served, refused}
use Rattle.refusal.specs.Room.{overlay}
use Rattle.refusal.proofs.Room.{take-overlay}
use Rattle.payload.specs.Field.{big_endian}
use Rattle.wire_log.specs.Log.{LogRecord, Rule, recorded, record_bytes, joined}
use Rattle.wire_log.specs.Check.{records_of}
use Rattle.wire_log.specs.Listing.{Row, rows_of, numbers_of, lay_rows, list_from, list}
use Rattle.wire_log.specs.Logs.{record_in, rows_in, laid_in, listed_on}
use Rattle.wire_log.proofs.Walk.{joined_newest}
use Rattle.wire_log.proofs.Rows.{length-rows, lay_some}

-- a record between other bytes, by its place and length
body_of : (front tail : List ℕ) (r : LogRecord) → take (length r.body) (drop (length front) (front ++ (record_bytes r ++ tail))) ≡ r.body
unfolding record_bytes
body_of front tail r =
    ap (take (length r.body)) (drop_at front (record_bytes r ++ tail) (length front) refl ∙ append_assoc r.body (r.kind ∷ big_endian 2 (length r.body)) tail)
    ∙ take_at r.body ((r.kind ∷ big_endian 2 (length r.body)) ++ tail) (length r.body) refl

-- the rows of records that stand at a file's start lead to them
pub rows_lead : (file : List ℕ) (listing : List LogRecord) (tail : List ℕ) → file ≡ joined (reverse listing) ++ tail
    → map (record_in file) (rows_of listing) ≡ listing
unfolding rows_of
rows_lead file [] tail e = refl
rows_lead file (r ∷ older) tail e =
    let front : List ℕ = joined (reverse older) in
    let is : file ≡ front ++ (record_bytes r ++ tail) = e ∙ ap (λ (l : List ℕ). l ++ tail) (joined_newest r older) ∙ append_assoc front (record_bytes r) tail in
    let here : take (length r.body) (drop (length front) file) ≡ r.body = ap (λ (l : List ℕ). take (length r.body) (drop (length front) l)) is ∙ body_of front tail r in
    ap (λ (b : List ℕ). recorded r.kind b ∷ map (record_in file) (rows_of older)) here
    ∙ ap (λ (l : List LogRecord). r ∷ l) (rows_lead file older (record_bytes r ++ tail) is)

length_numbers : (rows : List Row) → length (numbers_of rows) ≡ 3 * length rows
unfolding numbers_of
length_numbers [] = refl
length_numbers (row ∷ rows) = omega (arith, length_numbers rows)

numbers_append : (xs ys : List Row) → numbers_of (xs ++ ys) ≡ numbers_of xs ++ numbers_of ys
unfolding numbers_of
numbers_append [] ys = refl
numbers_append (x ∷ xs) ys = rw (numbers_append xs ys)

-- so many, and as many as that gives
pub take-length : {A : Type 0} (n : ℕ) (xs : List A) → take (length (take n xs)) xs ≡ take n xs
take-length zero xs = refl
take-length (suc n) [] = refl
take-length (suc n) (x ∷ xs) = ap (λ (l : List _). x ∷ l) (take-length n xs)

-- what a call laid are the first of the rows that it was to list
module _ (rows : List Row) (room : List ℕ) where
  pub laid-rows : laid_in (lay_rows rows room) ≡ numbers_of (take (rows_in (lay_rows rows room).0) rows)
  unfolding lay_rows numbers_of
  laid-rows = go rows
    where
      go : (rows : List Row) → laid_in (lay_rows rows room) ≡ numbers_of (take (rows_in (lay_rows rows room).0) rows)
      go [] = refl
      go (row ∷ rows) = cases (ltb (length room) 3)
        where
          cases : (t : Bool)
              → laid_in (cond {A = Answered ℕ × List ℕ} t (refused (number 1), room) (served (length (take (length room / 3) (row ∷ rows))), overlay room 0 (numbers_of (take (length room / 3) (row ∷ rows)))))
              ≡ numbers_of (take (rows_in (cond {A = Answered ℕ × List ℕ} t (refused (number 1), room) (served (length (take (length room / 3) (row ∷ rows))), overlay room 0 (numbers_of (take (length room / 3) (row ∷ rows))))).0) (row ∷ rows))
          cases true = refl
          cases false =
              let l : List Row = take (length room / 3) (row ∷ rows) in
              ap (λ (n : ℕ). take n (overlay room 0 (numbers_of l))) (sym (length_numbers l)) ∙ take-overlay room (numbers_of l)
              ∙ ap numbers_of (sym (take-length (length room / 3) (row ∷ rows)))

module _ (rule : Rule) (file : List ℕ) where
  pub not-shown : (n : Numbered) → records_of rule file ≡ refused n → (skip : ℕ) (room : List ℕ) → list rule file skip room ≡ (refused n, room)
  unfolding list
  not-shown n e skip room = ap (λ (a : Answered (List LogRecord)). list_from a skip room) e

  module _ (listing : List LogRecord) (is : records_of rule file ≡ served listing) where
    lists : (skip : ℕ) (room : List ℕ) → list rule file skip room ≡ lay_rows (drop skip (rows_of listing)) room
    unfolding list
    lists skip room = ap (λ (a : Answered (List LogRecord)). list_from a skip room) is

    laid-list : (skip : ℕ) (room : List ℕ) → laid_in (list rule file skip room) ≡ numbers_of (take (rows_in (list rule file skip room).0) (drop skip (rows_of listing)))
    laid-list skip room = rw (lists skip room) (laid-rows (drop skip (rows_of listing)) room)

    parts_from : (skip : ℕ) (rooms : List (List ℕ)) → (n : ℕ) × (listed_on rule file skip rooms ≡ numbers_of (take n (drop skip (rows_of listing))))
    unfolding listed_on numbers_of
    parts_from skip [] = (0, refl)
    parts_from skip (room ∷ rooms) =
        let m : ℕ = rows_in (list rule file skip room).0 in
        let rest = parts_from (skip + m) rooms in
        let l : List Row = drop skip (rows_of listing) in
        let next : drop (skip + m) (rows_of listing) ≡ drop m l = sym (drop-drop m skip (rows_of listing)) in (
          m + rest.0,
          ap (λ (x : List ℕ). x ++ listed_on rule file (skip + m) rooms) (laid-list skip room)
              ∙ ap (λ (x : List ℕ). numbers_of (take m l) ++ x) (rest.1 ∙ ap (λ (x : List Row). numbers_of (take rest.0 x)) next)
              ∙ sym (ap numbers_of (take-add m rest.0 l) ∙ numbers_append (take m l) (take rest.0 (drop m l))),
        )

    pub in_parts : (rooms : List (List ℕ)) → (n : ℕ) × (listed_on rule file 0 rooms ≡ numbers_of (take n (rows_of listing)))
    in_parts rooms = parts_from 0 rooms

    pub lays : (skip : ℕ) (room : List ℕ) → skip < length listing → 3 ≤ length room
        → list rule file skip room
        ≡ (
          served (min (length room / 3) (length listing - skip)),
          overlay room 0 (numbers_of (take (length room / 3) (drop skip (rows_of listing)))),
        )
    lays skip room h k =
        let l : List Row = drop skip (rows_of listing) in
        let left : length l ≡ length listing - skip = length-drop skip (rows_of listing) ∙ ap (λ (n : ℕ). n - skip) (length-rows listing) in
        let many : length (take (length room / 3) l) ≡ min (length room / 3) (length listing - skip) =
        length-take (length room / 3) l ∙ ap (min (length room / 3)) left in
        lists skip room ∙ lay_some l room (omega arith) k ∙ ap (λ (n : ℕ). (served n, overlay room 0 (numbers_of (take (length room / 3) l)))) many
