-- A record that ends at a place: what its trailer says, and that its bytes are what stands before the place. Assumes nothing.
use mathlib.Core.Path.{◌≡◌, refl, sym, ap, subst, ◌∙◌}
use mathlib.Core.List.{List, [], ◌∷◌, ◌++◌, append_assoc}
use Prim.Native.Nat.{ℕ, suc, ◌+◌, ◌-◌, ◌^◌, ◌≤◌, ◌<◌}
use native.Mathlib.Omega.{arith}
use lib.ListN.{length, get_or, take, drop, length-append, length-drop}
use lib.Seq.{take_at, drop_at, get_or_at, take-add, drop-drop, drop-cons, length-take-le}
use Rattle.payload.specs.Field.{big, big_endian, Bytes}
use Rattle.payload.proofs.Big.{length-big_endian, big_of_big_endian, big_endian_of_big, drop-bytes, take-bytes}
use Rattle.wire_log.specs.Log.{LogRecord, record_bytes}
use Rattle.wire_log.specs.Check.{kind_at, size_at, start_at, record_at}

pub length_record : (r : LogRecord) → length (record_bytes r) ≡ length r.body + 3
unfolding record_bytes
length_record r = simp (length-append, length-big_endian)

-- a record's bytes, wherever they stand, are read as that record
module _ (front tail : List ℕ) (r : LogRecord) (place : ℕ) (ends : place ≡ length front + (length r.body + 3)) where
  abbrev file : List ℕ
  file = front ++ (record_bytes r ++ tail)

  pub kind_of_lem : kind_at file place ≡ r.kind
  unfolding kind_at record_bytes
  kind_of_lem =
      let size = big_endian 2 (length r.body) in
      let regroup : front ++ ((r.body ++ (r.kind ∷ size)) ++ tail) ≡ (front ++ r.body) ++ r.kind ∷ (size ++ tail) = simp append_assoc in
      let here : length (front ++ r.body) ≡ place - 3 = simp length-append (omega arith) in
      ap (λ (l : List ℕ). get_or l (place - 3) 0) regroup ∙ get_or_at (front ++ r.body) r.kind (size ++ tail) 0 (place - 3) here

  pub size_of : length r.body < 256 ^ 2 → size_at file place ≡ length r.body
  unfolding size_at record_bytes
  size_of h =
      let size = big_endian 2 (length r.body) in
      let before : List ℕ = front ++ (r.body ++ (r.kind ∷ [])) in
      let regroup : front ++ ((r.body ++ (r.kind ∷ size)) ++ tail) ≡ before ++ (size ++ tail) = simp append_assoc in
      let here : length before ≡ place - 2 = simp length-append (omega arith) in
      ap (λ (l : List ℕ). big (take 2 (drop (place - 2) l))) regroup
      ∙ ap (λ (l : List ℕ). big (take 2 l)) (drop_at before (size ++ tail) (place - 2) here)
      ∙ ap big (take_at size tail 2 (length-big_endian 2 (length r.body)))
      ∙ big_of_big_endian 2 (length r.body) h

  pub start_of : length r.body < 256 ^ 2 → start_at file place ≡ length front
  unfolding start_at
  start_of h = rw (size_of h) (omega arith)

  pub record_of_lem : length r.body < 256 ^ 2 → record_at file place ≡ r
  unfolding record_at record_bytes
  record_of_lem h =
      let regroup : front ++ ((r.body ++ (r.kind ∷ big_endian 2 (length r.body))) ++ tail) ≡ front ++ (r.body ++ (r.kind ∷ (big_endian 2 (length r.body) ++ tail))) = simp append_assoc in
      let from : drop (start_at file place) file ≡ r.body ++ (r.kind ∷ (big_endian 2 (length r.body) ++ tail)) =
      rw (start_of h) (ap (drop (length front)) regroup ∙ drop_at front _ (length front) refl) in
      let body : take (size_at file place) (drop (start_at file place) file) ≡ r.body =
      rw (size_of h, from) (take_at r.body _ (length r.body) refl) in
      λ i. record { kind = kind_of_lem i; body = body i }

-- and the other way: the bytes before a place are those of the record that ends there, and of what precedes it
module _ (file : List ℕ) (place : ℕ) (bytes : Bytes file) (inside : place ≤ length file) (long : 3 ≤ place) (points : size_at file place ≤ place - 3) where
  trailer : take 3 (drop (place - 3) file) ≡ kind_at file place ∷ big_endian 2 (size_at file place)
  unfolding kind_at size_at
  trailer =
      let here : place - 3 < length file = omega arith in
      let next : suc (place - 3) ≡ place - 2 = omega arith in
      let two : List ℕ = take 2 (drop (place - 2) file) in
      let long-two : length two ≡ 2 = length-take-le 2 (drop (place - 2) file) (simp length-drop (omega arith)) in
      let back : big_endian 2 (big two) ≡ two = subst (λ (n : ℕ). big_endian n (big two) ≡ two) long-two (big_endian_of_big two (take-bytes 2 (drop (place - 2) file) (drop-bytes (place - 2) file bytes))) in
      ap (take 3) (drop-cons file (place - 3) 0 here)
      ∙ ap (λ (n : ℕ). get_or file (place - 3) 0 ∷ take 2 (drop n file)) next
      ∙ ap (λ (l : List ℕ). get_or file (place - 3) 0 ∷ l) (sym back)

  pub before_is : take place file ≡ take (start_at file place) file ++ record_bytes (record_at file place)
  unfolding start_at record_at record_bytes
  before_is =
      let n : ℕ = size_at file place in
      let s : ℕ = place - 3 - n in
      let whole : place ≡ s + (n + 3) = omega arith in
      let on : s + n ≡ place - 3 = omega arith in
      let fits : length (take n (drop s file)) ≡ n = length-take-le n (drop s file) (simp length-drop (omega arith)) in
      ap (λ (m : ℕ). take m file) whole
      ∙ take-add s (n + 3) file
      ∙ ap (λ (l : List ℕ). take s file ++ l) (take-add n 3 (drop s file)
      ∙ ap (λ (l : List ℕ). take n (drop s file) ++ l) (ap (take 3) (drop-drop n s file ∙ ap (λ (m : ℕ). drop m file) on) ∙ trailer
      ∙ ap (λ (m : ℕ). kind_at file place ∷ big_endian 2 m) (sym fits)))
