-- The writer: its cases, as its code tests them, and that a record laid after the others makes the log of one record more. Assumes nothing.
use mathlib.Core.Path.{◌≡◌, refl, sym, ap, ◌∙◌}
use mathlib.Core.Bool.{true, false, cond, not}
use mathlib.Core.List.{List, [], ◌∷◌, ◌++◌, append_assoc, reverse}
use Prim.Native.Nat.{ℕ, ◌+◌, ◌-◌, ◌≤◌, ◌<◌}
use native.Mathlib.Omega.{arith}
use lib.Dec.{ltb}
use lib.ListN.{length, take, drop, replicate, set, length-append, length-reverse}
use lib.Seq.{take_at, take-take, length-take-le}
use borrow.Author.Tests.{lt-ltb, le-ltb}
use Rattle.refusal.specs.Refusals.{Numbered, number, Answered, served, refused}
use Rattle.refusal.specs.Room.{overlay, emit}
use Rattle.refusal.proofs.Order.{refused_not_served}
use Rattle.refusal.proofs.Room.{overlay_then, length-overlay, set-overlay, emit_served, emit_refused}
use Rattle.payload.specs.Field.{big_endian, Bytes}
use Rattle.payload.proofs.Big.{length-big_endian, take-bytes}
use Rattle.wire_log.specs.Log.{LogRecord, Rule, recorded, record_bytes, joined, closing, log_of, most}
use Rattle.wire_log.specs.Check.{counting, records_of}
use Rattle.wire_log.specs.Writer.{added_to, append}
use Rattle.wire_log.specs.Private.{laid_after}
use Rattle.wire_log.proofs.Trailer.{length_record}
use Rattle.wire_log.proofs.Walk.{joined_newest}
use Rattle.wire_log.proofs.Tiling.{records_short, length_log, log_is, listed_is}

-- the writes of a record and of the closing bytes, one after another, are one
module _ (room body : List ℕ) (total kind count : ℕ) (fits : total + length body + 11 ≤ length room) where
  abbrev end : ℕ
  end = total + length body

  abbrev parts : List ℕ
  parts = (((body ++ (kind ∷ [])) ++ big_endian 2 (length body)) ++ big_endian 4 count) ++ big_endian 4 (end + 3)

  parts_are : parts ≡ record_bytes (recorded kind body) ++ closing count (total + length (record_bytes (recorded kind body)))
  unfolding record_bytes closing
  parts_are =
      let n : end + 3 ≡ total + length (body ++ (kind ∷ big_endian 2 (length body))) = simp (length-append, length-big_endian) (omega arith) in
      let m : ℕ = end + 3 in
      let flat : parts ≡ body ++ (kind ∷ (big_endian 2 (length body) ++ (big_endian 4 count ++ big_endian 4 m))) = simp append_assoc in
      flat ∙ sym (append_assoc body (kind ∷ big_endian 2 (length body)) (big_endian 4 count ++ big_endian 4 m))
      ∙ ap (λ (x : ℕ). (body ++ (kind ∷ big_endian 2 (length body))) ++ (big_endian 4 count ++ big_endian 4 x)) n

  pub laid : {one two three four : List ℕ} → one ≡ overlay room total body → two ≡ overlay (set one end kind) (end + 1) (big_endian 2 (length body))
      → three ≡ overlay two (end + 3) (big_endian 4 count) → four ≡ overlay three (end + 7) (big_endian 4 (end + 3))
      → four ≡ overlay room total (record_bytes (recorded kind body) ++ closing count (total + length (record_bytes (recorded kind body))))
  laid {one} {two} {three} {four} e f g h =
      let place : total ≤ length room = omega arith in
      let size : length one ≡ length room = ap length e ∙ length-overlay room total body (omega arith) in
      let kind-in : end < length one = omega arith in
      let a : set one end kind ≡ overlay room total (body ++ (kind ∷ [])) =
      set-overlay one end kind kind-in ∙ ap (λ (l : List ℕ). overlay l end (kind ∷ [])) e ∙ overlay_then room total body (kind ∷ []) end place refl in
      let b : two ≡ overlay room total ((body ++ (kind ∷ [])) ++ big_endian 2 (length body)) =
      f ∙ ap (λ (l : List ℕ). overlay l (end + 1) (big_endian 2 (length body))) a
      ∙ overlay_then room total (body ++ (kind ∷ [])) (big_endian 2 (length body)) (end + 1) place (simp length-append (omega arith)) in
      let c : three ≡ overlay room total (((body ++ (kind ∷ [])) ++ big_endian 2 (length body)) ++ big_endian 4 count) =
      g ∙ ap (λ (l : List ℕ). overlay l (end + 3) (big_endian 4 count)) b
      ∙ overlay_then room total _ (big_endian 4 count) (end + 3) place (simp (length-append, length-big_endian) (omega arith)) in
      h ∙ ap (λ (l : List ℕ). overlay l (end + 7) (big_endian 4 (end + 3))) c
      ∙ overlay_then room total _ (big_endian 4 (end + 3)) (end + 7) place (simp (length-append, length-big_endian) (omega arith))
      ∙ ap (overlay room total) parts_are

-- the writer's cases
module _ (rule : Rule) (count total kind : ℕ) (body buffer : List ℕ) where
  abbrev r : LogRecord
  r = recorded kind body

  pub laid_unknown : rule kind (length body) ≡ false → (refused (number 22), buffer) ≡ laid_after rule count total r buffer
  unfolding laid_after
  laid_unknown h = rw h

  module _ (known : rule kind (length body) ≡ true) where
    pub laid-over : most < total + (length body + 3) → (refused (number 12), buffer) ≡ laid_after rule count total r buffer
    unfolding laid_after
    laid-over h = rw (known, length_record r, lt-ltb _ _ h)

    module _ (within : total + length body + 3 ≤ most) where
      in_total : total + (length body + 3) ≤ most
      in_total = omega arith

      pub laid_short : length buffer < total + length body + 11 → (refused (number 1), buffer) ≡ laid_after rule count total r buffer
      unfolding laid_after
      laid_short h =
          let s : length buffer < total + (length body + 3) + 8 = omega arith in
          rw (known, length_record r, le-ltb _ _ in_total, lt-ltb _ _ s)

      pub laid_done : {after : List ℕ} → total + length body + 11 ≤ length buffer
          → after ≡ overlay buffer total (record_bytes r ++ closing (count + 1) (total + length (record_bytes r)))
          → (served (total + length body + 11), after) ≡ laid_after rule count total r buffer
      unfolding laid_after
      laid_done h e =
          let s : total + length (record_bytes r) + 8 ≤ length buffer = omega (arith, length_record r) in
          let w : total + length (record_bytes r) ≤ most = omega (arith, length_record r) in
          let n : total + length body + 11 ≡ total + length (record_bytes r) + 8 = omega (arith, length_record r) in
          rw (known, le-ltb _ _ w, le-ltb _ _ s, n, e)

-- what is written after bytes that stand already
overlay-behind : (room xs ys : List ℕ) → take (length xs) room ≡ xs → overlay room (length xs) ys ≡ overlay room 0 (xs ++ ys)
unfolding overlay
overlay-behind room xs ys e =
    let n : length xs + length ys ≡ 0 + length (xs ++ ys) = simp length-append (omega arith) in
    rw (e, n) (sym (append_assoc xs ys (drop (0 + length (xs ++ ys)) room)))

-- the log of one record more
module _ (listing : List LogRecord) (r : LogRecord) where
  pub joined-more : length (joined (reverse (r ∷ listing))) ≡ length (joined (reverse listing)) + length (record_bytes r)
  joined-more = ap length (joined_newest r listing) ∙ length-append (joined (reverse listing)) (record_bytes r)

  pub log_more : log_of (reverse (r ∷ listing))
      ≡ joined (reverse listing) ++ (record_bytes r ++ closing (length listing + 1) (length (joined (reverse listing)) + length (record_bytes r)))
  unfolding log_of
  log_more =
      let count : length (reverse (r ∷ listing)) ≡ length listing + 1 = length-reverse (r ∷ listing) ∙ omega arith in
      ap (λ (l : List ℕ). l ++ closing (length (reverse (r ∷ listing))) (length (joined (reverse (r ∷ listing))))) (joined_newest r listing)
      ∙ append_assoc (joined (reverse listing)) (record_bytes r) _
      ∙ ap (λ (n : ℕ). joined (reverse listing) ++ (record_bytes r ++ closing n (length (joined (reverse (r ∷ listing)))))) count
      ∙ ap (λ (n : ℕ). joined (reverse listing) ++ (record_bytes r ++ closing (length listing + 1) n)) joined-more

  pub length_log_more : length (log_of (reverse (r ∷ listing))) ≡ length (joined (reverse listing)) + length (record_bytes r) + 8
  length_log_more = length_log (reverse (r ∷ listing)) ∙ ap (λ (n : ℕ). n + 8) joined-more

module _ (rule : Rule) (r : LogRecord) (buffer : List ℕ) where
  cases : ℕ → ℕ → List ℕ → Answered ℕ × List ℕ
  cases total size after =
      cond (not (rule r.kind (length r.body))) (refused (number 22), buffer)
      (cond (ltb most total) (refused (number 12), buffer) (cond (ltb (length buffer) size) (refused (number 1), buffer) (served size, after)))

  added_is : (listing : List LogRecord) (count total : ℕ) → count ≡ length listing → total ≡ length (joined (reverse listing))
      → take total buffer ≡ joined (reverse listing) → laid_after rule count total r buffer ≡ added_to rule (served listing) r buffer
  unfolding laid_after added_to emit cases
  added_is listing count total e f g =
      let front : take (length (joined (reverse listing))) buffer ≡ joined (reverse listing) = ap (λ (n : ℕ). take n buffer) (sym f) ∙ g in
      let after : overlay buffer total (record_bytes r ++ closing (count + 1) (total + length (record_bytes r))) ≡ overlay buffer 0 (log_of (reverse (r ∷ listing))) =
      rw (e, f) (overlay-behind buffer (joined (reverse listing)) _ front ∙ ap (overlay buffer 0) (sym (log_more listing r))) in
      let size : total + length (record_bytes r) + 8 ≡ length (log_of (reverse (r ∷ listing))) = ap (λ (n : ℕ). n + length (record_bytes r) + 8) f ∙ sym (length_log_more listing r) in
      let sum : total + length (record_bytes r) ≡ length (joined (reverse (r ∷ listing))) = ap (λ (n : ℕ). n + length (record_bytes r)) f ∙ sym (joined-more listing r) in
      ap (λ (n : ℕ). cases n (total + length (record_bytes r) + 8) (overlay buffer total (record_bytes r ++ closing (count + 1) (total + length (record_bytes r))))) sum
      ∙ ap (λ (n : ℕ). cases (length (joined (reverse (r ∷ listing)))) n (overlay buffer total (record_bytes r ++ closing (count + 1) (total + length (record_bytes r))))) size
      ∙ ap (cases (length (joined (reverse (r ∷ listing)))) (length (log_of (reverse (r ∷ listing))))) after

  module _ (size : ℕ) where
    pub append_past : length buffer < size → (refused (number 1), buffer) ≡ append rule buffer size r
    unfolding append
    append_past h = rw (lt-ltb _ _ h)

    module _ (inside : size ≤ length buffer) where
      pub appends : append rule buffer size r ≡ added_to rule (records_of rule (take size buffer)) r buffer
      unfolding append
      appends = rw (le-ltb _ _ inside)

      pub append_refused : {n : Numbered} → refused n ≡ counting (records_of rule (take size buffer)) → (refused n, buffer) ≡ append rule buffer size r
      unfolding added_to
      append_refused h = rw appends (go (records_of rule (take size buffer)) h)
        where
          go : {n : Numbered} (a : Answered (List LogRecord)) → refused n ≡ counting a → (refused n, buffer) ≡ added_to rule a r buffer
          go (served listing) e = absurd (refused_not_served e)
          go {n = m} (refused n) e = let z : m ≡ n = cc in rw z

      -- what the check gives of a log that it serves
      pub record Served (count : ℕ) : Type 0 where
        pub listing : List LogRecord
        pub is : records_of rule (take size buffer) ≡ served listing
        pub count_is : count ≡ length listing
        pub total_is : size - 8 ≡ length (joined (reverse listing))
        pub front : take (size - 8) buffer ≡ joined (reverse listing)
        pub few : count ≤ size - 8
        pub long : 8 ≤ size
        pub within : size - 8 ≤ most

      pub served_log : Bytes buffer → (count : ℕ) → served count ≡ counting (records_of rule (take size buffer)) → Served count
      served_log bytes count e = go (records_of rule (take size buffer)) refl e
        where
          go : (a : Answered (List LogRecord)) → records_of rule (take size buffer) ≡ a → served count ≡ counting a → Served count
          go (refused n) f h = absurd (refused_not_served (sym h))
          go (served listing) f h =
              let file : List ℕ = take size buffer in
              let c : count ≡ length listing = cc in
              let g = listed_is rule file (take-bytes size buffer bytes) listing f in
              let records : List LogRecord = reverse listing in
              let log : file ≡ joined records ++ closing (length records) (length (joined records)) = g.1 ∙ log_is records in
              let long : length file ≡ length (joined records) + 8 = ap length g.1 ∙ length_log records in
              let whole : length file ≡ size = length-take-le size buffer inside in
              let sum : size - 8 ≡ length (joined records) = omega arith in
              record {
                listing = listing;
                is = f;
                count_is = c;
                total_is = sum;
                front = sym (take-take (size - 8) size buffer (omega arith)) ∙ ap (take (size - 8)) log ∙ take_at (joined records) (closing (length records) (length (joined records))) (size - 8) (sym sum);
                few = omega (arith, records_short records, length-reverse listing);
                long = omega arith;
                within = omega (arith, g.0.within);
              }

      pub append-laid : (count : ℕ) → Served count → laid_after rule count (size - 8) r buffer ≡ append rule buffer size r
      append-laid count s =
          added_is s.listing count (size - 8) s.count_is s.total_is s.front
          ∙ sym (appends ∙ ap (λ (a : Answered (List LogRecord)). added_to rule a r buffer) s.is)

-- the log without records
module _ (buffer : List ℕ) where
  pub empty_refused : length buffer < 8 → (refused (number 1), buffer) ≡ emit (log_of []) buffer
  unfolding joined
  empty_refused h = sym (emit_refused (log_of []) buffer (omega (arith, length_log [])))

  pub empty-laid : {filled : List ℕ} → 8 ≤ length buffer → filled ≡ replicate (length (take 8 buffer)) 0 → (served 8, filled ++ drop 8 buffer) ≡ emit (log_of []) buffer
  unfolding log_of joined closing big_endian overlay
  empty-laid {filled} h e =
      let size : length (log_of []) ≡ 8 = length_log [] in
      let zeros : filled ≡ log_of [] = e ∙ ap (λ (n : ℕ). replicate n 0) (length-take-le 8 buffer h) in
      rw zeros (sym (emit_served (log_of []) buffer (omega (arith, size))))
