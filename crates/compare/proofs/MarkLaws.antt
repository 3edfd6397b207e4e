-- The marks of records, from the newest on. Assumes nothing.
use mathlib.Core.Path.{◌≡◌, refl, sym, ap, subst, ◌∙◌}
use mathlib.Core.Bool.{Bool, true, false, cond}
use mathlib.Core.List.{List, [], ◌∷◌, ◌++◌, reverse, reverse-cons, append_assoc}
use Prim.Native.Nat.{ℕ, zero, suc, ◌+◌, ◌-◌, ◌≤◌, ◌<◌}
use native.Mathlib.Nat.{zero-add, add_assoc}
use native.Mathlib.Omega.{arith}
use lib.Dec.{eqb}
use mir.Val.{bool_byte}
use denote.Enum.Bare.{sameb}
use lib.ListN.{length, set, take, drop, length-set, length-append, length-reverse}
use Rattle.refusal.specs.Room.{overlay}
use Rattle.refusal.proofs.Room.{overlay_nothing}
use Rattle.wire_log.specs.Log.{LogRecord, recorded, kinds}
use Rattle.wire_log.specs.declared.oldest.Found.{Found}
use Rattle.wire_log.specs.contracts.Kind.{the_type}
use Rattle.wire_log.specs.Kinds.{number_of_kind}
use Rattle.wire_log.specs.Oldest.{records_to}
use Rattle.wire_log.proofs.Turns.{Turn}
use Rattle.compare.specs.Compare.{same_bytes, mark_of, marks_of, equal_places}
use Rattle.compare.specs.Private.{marks_to}
use Rattle.compare.proofs.ByteLaws.{same_kind}

-- two records that the code found: what its tests say
module _ (a b : List ℕ) (x y : Found) where
  abbrev in_a : LogRecord
  in_a = recorded (number_of_kind x.kind) (take x.size (drop x.start a))

  abbrev in_b : LogRecord
  in_b = recorded (number_of_kind y.kind) (take y.size (drop y.start b))

  parts : same_bytes (take (x.start + x.size - x.start) (drop x.start a)) (take (y.start + y.size - y.start) (drop y.start b)) ≡ same_bytes in_a.body in_b.body
  parts =
      let p : x.start + x.size - x.start ≡ x.size = omega arith in
      let q : y.start + y.size - y.start ≡ y.size = omega arith in
      rw (p, q)

  pub mark_kinds : false ≡ sameb the_type x.kind y.kind → 1 ≡ mark_of in_a in_b
  unfolding mark_of
  mark_kinds h = rw (sym (same_kind x.kind y.kind) ∙ sym h)

  module _ (h : true ≡ sameb the_type x.kind y.kind) where
    pub mark_by : (t : Bool) → t ≡ same_bytes (take (x.start + x.size - x.start) (drop x.start a)) (take (y.start + y.size - y.start) (drop y.start b))
        → cond {A = ℕ} t 0 1 ≡ mark_of in_a in_b
    unfolding mark_of
    mark_by t e = rw (sym (same_kind x.kind y.kind) ∙ sym h, sym parts ∙ sym e)

-- marks one after another
pub equal_append : (xs ys : List ℕ) → equal_places (xs ++ ys) ≡ equal_places xs + equal_places ys
unfolding equal_places
equal_append [] ys = sym (zero-add (equal_places ys))
equal_append (x ∷ xs) ys =
    ap (λ (n : ℕ). cond {A = ℕ} (eqb x 0) 1 0 + n) (equal_append xs ys) ∙ sym (add_assoc (cond {A = ℕ} (eqb x 0) 1 0) (equal_places xs) (equal_places ys))

pub equal_one : (m : ℕ) → equal_places (m ∷ []) ≡ cond {A = ℕ} (eqb m 0) 1 0
unfolding equal_places
equal_one m = omega arith

pub equal_most : (xs : List ℕ) → equal_places xs ≤ length xs
unfolding equal_places
equal_most [] = omega arith
equal_most (x ∷ xs) = go (eqb x 0) (equal_most xs)
  where
    go : (t : Bool) → equal_places xs ≤ length xs → cond {A = ℕ} t 1 0 + equal_places xs ≤ suc (length xs)
    go true h = omega arith
    go false h = omega arith

pub marks-append : (xs vs ys ws : List LogRecord) → length xs ≡ length ys → marks_of (xs ++ vs) (ys ++ ws) ≡ marks_of xs ys ++ marks_of vs ws
unfolding marks_of
marks-append [] vs [] ws h = refl
marks-append [] vs (y ∷ ys) ws h = absurd (omega arith)
marks-append (x ∷ xs) vs [] ws h = absurd (omega arith)
marks-append (x ∷ xs) vs (y ∷ ys) ws h = ap (λ (l : List ℕ). mark_of x y ∷ l) (marks-append xs vs ys ws (omega arith))

marks-one : (x y : LogRecord) → marks_of (x ∷ []) (y ∷ []) ≡ mark_of x y ∷ []
unfolding marks_of
marks-one x y = refl

pub length-marks : (xs ys : List LogRecord) → length xs ≡ length ys → length (marks_of xs ys) ≡ length xs
unfolding marks_of
length-marks [] [] h = refl
length-marks [] (y ∷ ys) h = absurd (omega arith)
length-marks (x ∷ xs) [] h = absurd (omega arith)
length-marks (x ∷ xs) (y ∷ ys) h = ap suc (length-marks xs ys (omega arith))

-- a mark at the end of those before it
drop-set : (room : List ℕ) (i m : ℕ) → i < length room → drop i (set room i m) ≡ m ∷ drop (i + 1) room
drop-set [] i m h = absurd (omega arith)
drop-set (b ∷ room) zero m h = refl
drop-set (b ∷ room) (suc i) m h =
    let e : suc (i + 1) ≡ suc i + 1 = omega arith in
    drop-set room i m (omega arith) ∙ ap (λ (k : ℕ). m ∷ drop k (b ∷ room)) e

overlay-last : (room marks : List ℕ) (i m : ℕ) → i ≡ length marks → i < length room
    → overlay (set room i m) 0 marks ≡ overlay room 0 (marks ++ (m ∷ []))
unfolding overlay
overlay-last room marks i m e h =
    let here : 0 + length marks ≡ i = omega arith in
    let next : i + 1 ≡ 0 + length (marks ++ (m ∷ [])) = omega (arith, length-append marks (m ∷ [])) in
    ap (λ (k : ℕ). marks ++ drop k (set room i m)) here
    ∙ ap (λ (l : List ℕ). marks ++ l) (drop-set room i m h)
    ∙ ap (λ (k : ℕ). marks ++ (m ∷ drop k room)) next
    ∙ sym (append_assoc marks (m ∷ []) (drop (0 + length (marks ++ (m ∷ []))) room))

-- the newest records of two logs: their mark is the last
module _ (a b : List ℕ) (p q : ℕ) {j s m k t n : ℕ} (x : Turn kinds a p j s m) (y : Turn kinds b q k t n)
    (even : length (records_to kinds a p) ≡ length (records_to kinds b q)) where
  abbrev xs : List LogRecord
  xs = records_to kinds a s

  abbrev ys : List LogRecord
  ys = records_to kinds b t

  abbrev m_last : ℕ
  m_last = mark_of (recorded j (take m (drop s a))) (recorded k (take n (drop t b)))

  size_a : length (records_to kinds a p) ≡ suc (length xs)
  size_a = ap (λ (l : List LogRecord). length l) x.newest

  size_b : length (records_to kinds b q) ≡ suc (length ys)
  size_b = ap (λ (l : List LogRecord). length l) y.newest

  turned : length (reverse xs) ≡ length (reverse ys)
  turned = length-reverse xs ∙ omega (arith, even, size_a, size_b) ∙ sym (length-reverse ys)

  last-mark : marks_to a p b q ≡ marks_to a s b t ++ (m_last ∷ [])
  unfolding marks_to
  last-mark =
      (λ i. marks_of (reverse (x.newest i)) (reverse (y.newest i)))
      ∙ (λ i. marks_of (reverse-cons (recorded j (take m (drop s a))) xs i) (reverse-cons (recorded k (take n (drop t b))) ys i))
      ∙ marks-append (reverse xs) (recorded j (take m (drop s a)) ∷ []) (reverse ys) (recorded k (take n (drop t b)) ∷ []) turned
      ∙ ap (λ (l : List ℕ). marks_of (reverse xs) (reverse ys) ++ l) (marks-one (recorded j (take m (drop s a))) (recorded k (take n (drop t b))))

  length_before : length (marks_to a s b t) ≡ length xs
  unfolding marks_to
  length_before = length-marks (reverse xs) (reverse ys) turned ∙ length-reverse xs

-- where the loop stands: the marks that are left, from the newest on, make the whole
module _ (a b room : List ℕ) (whole : List ℕ) (n : ℕ) where
  pub record Marking (marks : List ℕ) (p q left same : ℕ) : Type 0 where
    pub kept : length marks ≡ length room
    pub in_a : p ≤ length a
    pub in_b : q ≤ length b
    pub some_a : left ≡ length (records_to kinds a p)
    pub some_b : left ≡ length (records_to kinds b q)
    pub few : same + left ≤ n
    pub counted : same + equal_places (marks_to a p b q) ≡ equal_places whole
    pub laid : overlay marks 0 (marks_to a p b q) ≡ overlay room 0 whole

  pub fits : {marks : List ℕ} {p q left same : ℕ} → Marking marks p q left same → n ≤ length room → left ≤ length marks
  fits l h = omega (arith, l.few, l.kept)

  module _ (marks : List ℕ) (p q left same : ℕ) (l : Marking marks p q left same) where
    pub marking_more : {j s m k t n' v one : ℕ} → 0 < left → left ≤ length marks → Turn kinds a p j s m → Turn kinds b q k t n'
        → v ≡ mark_of (recorded j (take m (drop s a))) (recorded k (take n' (drop t b))) → one ≡ bool_byte (eqb v 0)
        → Marking (set marks (left - 1) v) s t (left - 1) (same + one)
    marking_more {j} {s} {m} {k} {t} {n'} {v} {one} some fits x y e f =
        let even : length (records_to kinds a p) ≡ length (records_to kinds b q) = sym l.some_a ∙ l.some_b in
        let last : marks_to a p b q ≡ marks_to a s b t ++ (v ∷ []) =
        last-mark a b p q x y even ∙ ap (λ (w : ℕ). marks_to a s b t ++ (w ∷ [])) (sym e) in
        let more-a : length (records_to kinds a p) ≡ suc (length (records_to kinds a s)) = size_a a b p q x y even in
        let more-b : length (records_to kinds b q) ≡ suc (length (records_to kinds b t)) = size_b a b p q x y even in
        let before : length (marks_to a s b t) ≡ length (records_to kinds a s) = length_before a b p q x y even in
        let equals : equal_places (marks_to a p b q) ≡ equal_places (marks_to a s b t) + one =
        ap equal_places last ∙ equal_append (marks_to a s b t) (v ∷ []) ∙ ap (λ (w : ℕ). equal_places (marks_to a s b t) + w) (equal_one v ∙ sym (f ∙ counted_by (eqb v 0))) in
        let most : one ≤ 1 = subst (λ (w : ℕ). w ≤ 1) (sym (f ∙ counted_by (eqb v 0))) (at_most (eqb v 0)) in
        record {
          kept = length-set marks (left - 1) v ∙ l.kept;
          in_a = omega (arith, x.ends, l.in_a);
          in_b = omega (arith, y.ends, l.in_b);
          some_a = omega (arith, l.some_a, more-a);
          some_b = omega (arith, l.some_b, more-b);
          few = omega (arith, l.few, most);
          counted = omega (arith, l.counted, equals);
          laid =
              overlay-last marks (marks_to a s b t) (left - 1) v (omega (arith, before, more-a, l.some_a)) (omega arith)
              ∙ ap (overlay marks 0) (sym last)
              ∙ l.laid;
        }
      where
        counted_by : (c : Bool) → bool_byte c ≡ cond {A = ℕ} c 1 0
        counted_by true = refl
        counted_by false = refl

        at_most : (c : Bool) → cond {A = ℕ} c 1 0 ≤ 1
        at_most true = omega arith
        at_most false = omega arith

    none_left : left ≤ 0 → marks_to a p b q ≡ []
    unfolding marks_to
    none_left h =
        let even : length (reverse (records_to kinds a p)) ≡ length (reverse (records_to kinds b q)) =
        length-reverse (records_to kinds a p) ∙ sym l.some_a ∙ l.some_b ∙ sym (length-reverse (records_to kinds b q)) in
        let none : length (marks_of (reverse (records_to kinds a p)) (reverse (records_to kinds b q))) ≡ 0 =
        length-marks _ _ even ∙ length-reverse (records_to kinds a p) ∙ omega (arith, l.some_a, h) in
        empty (marks_of (reverse (records_to kinds a p)) (reverse (records_to kinds b q))) none
      where
        empty : (ms : List ℕ) → length ms ≡ 0 → ms ≡ []
        empty [] e = refl
        empty (m ∷ ms) e = absurd (omega arith)

    pub marking_over : left ≤ 0 → (same ≡ equal_places whole) × (marks ≡ overlay room 0 whole)
    unfolding equal_places
    marking_over h = (
      omega (arith, l.counted, ap equal_places (none_left h)),
      sym (ap (overlay marks 0) (none_left h) ∙ overlay_nothing marks 0) ∙ l.laid,
    )

pub marking_start : (a b room : List ℕ) (p q n : ℕ) → p ≤ length a → q ≤ length b → n ≡ length (records_to kinds a p) → n ≡ length (records_to kinds b q)
    → Marking a b room (marks_to a p b q) n room p q n 0
marking_start a b room p q n in_a in_b many_a many_b = record {
  kept = refl;
  in_a = in_a;
  in_b = in_b;
  some_a = many_a;
  some_b = many_b;
  few = omega arith;
  counted = zero-add (equal_places (marks_to a p b q));
  laid = refl;
}

pub length-marked : (a b : List ℕ) (p q n : ℕ) → n ≡ length (records_to kinds a p) → n ≡ length (records_to kinds b q) → length (marks_to a p b q) ≡ n
unfolding marks_to
length-marked a b p q n e f =
    length-marks (reverse (records_to kinds a p)) (reverse (records_to kinds b q))
    (length-reverse (records_to kinds a p) ∙ sym e ∙ f ∙ sym (length-reverse (records_to kinds b q)))
    ∙ length-reverse (records_to kinds a p) ∙ sym e
