-- The walk from a place back to the start of the file. Assumes nothing.
use mathlib.Core.Path.{◌≡◌, refl, sym, ap, subst, ◌∙◌}
use mathlib.Core.Bool.{Bool, true, false, cond, not}
use mathlib.Core.List.{List, [], ◌∷◌, ◌++◌, append_assoc, append-nil, reverse, reverse-cons}
use Prim.Native.Nat.{ℕ, zero, suc, ◌+◌, ◌-◌, ◌^◌, ◌≤◌, ◌<◌}
use native.Mathlib.Nat.{add-zero}
use native.Mathlib.Omega.{arith}
use lib.Dec.{ltb, eqb}
use lib.ListN.{length, take, drop, length-append, length-drop}
use lib.Seq.{length-take-le}
use borrow.Author.Tests.{lt-ltb, le-ltb, ltb-false, eq-eqb, ne_eqb}
use Rattle.refusal.specs.Refusals.{Numbered, number, Answered, served, refused}
use Rattle.refusal.proofs.Order.{refused_not_served}
use Rattle.payload.specs.Field.{Bytes}
use Rattle.wire_log.specs.Log.{LogRecord, Rule, record_bytes, joined, Follows}
use Rattle.wire_log.specs.Check.{kind_at, size_at, start_at, record_at, ending_at, newest_of, walk, records_before}
use Rattle.wire_log.proofs.Trailer.{length_record, kind_of_lem, size_of, start_of, record_of_lem, before_is}

-- what is wrong with the newest comes first
pub newest_refused : (n : Numbered) (older : Answered (List LogRecord)) → newest_of (refused n) older ≡ refused n
newest_refused n (served older) = refl
newest_refused n (refused m) = refl

-- the bytes of records joined
pub joined-append : (xs ys : List LogRecord) → joined (xs ++ ys) ≡ joined xs ++ joined ys
unfolding joined
joined-append [] ys = refl
joined-append (x ∷ xs) ys = rw (joined-append xs ys) (sym (append_assoc (record_bytes x) (joined xs) (joined ys)))

pub joined_newest : (r : LogRecord) (older : List LogRecord) → joined (reverse (r ∷ older)) ≡ joined (reverse older) ++ record_bytes r
unfolding joined
joined_newest r older =
    ap joined (reverse-cons r older) ∙ joined-append (reverse older) (r ∷ []) ∙ ap (λ (l : List ℕ). joined (reverse older) ++ l) (append-nil (record_bytes r))

module _ (rule : Rule) where
  pub follows_append : (xs ys : List LogRecord) → Follows rule xs → Follows rule ys → Follows rule (xs ++ ys)
  unfolding Follows
  follows_append [] ys f g = g
  follows_append (x ∷ xs) ys f g = (f.0, follows_append xs ys f.1 g)

  pub follows_reverse : (records : List LogRecord) → Follows rule records → Follows rule (reverse records)
  unfolding Follows
  follows_reverse [] f = f
  follows_reverse (r ∷ records) f = rw (reverse-cons r records) (follows_append (reverse records) (r ∷ []) (follows_reverse records f.1) (f.0, tt))

  module _ (file : List ℕ) where
    pub start-before : (place : ℕ) → start_at file place ≤ place - 3
    unfolding start_at
    start-before place = omega arith

    -- the turns do not matter where they are enough
    walk_turns : (m n place : ℕ) → place ≤ m → place ≤ n → walk rule file m place ≡ walk rule file n place
    unfolding walk
    walk_turns zero zero place h k = refl
    walk_turns zero (suc n) place h k = rw (eq-eqb place 0 (omega arith))
    walk_turns (suc m) zero place h k = rw (eq-eqb place 0 (omega arith))
    walk_turns (suc m) (suc n) place h k =
        ap (λ (w : Answered (List LogRecord)). cond (eqb place 0) (served []) (newest_of (ending_at rule file place) w))
        (walk_turns m n (start_at file place) (omega (arith, start-before place)) (omega (arith, start-before place)))

    pub none_before : records_before rule file 0 ≡ served []
    unfolding records_before walk
    none_before = refl

    -- a turn
    pub records_before_lem : (place : ℕ) → 0 < place
        → records_before rule file place ≡ newest_of (ending_at rule file place) (records_before rule file (start_at file place))
    unfolding records_before walk
    records_before_lem zero h = absurd (omega arith)
    records_before_lem (suc place) h =
        ap (λ (t : Bool). cond t (served []) (newest_of (ending_at rule file (suc place)) (walk rule file place (start_at file (suc place))))) (ne_eqb (suc place) 0 (λ e. omega arith))
        ∙ ap (newest_of (ending_at rule file (suc place))) (walk_turns place (start_at file (suc place)) (start_at file (suc place)) (omega (arith, start-before (suc place))) (omega arith))

    -- the record that ends at a place, case by case
    module _ (place : ℕ) where
      pub ending_cut : place < 3 → ending_at rule file place ≡ refused (number 21)
      unfolding ending_at
      ending_cut h = rw (lt-ltb place 3 h)

      pub ending_before-start : place - 3 < size_at file place → ending_at rule file place ≡ refused (number 21)
      unfolding ending_at
      ending_before-start h = go (ltb place 3)
        where
          go : (t : Bool) → cond t (refused (number 21)) (cond (ltb (place - 3) (size_at file place)) (refused (number 21))
              (cond (not (rule (kind_at file place) (size_at file place))) (refused (number 22)) (served (record_at file place)))) ≡ refused (number 21)
          go true = refl
          go false = rw (lt-ltb _ _ h)

      module _ (long : 3 ≤ place) (points : size_at file place ≤ place - 3) where
        pub ending_unknown : rule (kind_at file place) (size_at file place) ≡ false → ending_at rule file place ≡ refused (number 22)
        unfolding ending_at
        ending_unknown h = rw (le-ltb _ _ long, le-ltb _ _ points, h)

        pub ending_served : rule (kind_at file place) (size_at file place) ≡ true → ending_at rule file place ≡ served (record_at file place)
        unfolding ending_at
        ending_served h = rw (le-ltb _ _ long, le-ltb _ _ points, h)

      -- and the other way
      pub record Ends : Type 0 where
        pub long : 3 ≤ place
        pub points : size_at file place ≤ place - 3
        pub known : rule (kind_at file place) (size_at file place) ≡ true

      pub served_ends : (r : LogRecord) → ending_at rule file place ≡ served r → Ends × (record_at file place ≡ r)
      unfolding ending_at
      served_ends r = go (ltb place 3) refl (ltb (place - 3) (size_at file place)) refl (rule (kind_at file place) (size_at file place)) refl
        where
          go : (t : Bool) → ltb place 3 ≡ t → (u : Bool) → ltb (place - 3) (size_at file place) ≡ u → (v : Bool) → rule (kind_at file place) (size_at file place) ≡ v
              → cond t (refused (number 21)) (cond u (refused (number 21)) (cond (not v) (refused (number 22)) (served (record_at file place)))) ≡ served r
              → Ends × (record_at file place ≡ r)
          go true e u f v g h = absurd (refused_not_served h)
          go false e true f v g h = absurd (refused_not_served h)
          go false e false f false g h = absurd (refused_not_served h)
          go false e false f true g h = (record { long = ltb-false place 3 e; points = ltb-false _ _ f; known = g }, cc)

      -- such a record follows the rule
      pub served_known : place ≤ length file → (r : LogRecord) → ending_at rule file place ≡ served r → rule r.kind (length r.body) ≡ true
      unfolding record_at start_at
      served_known inside r e =
          let s = served_ends r e in
          let size : length (record_at file place).body ≡ size_at file place =
          length-take-le (size_at file place) (drop (start_at file place) file) (simp length-drop (omega (arith, s.0.long, s.0.points))) in
          subst (λ (x : LogRecord). rule x.kind (length x.body) ≡ true) s.1 (rw size s.0.known)

-- records in front of others, the newest first
abbrev pub after : List LogRecord → Answered (List LogRecord) → Answered (List LogRecord)
after newer (served older) = served (newer ++ older)
after newer (refused n) = refused n

after_newest : (r : LogRecord) (newer : List LogRecord) (older : Answered (List LogRecord)) → newest_of (served r) (after newer older) ≡ after (r ∷ newer) older
after_newest r newer (served older) = refl
after_newest r newer (refused n) = refl

after_none : (older : Answered (List LogRecord)) → older ≡ after [] older
after_none (served older) = refl
after_none (refused n) = refl

module _ (rule : Rule) where
  -- a good record between other bytes
  pub ending_of : (front tail : List ℕ) (r : LogRecord) (place : ℕ) → place ≡ length front + (length r.body + 3) → length r.body < 256 ^ 2
      → rule r.kind (length r.body) ≡ true → ending_at rule (front ++ (record_bytes r ++ tail)) place ≡ served r
  ending_of front tail r place ends small known =
      let file : List ℕ = front ++ (record_bytes r ++ tail) in
      let size : size_at file place ≡ length r.body = size_of front tail r place ends small in
      let points : size_at file place ≤ place - 3 = omega (arith, size) in
      let is : rule (kind_at file place) (size_at file place) ≡ true = rw (size, kind_of_lem front tail r place ends) known in
      ending_served rule file place (omega arith) points is ∙ ap served (record_of_lem front tail r place ends small)

  -- the walk passes good records
  pub walk_through : (file front : List ℕ) (newer : List LogRecord) (tail : List ℕ) → file ≡ front ++ (joined (reverse newer) ++ tail)
      → Follows rule newer → length (joined (reverse newer)) < 256 ^ 2
      → records_before rule file (length front + length (joined (reverse newer))) ≡ after newer (records_before rule file (length front))
  unfolding joined Follows
  walk_through file front [] tail e f h = rw (add-zero (length front)) (after_none (records_before rule file (length front)))
  walk_through file front (r ∷ newer) tail e f h =
      let l : List ℕ = joined (reverse newer) in
      let whole : joined (reverse (r ∷ newer)) ≡ l ++ record_bytes r = joined_newest r newer in
      let size : length (joined (reverse (r ∷ newer))) ≡ length l + (length r.body + 3) = ap length whole ∙ simp (length-append, length_record) in
      let small : length r.body < 256 ^ 2 = omega arith in
      let place : ℕ = length front + length (joined (reverse (r ∷ newer))) in
      let ends : place ≡ length (front ++ l) + (length r.body + 3) = simp length-append (omega arith) in
      let is : file ≡ (front ++ l) ++ (record_bytes r ++ tail) = e ∙ ap (λ (x : List ℕ). front ++ (x ++ tail)) whole ∙ simp append_assoc in
      let older : file ≡ front ++ (l ++ (record_bytes r ++ tail)) = is ∙ append_assoc front l (record_bytes r ++ tail) in
      let here : ending_at rule file place ≡ served r = rw is (ending_of (front ++ l) tail r place ends small f.0) in
      let start : start_at file place ≡ length front + length l = rw is (start_of (front ++ l) tail r place ends small ∙ length-append front l) in
      records_before_lem rule file place (omega arith)
      ∙ rw (here, start, walk_through file front newer (record_bytes r ++ tail) older f.1 (omega arith))
      (after_newest r newer (records_before rule file (length front)))

  -- good records, the newest, stand before a place and after one at which a faulty record ends
  pub record FaultBefore (file : List ℕ) (place : ℕ) (n : Numbered) : Type 0 where
    pub newer : List LogRecord
    pub fault : ℕ
    pub some : 0 < fault
    pub ending : ending_at rule file fault ≡ refused n
    pub stand : take place file ≡ take fault file ++ joined (reverse newer)
    pub follow : Follows rule newer

  -- what the walk from a place says of the bytes before it: they are the records', each good; or there is a fault
  abbrev pub Walked : List ℕ → ℕ → Answered (List LogRecord) → Type 0
  Walked file place (served records) = (take place file ≡ joined (reverse records)) × Follows rule records
  Walked file place (refused n) = FaultBefore file place n

  module _ (file : List ℕ) (bytes : Bytes file) where
    walked_on : (place : ℕ) → 0 < place → place ≤ length file → (ending : Answered LogRecord) → ending_at rule file place ≡ ending
        → (older : Answered (List LogRecord)) → Walked file (start_at file place) older → Walked file place (newest_of ending older)
    unfolding Follows joined
    walked_on place h l (refused n) e older w =
        subst (Walked file place) (sym (newest_refused n older))
        (record { newer = []; fault = place; some = h; ending = e; stand = sym (append-nil (take place file)); follow = tt })
    walked_on place h l (served r) e (served older) w =
        let s = served_ends rule file place r e in
        let is = before_is file place bytes l s.0.long s.0.points in
        (is ∙ rw (w.0, s.1) (sym (joined_newest r older)), (served_known rule file place l r e, w.1))
    walked_on place h l (served r) e (refused n) w =
        let s = served_ends rule file place r e in
        let is = before_is file place bytes l s.0.long s.0.points in
        record {
          newer = r ∷ w.newer;
          fault = w.fault;
          some = w.some;
          ending = w.ending;
          stand = is ∙ rw (w.stand, s.1) (append_assoc (take w.fault file) (joined (reverse w.newer)) (record_bytes r) ∙ ap (λ (l : List ℕ). take w.fault file ++ l) (sym (joined_newest r w.newer)));
          follow = (served_known rule file place l r e, w.follow);
        }

    pub walked : (turns place : ℕ) → place ≤ turns → place ≤ length file → Walked file place (walk rule file turns place)
    unfolding walk joined Follows
    walked zero place h l = (ap (λ (n : ℕ). take n file) (let z : place ≡ 0 = omega arith in z), tt)
    walked (suc turns) zero h l = (refl, tt)
    walked (suc turns) (suc place) h l =
        let older = walked turns (start_at file (suc place)) (omega (arith, start-before rule file (suc place))) (omega (arith, start-before rule file (suc place))) in
        subst (λ (t : Bool). Walked file (suc place) (cond t (served []) (newest_of (ending_at rule file (suc place)) (walk rule file turns (start_at file (suc place))))))
        (sym (ne_eqb (suc place) 0 (λ e. omega arith)))
        (walked_on (suc place) (omega arith) l (ending_at rule file (suc place)) refl (walk rule file turns (start_at file (suc place))) older)
