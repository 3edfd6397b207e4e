-- The claim of specs/Claims.antt: each mark by the records at its place, and no difference exactly if the lists are the same. Assumes
-- nothing.
use mathlib.Core.Path.{◌≡◌, refl, sym, ap, subst, ◌∙◌}
use mathlib.Core.Logic.{◌↔◌, ◌⊎◌, inl, inr}
use mathlib.Core.Bool.{Bool, true, false, cond, ◌&&◌}
use mathlib.Core.List.{List, [], ◌∷◌}
use mathlib.Core.Option.{Option, none, some, some-injective, none-ne-some}
use Prim.Native.Nat.{ℕ, zero, suc}
use native.Mathlib.Omega.{arith}
use lib.Dec.{eqb}
use lib.ListN.{length}
use borrow.Author.Tests.{eq-eqb, ne_eqb, eqb-true}
use Rattle.wire_log.specs.Log.{LogRecord, recorded}
use Rattle.compare.specs.Compare.{same_bytes, mark_of, marks_of, equal_places}
use Rattle.compare.specs.Claims.{at, ToldApart}
use Rattle.compare.proofs.ByteLaws.{same_equal, equal_same}
use Rattle.compare.proofs.MarkLaws.{equal_most}
use Rattle.compare.proofs.WholeLaws.{length_places}

-- the mark of two records is 0 where they are the same, and 1 where they are not
mark_equal : (x : LogRecord) → mark_of x x ≡ 0
unfolding mark_of
mark_equal x = rw (eq-eqb x.kind x.kind refl, same_equal x.body x.body refl)

-- a mark that is not 0 says that they differ
differs : (x y : LogRecord) → mark_of x y ≡ 1 → x ≡ y → ⊥
differs x y h e = omega (arith, sym h ∙ subst (λ (z : LogRecord). mark_of x z ≡ 0) e (mark_equal x))

abbrev Marked : LogRecord → LogRecord → Type 0
Marked x y = ((x ≡ y) × (mark_of x y ≡ 0)) ⊎ ((x ≡ y → ⊥) × (mark_of x y ≡ 1))

marked : (x y : LogRecord) → Marked x y
unfolding mark_of
marked x y = go (eqb x.kind y.kind) (same_bytes x.body y.body) refl refl
  where
    one : (s t : Bool) → eqb x.kind y.kind ≡ s → same_bytes x.body y.body ≡ t → (s && t) ≡ false → mark_of x y ≡ 1
    one s t e f h = (λ i. cond {A = ℕ} (e i && f i) 0 1) ∙ ap (λ (b : Bool). cond {A = ℕ} b 0 1) h

    go : (s t : Bool) → eqb x.kind y.kind ≡ s → same_bytes x.body y.body ≡ t → Marked x y
    go true true e f =
        inl ((λ i. recorded (eqb-true x.kind y.kind e i) (equal_same x.body y.body f i)), (λ i. cond {A = ℕ} (e i && f i) 0 1))
    go true false e f = inr (differs x y (one true false e f refl), one true false e f refl)
    go false t e f = inr (differs x y (one false t e f refl), one false t e f refl)

-- the mark at a place, by what the lists have there
abbrev mark_at : Option LogRecord → Option LogRecord → Option ℕ
mark_at none none = none
mark_at (some x) none = some 2
mark_at none (some y) = some 3
mark_at (some x) (some y) = some (mark_of x y)

at_place : (xs ys : List LogRecord) (n : ℕ) → at (marks_of xs ys) n ≡ mark_at (at xs n) (at ys n)
unfolding at marks_of
at_place [] [] n = refl
at_place (x ∷ xs) [] zero = refl
at_place (x ∷ xs) [] (suc n) = at_place xs [] n
at_place [] (y ∷ ys) zero = refl
at_place [] (y ∷ ys) (suc n) = at_place [] ys n
at_place (x ∷ xs) (y ∷ ys) zero = refl
at_place (x ∷ xs) (y ∷ ys) (suc n) = at_place xs ys n

abbrev Same : Option LogRecord → Option LogRecord → Type 0
Same u v = (r : LogRecord) × (u ≡ some r) × (v ≡ some r)

abbrev Differ : Option LogRecord → Option LogRecord → Type 0
Differ u v = (x : LogRecord) × (y : LogRecord) × (u ≡ some x) × (v ≡ some y) × (x ≡ y → ⊥)

abbrev OnlyA : Option LogRecord → Option LogRecord → Type 0
OnlyA u v = (x : LogRecord) × (u ≡ some x) × (v ≡ none)

abbrev OnlyB : Option LogRecord → Option LogRecord → Type 0
OnlyB u v = (y : LogRecord) × (u ≡ none) × (v ≡ some y)

-- a mark is no other
other : {A : Type 0} {m n : ℕ} → some m ≡ some n → (m ≡ n → ⊥) → A
other e h = absurd (h (some-injective _ _ e))

mark-not : (x y : LogRecord) {n : ℕ} {A : Type 0} → some (mark_of x y) ≡ some n → (0 ≡ n → ⊥) → (1 ≡ n → ⊥) → A
mark-not x y {n} e h k = go (marked x y)
  where
    go : {A : Type 0} → Marked x y → A
    go (inl m) = absurd (h (sym m.1 ∙ some-injective _ _ e))
    go (inr m) = absurd (k (sym m.1 ∙ some-injective _ _ e))

-- what the marks say of a place, one way and the other
says_same : (u v : Option LogRecord) → mark_at u v ≡ some 0 → Same u v
says_same none none e = absurd (none-ne-some 0 e)
says_same (some x) none e = other e (λ z. omega arith)
says_same none (some y) e = other e (λ z. omega arith)
says_same (some x) (some y) e = go (marked x y)
  where
    go : Marked x y → Same (some x) (some y)
    go (inl m) = (x, refl, ap {B = Option LogRecord} some (sym m.0))
    go (inr m) = absurd (omega (arith, sym m.1 ∙ some-injective _ _ e))

is_same : (u v : Option LogRecord) → Same u v → mark_at u v ≡ some 0
is_same u v (r, e, f) = (λ i. mark_at (e i) (f i)) ∙ ap {B = Option ℕ} some (mark_equal r)

says_differ : (u v : Option LogRecord) → mark_at u v ≡ some 1 → Differ u v
says_differ none none e = absurd (none-ne-some 1 e)
says_differ (some x) none e = other e (λ z. omega arith)
says_differ none (some y) e = other e (λ z. omega arith)
says_differ (some x) (some y) e = (x, y, refl, refl, differs x y (some-injective _ _ e))

is_differ : (u v : Option LogRecord) → Differ u v → mark_at u v ≡ some 1
is_differ u v (x, y, e, f, h) = (λ i. mark_at (e i) (f i)) ∙ ap {B = Option ℕ} some (go (marked x y))
  where
    go : Marked x y → mark_of x y ≡ 1
    go (inl m) = absurd (h m.0)
    go (inr m) = m.1

says_only_a : (u v : Option LogRecord) → mark_at u v ≡ some 2 → OnlyA u v
says_only_a none none e = absurd (none-ne-some 2 e)
says_only_a (some x) none e = (x, refl, refl)
says_only_a none (some y) e = other e (λ z. omega arith)
says_only_a (some x) (some y) e = mark-not x y e (λ z. omega arith) (λ z. omega arith)

is_only_a : (u v : Option LogRecord) → OnlyA u v → mark_at u v ≡ some 2
is_only_a u v (x, e, f) = λ i. mark_at (e i) (f i)

says_only_b : (u v : Option LogRecord) → mark_at u v ≡ some 3 → OnlyB u v
says_only_b none none e = absurd (none-ne-some 3 e)
says_only_b (some x) none e = other e (λ z. omega arith)
says_only_b none (some y) e = (y, refl, refl)
says_only_b (some x) (some y) e = mark-not x y e (λ z. omega arith) (λ z. omega arith)

is_only_b : (u v : Option LogRecord) → OnlyB u v → mark_at u v ≡ some 3
is_only_b u v (y, e, f) = λ i. mark_at (e i) (f i)

-- no place is told apart
same-marks : (xs : List LogRecord) → equal_places (marks_of xs xs) ≡ length (marks_of xs xs)
unfolding equal_places marks_of
same-marks [] = refl
same-marks (x ∷ xs) = rw (mark_equal x) (omega (arith, same-marks xs))

-- a mark that is not 0 leaves fewer equal places than places
fewer : (m : ℕ) (marks : List ℕ) → (m ≡ 0 → ⊥) → equal_places (m ∷ marks) ≡ suc (length marks) → ⊥
unfolding equal_places
fewer m marks h e = omega (arith, rw (ne_eqb m 0 h) at e, equal_most marks)

tail_marks : (m : ℕ) (marks : List ℕ) → m ≡ 0 → equal_places (m ∷ marks) ≡ suc (length marks) → equal_places marks ≡ length marks
unfolding equal_places
tail_marks m marks h e = omega (arith, rw (eq-eqb m 0 h) at e)

marks-sound : (xs ys : List LogRecord) → equal_places (marks_of xs ys) ≡ length (marks_of xs ys) → xs ≡ ys
unfolding marks_of
marks-sound [] [] e = refl
marks-sound (x ∷ xs) [] e = absurd (fewer 2 (marks_of xs []) (λ z. omega arith) e)
marks-sound [] (y ∷ ys) e = absurd (fewer 3 (marks_of [] ys) (λ z. omega arith) e)
marks-sound (x ∷ xs) (y ∷ ys) e = go (marked x y) (marks-sound xs ys)
  where
    go : Marked x y → (equal_places (marks_of xs ys) ≡ length (marks_of xs ys) → xs ≡ ys) → x ∷ xs ≡ y ∷ ys
    go (inl m) back = λ i. m.0 i ∷ back (tail_marks (mark_of x y) (marks_of xs ys) m.1 e) i
    go (inr m) back = absurd (fewer (mark_of x y) (marks_of xs ys) (λ z. omega (arith, sym m.1 ∙ z)) e)

module _ (xs ys : List LogRecord) where
  -- a claim about what the lists have at a place is one about the mark there
  there : (m : ℕ) (P : Option LogRecord → Option LogRecord → Type 0)
      → ((u v : Option LogRecord) → mark_at u v ≡ some m → P u v) → ((u v : Option LogRecord) → P u v → mark_at u v ≡ some m)
      → (n : ℕ) → (at (marks_of xs ys) n ≡ some m) ↔ P (at xs n) (at ys n)
  there m P to from n = (λ e. to (at xs n) (at ys n) (sym (at_place xs ys n) ∙ e), λ p. at_place xs ys n ∙ from (at xs n) (at ys n) p)

  pub told_apart : ToldApart xs ys
  told_apart = record {
    is_same = there 0 Same says_same is_same;
    is_differ = there 1 Differ says_differ is_differ;
    is_only_a = there 2 OnlyA says_only_a is_only_a;
    is_only_b = there 3 OnlyB says_only_b is_only_b;
    places = length_places xs ys;
    equal = (marks-sound xs ys, λ e. subst (λ (l : List LogRecord). equal_places (marks_of xs l) ≡ length (marks_of xs l)) e (same-marks xs));
  }
