-- Where a stretch is refused, and at which place: the claim of specs/Fault.antt. Assumes nothing.
use Prim.Native.Nat.{ℕ, ◌+◌, suc}
use native.Mathlib.Omega.{arith}
use mathlib.Core.Path.{◌≡◌, refl, sym, ap, subst, ◌∙◌}
use mathlib.Core.Bool.{Bool, true, false, cond}
use mathlib.Core.List.{List, [], ◌∷◌, ◌++◌}
use mathlib.Core.Option.{Option, none, some}
use lib.Dec.{eqb}
use lib.ListN.{length}
use borrow.Author.Tests.{eqb-true}
use Rattle.refusal.specs.Refusals.{Numbered, ◌carrying◌, Answered, served, refused}
use Rattle.refusal.proofs.Order.{refused_not_served}
use Rattle.shdlc.specs.Stuffing.{escapes, left_of, is_control, prepend, reported_place, meant, unstuff_from, unstuff, unstuff_escaped}
use Rattle.shdlc.specs.Fault.{unmeant, after_escape, wrong, Broken, Placed}
use Rattle.shdlc.proofs.Restuffed.{prepended}

some_same : {n m : ℕ} → ◌≡◌ {A = Option ℕ} (some n) (some m) → n ≡ m
some_same {n} {m} e = cc

none_some : {A : Type 0} {n : ℕ} → ◌≡◌ {A = Option ℕ} none (some n) → A
none_some {A} {n} e = let z : ◌≡◌ {A = ℕ} 0 1 = cc in absurd (omega arith)

-- a wrong byte at the start
module _ (place : ℕ) where
  numbered : {k n : ℕ} → ◌≡◌ {A = Option ℕ} (some k) (some n)
      → ◌≡◌ {A = Answered (List ℕ)} (refused (k carrying reported_place place)) (refused (n carrying reported_place place))
  numbered e = ap (λ (m : ℕ). refused (m carrying reported_place place)) (some_same e)

  unmeant_here : (o : Option ℕ) (y : Answered (List ℕ)) {n : ℕ} → unmeant o ≡ some n → meant place o y ≡ refused (n carrying reported_place place)
  unmeant_here none y e = numbered e
  unmeant_here (some b) y e = none_some e

  escape_here : (rest : List ℕ) {n : ℕ} → after_escape rest ≡ some n → unstuff_escaped place rest ≡ refused (n carrying reported_place place)
  unfolding unstuff_escaped
  escape_here [] e = numbered e
  escape_here (c ∷ rest) e = unmeant_here (left_of escapes c) (unstuff_from (place + 2) rest) e

  wrong_here : (b : ℕ) (rest : List ℕ) {n : ℕ} → wrong b rest ≡ some n → unstuff_from place (b ∷ rest) ≡ refused (n carrying reported_place place)
  unfolding unstuff_from
  wrong_here b rest {n} = go (eqb b 0x7D) (is_control b)
    where
      go : (t u : Bool) → cond t (after_escape rest) (cond u (some 4) none) ≡ some n
          → cond t (unstuff_escaped place rest) (cond u (refused (4 carrying reported_place place)) (prepend b (unstuff_from (place + 1) rest)))
          ≡ refused (n carrying reported_place place)
      go true u e = escape_here rest e
      go false true e = numbered e
      go false false e = none_some e

-- behind bytes that can be unstuffed the same is refused
passes : (b : ℕ) (why : Numbered) (x y : Answered (List ℕ)) (body : List ℕ) → prepend b x ≡ served body
    → ((rest : List ℕ) → x ≡ served rest → y ≡ refused why) → prepend b y ≡ refused why
unfolding prepend
passes b why x y body h next = let t = prepended b x body h in rw (next t.0 t.1)

byte_passes : (t u : Bool) (b : ℕ) (w why : Numbered) (v x y z : Answered (List ℕ)) (body : List ℕ)
    → cond t v (cond u (refused w) (prepend b x)) ≡ served body → ((rest : List ℕ) → v ≡ served rest → z ≡ refused why)
    → ((rest : List ℕ) → x ≡ served rest → y ≡ refused why) → cond t z (cond u (refused w) (prepend b y)) ≡ refused why
byte_passes true u b w why v x y z body h escaped next = escaped body h
byte_passes false true b w why v x y z body h escaped next = absurd (refused_not_served h)
byte_passes false false b w why v x y z body h escaped next = passes b why x y body h next

escape_passes : (place : ℕ) (o : Option ℕ) (why : Numbered) (x y : Answered (List ℕ)) (body : List ℕ) → meant place o x ≡ served body
    → ((rest : List ℕ) → x ≡ served rest → y ≡ refused why) → meant place o y ≡ refused why
escape_passes place none why x y body h next = absurd (refused_not_served h)
escape_passes place (some b) why x y body h next = passes b why x y body h next

module _ (s : List ℕ) (at : ℕ) (why : Numbered) (stops : unstuff_from at s ≡ refused why) where
  mutual
    unfolding unstuff_from unstuff_escaped

    behind : (front : List ℕ) (place : ℕ) → at ≡ place + length front → (body : List ℕ) → unstuff_from place front ≡ served body
        → unstuff_from place (front ++ s) ≡ refused why
    behind [] place is body h = let here : at ≡ place = omega arith in subst (λ (p : ℕ). unstuff_from p s ≡ refused why) here stops
    behind (b ∷ front) place is body h =
        byte_passes (eqb b 0x7D) (is_control b) b (4 carrying reported_place place) why (unstuff_escaped place front) (unstuff_from (place + 1) front)
        (unstuff_from (place + 1) (front ++ s)) (unstuff_escaped place (front ++ s)) body h
        (λ rest e. behind_escaped front place (omega arith) rest e)
        (λ rest e. behind front (place + 1) (omega arith) rest e)

    behind_escaped : (front : List ℕ) (place : ℕ) → at ≡ place + suc (length front) → (body : List ℕ) → unstuff_escaped place front ≡ served body
        → unstuff_escaped place (front ++ s) ≡ refused why
    behind_escaped [] place is body h = absurd (refused_not_served h)
    behind_escaped (c ∷ front) place is body h =
        escape_passes place (left_of escapes c) why (unstuff_from (place + 2) front) (unstuff_from (place + 2) (front ++ s)) body h
        (λ rest e. behind front (place + 2) (omega arith) rest e)

refused_there : (stretch : List ℕ) (why : Numbered) → Broken stretch why → unstuff stretch ≡ refused why
refused_there stretch why b =
    ap unstuff b.parts
    ∙ behind (b.byte ∷ b.rest) (length b.front) _ (wrong_here (length b.front) b.byte b.rest b.bad) b.front 0 (omega arith) b.body
    b.good
    ∙ ap refused (sym b.at)

-- the parts of a stretch that is refused, from any place on
record Found (place : ℕ) (stretch : List ℕ) (why : Numbered) : Type 0 where
  front : List ℕ
  byte : ℕ
  rest : List ℕ
  parts : stretch ≡ front ++ (byte ∷ rest)
  body : List ℕ
  good : unstuff_from place front ≡ served body
  n : ℕ
  bad : wrong byte rest ≡ some n
  at : why ≡ n carrying reported_place (place + length front)

refused_same : {w v : Numbered} → ◌≡◌ {A = Answered (List ℕ)} (refused w) (refused v) → w ≡ v
refused_same {w} {v} e = cc

not_prepended : (b : ℕ) (x : Answered (List ℕ)) {why : Numbered} → prepend b x ≡ refused why → x ≡ refused why
unfolding prepend
not_prepended b (served body) e = absurd (refused_not_served (sym e))
not_prepended b (refused n) e = e

module _ (place : ℕ) (why : Numbered) where
  here : (b k : ℕ) (s : List ℕ) → wrong b s ≡ some k → ◌≡◌ {A = Answered (List ℕ)} (refused (k carrying reported_place place)) (refused why)
      → Found place (b ∷ s) why
  unfolding unstuff_from
  here b k s is e =
      record {
        front = [];
        byte = b;
        rest = s;
        parts = refl;
        body = [];
        good = refl;
        n = k;
        bad = is;
        at = sym (refused_same e) ∙ ap (λ (p : ℕ). k carrying reported_place p) (let z : place ≡ place + 0 = omega arith in z);
      }

  -- the first byte is good
  later : (b : ℕ) (s : List ℕ) → eqb b 0x7D ≡ false → is_control b ≡ false → Found (place + 1) s why → Found place (b ∷ s) why
  unfolding unstuff_from prepend
  later b s p q f =
      record {
        front = b ∷ f.front;
        byte = f.byte;
        rest = f.rest;
        parts = ap (λ (t : List ℕ). b ∷ t) f.parts;
        body = b ∷ f.body;
        good = rw (p, q, f.good);
        n = f.n;
        bad = f.bad;
        at = f.at ∙ ap (λ (p : ℕ). f.n carrying reported_place p) (let z : place + 1 + length f.front ≡ place + length (b ∷ f.front) = omega arith in z);
      }

  -- the first two bytes are an escape
  later_still : (b c : ℕ) (s : List ℕ) → left_of escapes c ≡ some b → Found (place + 2) s why → Found place (0x7D ∷ c ∷ s) why
  unfolding unstuff_from unstuff_escaped prepend
  later_still b c s is f =
      record {
        front = 0x7D ∷ c ∷ f.front;
        byte = f.byte;
        rest = f.rest;
        parts = ap (λ (t : List ℕ). 0x7D ∷ c ∷ t) f.parts;
        body = b ∷ f.body;
        good = rw (is, f.good);
        n = f.n;
        bad = f.bad;
        at = f.at ∙ ap (λ (p : ℕ). f.n carrying reported_place p)
            (let z : place + 2 + length f.front ≡ place + length (0x7D ∷ c ∷ f.front) = omega arith in z);
      }

  found_byte : (b : ℕ) (s : List ℕ) (t u : Bool) → eqb b 0x7D ≡ t → is_control b ≡ u
      → (unstuff_escaped place s ≡ refused why → Found place (0x7D ∷ s) why) → (unstuff_from (place + 1) s ≡ refused why → Found (place + 1) s why)
      → cond t (unstuff_escaped place s) (cond u (refused (4 carrying reported_place place)) (prepend b (unstuff_from (place + 1) s))) ≡ refused why
      → Found place (b ∷ s) why
  found_byte b s true u p q escaped next e =
      subst (λ (x : ℕ). Found place (x ∷ s) why) (sym (eqb-true b 0x7D p)) (escaped e)
  found_byte b s false true p q escaped next e = here b 4 s (rw (p, q)) e
  found_byte b s false false p q escaped next e = later b s p q (next (not_prepended b (unstuff_from (place + 1) s) e))

  found_escape : (c : ℕ) (s : List ℕ) (o : Option ℕ) → left_of escapes c ≡ o → (unstuff_from (place + 2) s ≡ refused why → Found (place + 2) s why)
      → meant place o (unstuff_from (place + 2) s) ≡ refused why → Found place (0x7D ∷ c ∷ s) why
  found_escape c s none is next e = here 0x7D 3 (c ∷ s) (rw is) e
  found_escape c s (some b) is next e = later_still b c s is (next (not_prepended b (unstuff_from (place + 2) s) e))

mutual
  unfolding unstuff_from unstuff_escaped

  found : (stretch : List ℕ) (place : ℕ) (why : Numbered) → unstuff_from place stretch ≡ refused why → Found place stretch why
  found [] place why e = absurd (refused_not_served (sym e))
  found (b ∷ s) place why e =
      found_byte place why b s (eqb b 0x7D) (is_control b) refl refl (λ h. found_escaped s place why h) (λ h. found s (place + 1) why h) e

  found_escaped : (s : List ℕ) (place : ℕ) (why : Numbered) → unstuff_escaped place s ≡ refused why → Found place (0x7D ∷ s) why
  found_escaped [] place why e = here place why 0x7D 3 [] refl e
  found_escaped (c ∷ s) place why e = found_escape place why c s (left_of escapes c) refl (λ h. found s (place + 2) why h) e

only_there : (stretch : List ℕ) (why : Numbered) → unstuff stretch ≡ refused why → Broken stretch why
only_there stretch why e =
    let f = found stretch 0 why e in
    record {
      front = f.front;
      byte = f.byte;
      rest = f.rest;
      parts = f.parts;
      body = f.body;
      good = f.good;
      n = f.n;
      bad = f.bad;
      at = f.at ∙ ap (λ (p : ℕ). f.n carrying reported_place p) (let z : 0 + length f.front ≡ length f.front = omega arith in z);
    }

pub placed : Placed
placed = record { refused_there = refused_there; only_there = only_there }
