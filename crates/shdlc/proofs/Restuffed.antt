-- What is unstuffed is stuffed again to the same bytes: a stretch that is no 3 or 4 has one wire form. Assumes nothing.
use mathlib.Core.Path.{◌≡◌, refl, sym, ap, subst, ◌∙◌}
use mathlib.Core.Bool.{Bool, true, false, cond, ◌||◌, false≢true}
use mathlib.Core.List.{List, [], ◌∷◌}
use mathlib.Core.Option.{Option, none, some}
use Prim.Native.Nat.{ℕ, ◌+◌}
use native.Mathlib.Omega.{arith}
use lib.Dec.{eqb}
use borrow.Author.Tests.{eqb-true}
use Rattle.refusal.specs.Refusals.{◌carrying◌, Answered, served, refused}
use Rattle.refusal.proofs.Order.{refused_not_served}
use Rattle.shdlc.specs.ReadBack.{Unbroken}
use Rattle.shdlc.specs.Stuffing.{escapes, right_of, left_of, sent, stuff_byte, stuff, is_control, prepend, reported_place, meant, unstuff_from, unstuff_escaped}

served_same : (a b : List ℕ) → ◌≡◌ {A = Answered (List ℕ)} (served a) (served b) → a ≡ b
served_same a b e = cc

-- a byte that is neither 7E, 7D, 11 nor 13 is sent as it is
plain_sent : (b : ℕ) → eqb b 0x7E ≡ false → eqb b 0x7D ≡ false → is_control b ≡ false → stuff_byte b ≡ b ∷ []
unfolding stuff_byte
plain_sent b p q r = go (eqb b 0x11) (eqb b 0x13) refl refl r
  where
    go : (z w : Bool) → eqb b 0x11 ≡ z → eqb b 0x13 ≡ w → (eqb b 0x11 || eqb b 0x13) ≡ false → sent b (right_of escapes b) ≡ b ∷ []
    go true w e f h = absurd (false≢true (sym h ∙ rw e))
    go false true e f h = absurd (false≢true (sym h ∙ rw (e, f)))
    go false false e f h = simp (p, q, e, f)

-- what was put before a body
pub prepended : (b : ℕ) (a : Answered (List ℕ)) (body : List ℕ) → prepend b a ≡ served body
    → (rest : List ℕ) × (a ≡ served rest) × (body ≡ b ∷ rest)
unfolding prepend
prepended b (served rest) body e = (rest, refl, sym (served_same (b ∷ rest) body e))
prepended b (refused n) body e = absurd (refused_not_served e)

-- the byte that a byte after a 7D stands for is sent as those two
escaped_sent : (c b : ℕ) → left_of escapes c ≡ some b → stuff_byte b ≡ 0x7D ∷ c ∷ []
unfolding stuff_byte
escaped_sent c b = go (eqb c 0x5E) (eqb c 0x5D) (eqb c 0x31) (eqb c 0x33) refl refl refl refl
  where
    is : (k l : ℕ) → eqb c k ≡ true → left_of escapes k ≡ some l → sent l (right_of escapes l) ≡ 0x7D ∷ k ∷ []
        → left_of escapes c ≡ some b → sent b (right_of escapes b) ≡ 0x7D ∷ c ∷ []
    is k l e f s h =
        let same : c ≡ k = eqb-true c k e in
        let left : some l ≡ some b = sym f ∙ ap (left_of escapes) (sym same) ∙ h in
        let it : l ≡ b = cc in
        subst (λ (x : ℕ). sent x (right_of escapes x) ≡ 0x7D ∷ c ∷ []) it (s ∙ ap (λ (x : ℕ). 0x7D ∷ x ∷ []) (sym same))

    go : (x y z w : Bool) → eqb c 0x5E ≡ x → eqb c 0x5D ≡ y → eqb c 0x31 ≡ z → eqb c 0x33 ≡ w
        → left_of escapes c ≡ some b → sent b (right_of escapes b) ≡ 0x7D ∷ c ∷ []
    go true y z w p q r s h = is 0x5E 0x7E p refl refl h
    go false true z w p q r s h = is 0x5D 0x7D q refl refl h
    go false false true w p q r s h = is 0x31 0x11 r refl refl h
    go false false false true p q r s h = is 0x33 0x13 s refl refl h
    go false false false false p q r s h =
        let no : left_of escapes c ≡ none = simp (p, q, r, s) in
        let both : none ≡ some b = sym no ∙ h in
        let z : ◌≡◌ {A = ℕ} 0 1 = cc in
        absurd (omega arith)

-- one byte more, where the rest is known
byte_again : (place b : ℕ) (s body : List ℕ) → eqb b 0x7E ≡ false → (x y : Bool) → eqb b 0x7D ≡ x → is_control b ≡ y
    → ((rest : List ℕ) → unstuff_from (place + 1) s ≡ served rest → stuff rest ≡ s)
    → ((rest : List ℕ) → unstuff_escaped place s ≡ served rest → stuff rest ≡ 0x7D ∷ s)
    → cond x (unstuff_escaped place s) (cond y (refused (4 carrying reported_place place)) (prepend b (unstuff_from (place + 1) s))) ≡ served body
    → stuff body ≡ b ∷ s
unfolding stuff
byte_again place b s body u true y p q next escaped h = escaped body h ∙ ap (λ (x : ℕ). x ∷ s) (sym (eqb-true b 0x7D p))
byte_again place b s body u false true p q next escaped h = absurd (refused_not_served h)
byte_again place b s body u false false p q next escaped h =
    let t = prepended b (unstuff_from (place + 1) s) body h in
    rw (t.2, plain_sent b u p q, next t.0 t.1)

escaped_again : (place c : ℕ) (s body : List ℕ) (o : Option ℕ) → left_of escapes c ≡ o
    → ((rest : List ℕ) → unstuff_from (place + 2) s ≡ served rest → stuff rest ≡ s) → meant place o (unstuff_from (place + 2) s) ≡ served body
    → stuff body ≡ 0x7D ∷ c ∷ s
unfolding stuff
escaped_again place c s body none f next h = absurd (refused_not_served h)
escaped_again place c s body (some b) f next h =
    let t = prepended b (unstuff_from (place + 2) s) body h in
    rw (t.2, escaped_sent c b f, next t.0 t.1)

mutual
  unfolding unstuff_from unstuff_escaped stuff

  pub restuffed : (place : ℕ) (s : List ℕ) → Unbroken s → (body : List ℕ) → unstuff_from place s ≡ served body → stuff body ≡ s
  restuffed place [] u body e = ap stuff (sym (served_same [] body e))
  restuffed place (b ∷ s) u body e =
      byte_again place b s body u.0 (eqb b 0x7D) (is_control b) refl refl (λ rest h. restuffed (place + 1) s u.1 rest h)
      (λ rest h. restuffed_escaped place s u.1 rest h) e

  restuffed_escaped : (place : ℕ) (s : List ℕ) → Unbroken s → (body : List ℕ) → unstuff_escaped place s ≡ served body → stuff body ≡ 0x7D ∷ s
  restuffed_escaped place [] u body e = absurd (refused_not_served e)
  restuffed_escaped place (c ∷ s) u body e =
      escaped_again place c s body (left_of escapes c) refl (λ rest h. restuffed (place + 2) s u.1 rest h) e
