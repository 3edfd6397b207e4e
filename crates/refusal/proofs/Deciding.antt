-- When a writer gives each number, and when it serves: the claim of specs/Order.antt, for every list of checks. Assumes nothing.
use mathlib.Core.Path.{◌≡◌, refl, sym, ap, ◌∙◌}
use mathlib.Core.Logic.{◌⊎◌, inl, inr, ⊎_elim}
use mathlib.Core.Bool.{Bool, true, false, cond, true≢false}
use mathlib.Core.List.{List, [], ◌∷◌, ◌++◌}
use Prim.Native.Nat.{ℕ, ◌≤◌, ◌<◌}
use borrow.Author.Tests.{ltb-true, ltb-false}
use lib.Dec.{ltb, eqb}
use lib.ListN.{length}
use Rattle.refusal.specs.Refusals.{Numbered, number, number_in, Answered, served, refused, in_order}
use Rattle.refusal.specs.Room.{overlay, emit, lay}
use Rattle.refusal.specs.Order.{Passed, FirstIs, Decides}
use Rattle.refusal.proofs.Order.{refused_not_served}
use Rattle.refusal.proofs.Room.{emit_refused, emit_served}

wrong : {A : Type 0} → true ≡ false → A
wrong h = absurd (true≢false h)

module _ (bytes room : List ℕ) where
  -- the answer where the checks are these
  abbrev answer : List (Bool × Numbered) → Answered ℕ
  answer checks = (lay (in_order checks bytes) room).0

  -- where 1 alone is left, the answer is by the room
  abbrev last : Bool → Answered ℕ
  last t = (cond {A = Answered ℕ × List ℕ} t (refused (number 1), room) (served (length bytes), overlay room 0 bytes)).0

  refused_last : (n : Numbered) (t : Bool) → last t ≡ refused n → (n ≡ number 1) × (t ≡ true)
  refused_last n true h = (let e : number 1 ≡ n = cc in sym e, refl)
  refused_last n false h = absurd (refused_not_served (sym h))

  served_last : (n : ℕ) (t : Bool) → last t ≡ served n → (n ≡ length bytes) × (t ≡ false)
  served_last n true h = absurd (refused_not_served h)
  served_last n false h = (let e : length bytes ≡ n = cc in sym e, refl)

  -- a number that is given
  abbrev Given : Numbered → List (Bool × Numbered) → Type 0
  Given n checks = FirstIs n checks ⊎ ((n ≡ number 1) × Passed checks × (length room < length bytes))

  given : (n : Numbered) (checks : List (Bool × Numbered)) → answer checks ≡ refused n → Given n checks
  unfolding emit
  given n [] h = let r = refused_last n (ltb (length room) (length bytes)) h in inr (r.0, tt, ltb-true _ _ r.1)
  given n (check ∷ checks) h = go check.0 refl (given n checks) h
    where
      go : (t : Bool) → check.0 ≡ t → (answer checks ≡ refused n → Given n checks)
          → (lay (cond t (refused check.1) (in_order checks bytes)) room).0 ≡ refused n → Given n (check ∷ checks)
      go true e on h = inl (inl (e, let same : check.1 ≡ n = cc in same))
      go false e on h = ⊎_elim (λ f. inl (inr (e, f))) (λ r. inr (r.0, (e, r.1), r.2)) (on h)

  gives : (n : Numbered) (checks : List (Bool × Numbered)) → Given n checks → answer checks ≡ refused n
  gives n [] g = ⊎_elim (λ f. absurd f) (λ r. ap (λ (o : Answered ℕ × List ℕ). o.0) (emit_refused bytes room r.2) ∙ ap refused (sym r.0)) g
  gives n (check ∷ checks) g = go check.0 refl (gives n checks) g
    where
      go : (t : Bool) → check.0 ≡ t → (Given n checks → answer checks ≡ refused n) → Given n (check ∷ checks)
          → (lay (cond t (refused check.1) (in_order checks bytes)) room).0 ≡ refused n
      go true e on g =
          ⊎_elim (λ f. ⊎_elim (λ this. ap refused this.1) (λ later. wrong (sym e ∙ later.0)) f) (λ r. wrong (sym e ∙ r.1.0)) g
      go false e on g =
          on
          (⊎_elim (λ f. ⊎_elim (λ this. wrong (sym this.0 ∙ e)) (λ later. inl later.1) f) (λ r. inr (r.0, r.1.1, r.2)) g)

  -- an answer that serves
  abbrev Served : ℕ → List (Bool × Numbered) → Type 0
  Served n checks = (n ≡ length bytes) × Passed checks × (length bytes ≤ length room)

  served_so : (n : ℕ) (checks : List (Bool × Numbered)) → answer checks ≡ served n → Served n checks
  unfolding emit
  served_so n [] h = let s = served_last n (ltb (length room) (length bytes)) h in (s.0, tt, ltb-false _ _ s.1)
  served_so n (check ∷ checks) h = go check.0 refl (served_so n checks) h
    where
      go : (t : Bool) → check.0 ≡ t → (answer checks ≡ served n → Served n checks)
          → (lay (cond t (refused check.1) (in_order checks bytes)) room).0 ≡ served n → Served n (check ∷ checks)
      go true e on h = absurd (refused_not_served h)
      go false e on h = let s = on h in (s.0, (e, s.1), s.2)

  serves_so : (n : ℕ) (checks : List (Bool × Numbered)) → Served n checks → answer checks ≡ served n
  serves_so n [] s = ap (λ (o : Answered ℕ × List ℕ). o.0) (emit_served bytes room s.2) ∙ ap served (sym s.0)
  serves_so n (check ∷ checks) s = rw s.1.0 (serves_so n checks (s.0, s.1.1, s.2))

  pub decides : (checks : List (Bool × Numbered)) → Decides checks bytes room (answer checks)
  decides checks = record {
    refuses = λ n. (given n checks, gives n checks);
    serves = λ n. (served_so n checks, serves_so n checks);
  }

-- checks that answer alike do so after others
pub in_order_append : {A : Type 0} (checks more less : List (Bool × Numbered)) (a : A) → in_order more a ≡ in_order less a
    → in_order (checks ++ more) a ≡ in_order (checks ++ less) a
in_order_append [] more less a e = e
in_order_append (check ∷ checks) more less a e = rw (in_order_append checks more less a e)

-- a check at the end that never holds where those before it pass changes no answer
pub in_order_idle : {A : Type 0} (checks : List (Bool × Numbered)) (last : Bool) (n : Numbered) (a : A) → (Passed checks → last ≡ false)
    → in_order (checks ++ ((last, n) ∷ [])) a ≡ in_order checks a
in_order_idle [] last n a h = rw (h tt)
in_order_idle {A} (check ∷ checks) last n a h = go check.0 refl (in_order_idle checks last n a)
  where
    go : (t : Bool) → check.0 ≡ t
        → ((Passed checks → last ≡ false) → in_order (checks ++ ((last, n) ∷ [])) a ≡ in_order checks a)
        → cond {A = Answered A} t (refused check.1) (in_order (checks ++ ((last, n) ∷ [])) a) ≡ cond t (refused check.1) (in_order checks a)
    go true e on = refl
    go false e on = on (λ p. h (e, p))

-- a number that no check has
abbrev pub Without : ℕ → List (Bool × Numbered) → Type 0
Without k [] = Unit {0}
Without k (check ∷ checks) = (eqb (number_in check.1) k ≡ false) × Without k checks
