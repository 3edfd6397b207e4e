-- Checks in their order, followed by more checks. Assumes nothing.
use mathlib.Core.Path.{◌≡◌, refl, sym, ap, ◌∙◌}
use mathlib.Core.Logic.{◌⊎◌, inl, inr, ⊎_elim}
use mathlib.Core.Bool.{Bool, true, false, cond}
use mathlib.Core.List.{List, [], ◌∷◌, ◌++◌}
use Rattle.refusal.specs.Refusals.{Numbered, Answered, served, refused, in_order}
use Rattle.refusal.proofs.Order.{refused_not_served}
use Rattle.sfc6.specs.Reading.{and_then}

-- an answer does not serve and refuse
pub never : {A B : Type 0} {a : A} {n : Numbered} → served a ≡ refused n → B
never h = absurd (refused_not_served (sym h))

module _ {A B : Type 0} (a : A) (b : B) (more : List (Bool × Numbered)) where
  -- what refuses first still does
  pub first_refuses : (checks : List (Bool × Numbered)) {n : Numbered} → in_order checks a ≡ refused n → in_order (checks ++ more) b ≡ refused n
  first_refuses [] h = never h
  first_refuses (check ∷ checks) {n} h = go check.0 (first_refuses checks) h
    where
      go : (t : Bool) → (in_order checks a ≡ refused n → in_order (checks ++ more) b ≡ refused n)
          → cond t (refused check.1) (in_order checks a) ≡ refused n → cond t (refused check.1) (in_order (checks ++ more) b) ≡ refused n
      go true on h = let e : check.1 ≡ n = cc in ap refused e
      go false on h = on h

  -- where the first let pass, the others decide
  pub then_more : (checks : List (Bool × Numbered)) {c : A} → in_order checks a ≡ served c → in_order (checks ++ more) b ≡ in_order more b
  then_more [] h = refl
  then_more (check ∷ checks) {c} h = go check.0 (then_more checks) h
    where
      go : (t : Bool) → (in_order checks a ≡ served c → in_order (checks ++ more) b ≡ in_order more b)
          → cond t (refused check.1) (in_order checks a) ≡ served c → cond t (refused check.1) (in_order (checks ++ more) b) ≡ in_order more b
      go true on h = never (sym h)
      go false on h = on h

-- checks pass, or one of them refuses
pub passes_or_refuses : {A : Type 0} (checks : List (Bool × Numbered)) (a : A)
    → (in_order checks a ≡ served a) ⊎ ((n : Numbered) × (in_order checks a ≡ refused n))
passes_or_refuses [] a = inl refl
passes_or_refuses (check ∷ checks) a = go check.0 (passes_or_refuses checks a)
  where
    go : (t : Bool) → (in_order checks a ≡ served a) ⊎ ((n : Numbered) × (in_order checks a ≡ refused n))
        → (cond t (refused check.1) (in_order checks a) ≡ served a) ⊎ ((n : Numbered) × (cond t (refused check.1) (in_order checks a) ≡ refused n))
    go true on = inr (check.1, refl)
    go false on = on

-- what checks serve is what was offered
pub serves_it : {A : Type 0} (checks : List (Bool × Numbered)) (a : A) {c : A} → in_order checks a ≡ served c → a ≡ c
serves_it checks a {c} h =
    ⊎_elim (λ e. let f : served a ≡ served c = sym e ∙ h in cc) (λ e. never (sym h ∙ e.1)) (passes_or_refuses checks a)

-- an answer that is taken further
pub and_then_served : {A B : Type 0} (answer : Answered A) (next : A → Answered B) {b : B} → and_then answer next ≡ served b
    → (a : A) × (answer ≡ served a) × (next a ≡ served b)
and_then_served (served a) next h = (a, refl, h)
and_then_served (refused n) next h = never (sym h)
