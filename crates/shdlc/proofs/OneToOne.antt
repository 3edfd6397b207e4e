-- `answered_as` is one-to-one where the checks of a body are put in words through it: their contract loses nothing. Assumes nothing.
use mathlib.Core.Path.{◌≡◌, refl, sym, ap}
use mathlib.Core.List.{List}
use Prim.Native.Nat.{ℕ}
use Rattle.std.specs.Prelude.{Result, Ok, Err}
use Rattle.refusal.specs.declared.Refusal.{Refusal}
use Rattle.refusal.specs.Refusals.{answered_as}
use Rattle.refusal.proofs.Order.{refused_not_served}
use Rattle.refusal.proofs.OneToOne.{refused_one_to_one}

pub checked_one_to_one : (body : List ℕ) (a b : Result (Unit {0}) Refusal) → answered_as (λ _. body) a ≡ answered_as (λ _. body) b → a ≡ b
checked_one_to_one body (Ok u) (Ok v) e = refl
checked_one_to_one body (Ok u) (Err s) e = absurd (refused_not_served (sym e))
checked_one_to_one body (Err r) (Ok v) e = absurd (refused_not_served e)
checked_one_to_one body (Err r) (Err s) e = ap Err (refused_one_to_one r s e)
