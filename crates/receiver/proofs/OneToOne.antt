-- The translations of `Calls` are one-to-one: a contract stated through one loses nothing. Assumes nothing.
use mathlib.Core.Path.{◌≡◌, refl, sym, ap}
use mathlib.Core.List.{List}
use Prim.Native.Nat.{ℕ}
use native.Mathlib.Omega.{arith}
use lib.ListN.{take}
use Rattle.std.specs.Prelude.{Option, Some, None, Result, Ok, Err}
use Rattle.refusal.specs.declared.Refusal.{Refusal}
use Rattle.refusal.specs.Refusals.{Answered, served, refused, paper, answered_as}
use Rattle.refusal.proofs.OneToOne.{refused_one_to_one}
use Rattle.refusal.proofs.Order.{refused_not_served}
use Rattle.receiver.specs.declared.Receiver.{Receiver}
use Rattle.receiver.specs.declared.Fed.{Fed}
use Rattle.receiver.specs.Record.{held}
use Rattle.receiver.specs.Calls.{nothing, gave, Outcome, paper_answer, paper_fed}

pub held-one_to_one : (r s : Receiver) (store other : List ℕ) → held r store ≡ held s other → r ≡ s
held-one_to_one r s store other e = λ i. record { kind = (e i).kind; mode = (e i).mode; len = (e i).len; noise = (e i).noise }

nothing_not_gave : (a : Answered ℕ) → nothing ≡ gave a → ⊥
nothing_not_gave a e = let z : ◌≡◌ {A = ℕ} 0 1 = cc in omega arith

gave_same : (a b : Answered ℕ) → gave a ≡ gave b → a ≡ b
gave_same a b e = cc

pub answer-one_to_one : (a b : Result (Option ℕ) Refusal) → paper_answer a ≡ paper_answer b → a ≡ b
answer-one_to_one (Ok None) (Ok None) e = refl
answer-one_to_one (Ok None) (Ok (Some m)) e = absurd (nothing_not_gave (served m) e)
answer-one_to_one (Ok None) (Err s) e = absurd (nothing_not_gave (refused (paper s)) e)
answer-one_to_one (Ok (Some n)) (Ok None) e = absurd (nothing_not_gave (served n) (sym e))
answer-one_to_one (Ok (Some n)) (Ok (Some m)) e = ap (λ (x : ℕ). Ok (Some x)) (let z : n ≡ m = cc in z)
answer-one_to_one (Ok (Some n)) (Err s) e = absurd (refused_not_served (sym (gave_same (served n) (refused (paper s)) e)))
answer-one_to_one (Err r) (Ok None) e = absurd (nothing_not_gave (refused (paper r)) (sym e))
answer-one_to_one (Err r) (Ok (Some m)) e = absurd (refused_not_served (gave_same (refused (paper r)) (served m) e))
answer-one_to_one (Err r) (Err s) e = ap Err (refused_one_to_one r s (gave_same (refused (paper r)) (refused (paper s)) e))

pub fed-one_to_one : (f g : Fed) (store other buffer room : List ℕ) → paper_fed f store buffer ≡ paper_fed g other room → f ≡ g
fed-one_to_one f g store other buffer room e =
    let r : f.receiver ≡ g.receiver = held-one_to_one f.receiver g.receiver store other (ap (λ (x : Outcome). x.leaves) e) in
    let a : f.answer ≡ g.answer = answer-one_to_one f.answer g.answer (ap (λ (x : Outcome). x.result.said) e) in
    λ i. record { receiver = r i; taken = (e i).result.taken; answer = a i }

-- what `fresh` answers, with the store that it is given back beside it
pub made-one_to_one : (a b : Result Receiver Refusal) (store other : List ℕ)
    → answered_as (λ r. held r (take 260 store)) a ≡ answered_as (λ r. held r (take 260 other)) b → a ≡ b
made-one_to_one (Ok r) (Ok s) store other e =
    ap Ok (held-one_to_one r s (take 260 store) (take 260 other) (let z : held r (take 260 store) ≡ held s (take 260 other) = cc in z))
made-one_to_one (Ok r) (Err s) store other e = absurd (refused_not_served (sym e))
made-one_to_one (Err r) (Ok s) store other e = absurd (refused_not_served e)
made-one_to_one (Err r) (Err s) store other e = ap Err (refused_one_to_one r s e)
