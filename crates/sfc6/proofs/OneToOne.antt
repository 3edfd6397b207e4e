-- The answers of the code can be told from their words in document 01. Assumes nothing.
use mathlib.Core.Path.{◌≡◌, refl, ap}
use Rattle.std.specs.Prelude.{Result, Ok, Err}
use Rattle.refusal.specs.declared.Refusal.{Refusal}
use Rattle.refusal.specs.Refusals.{answered_as}
use Rattle.refusal.proofs.OneToOne.{paper-one_to_one, answered-one_to_one}
use Rattle.sfc6.specs.declared.Round.{Round}
use Rattle.sfc6.specs.Rounds.{Laid, laid_by}

pub passed_one_to_one : {A : Type 0} (a : A) (r s : Result (Unit {0}) Refusal) → answered_as (λ _. a) r ≡ answered_as (λ _. a) s → r ≡ s
passed_one_to_one a (Ok u) (Ok v) e = refl
passed_one_to_one a (Ok u) (Err s) e = cc
passed_one_to_one a (Err r) (Ok v) e = cc
passed_one_to_one a (Err r) (Err s) e = ap Err (paper-one_to_one r s (cc))

pub round-one_to_one : (r s : Round) → laid_by r ≡ laid_by s → r ≡ s
round-one_to_one r s e =
    let frames : r.frames ≡ s.frames = ap (λ (x : Laid). x.0) e in
    let end : r.end ≡ s.end = ap (λ (x : Laid). x.1) e in
    let outcome : r.outcome ≡ s.outcome = answered-one_to_one r.outcome s.outcome (ap (λ (x : Laid). x.2) e) in
    λ i. record { frames = frames i; end = end i; outcome = outcome i }
