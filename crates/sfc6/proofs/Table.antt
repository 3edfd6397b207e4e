-- Laws of the requests by their numbers. Assumes nothing.
use mathlib.Core.Path.{◌≡◌, refl, ap, ◌∙◌}
use Prim.Native.Nat.{ℕ, zero, suc, ◌+◌, ◌-◌, ◌≤◌}
use native.Mathlib.Omega.{arith}
use lib.ListN.{get_or, drop}
use lib.Seq.{get_or-drop}
use Rattle.sfc6.specs.declared.Request.{Request}
use Rattle.sfc6.specs.declared.Request.TheVariants.{ProductType}
use Rattle.sfc6.specs.Commands.{table, request_at}

-- what the last arm of a `match` on 0, 1, .. knows of the number
abbrev pub NoneBelow : ℕ → ℕ → Type 0
NoneBelow place zero = Unit {0}
NoneBelow place (suc n) = NoneBelow place n × (place ≡ n → ⊥)

-- the request of the last number
abbrev pub last : ℕ → Request
last n = ProductType

past_last : (k : ℕ) → last ≡ get_or (drop 20 table) k last
past_last zero = refl
past_last (suc k) = refl

pub request-last : (place n : ℕ) → 20 ≤ place → ProductType ≡ request_at place n
request-last place n h =
    let e : 20 + (place - 20) ≡ place = omega arith in
    ap (λ (f : ℕ → Request). f n) (past_last (place - 20) ∙ get_or-drop 20 table (place - 20) last)
    ∙ ap (λ (m : ℕ). request_at m n) e
