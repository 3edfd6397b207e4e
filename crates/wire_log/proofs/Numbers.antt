-- A field that is there is read. Assumes nothing.
use mathlib.Core.Path.{◌≡◌, refl, sym, ap, ◌∙◌}
use mathlib.Core.List.{List}
use Prim.Native.Nat.{ℕ, ◌+◌, ◌≤◌}
use native.Mathlib.Omega.{arith}
use lib.ListN.{length, get_or, take, drop}
use Rattle.refusal.specs.Refusals.{Numbered, Answered, served, refused, answered}
use Rattle.refusal.specs.declared.Refusal.{Refusal}
use Rattle.refusal.proofs.Order.{refused_not_served}
use Rattle.payload.specs.Field.{big, taken_at}
use Rattle.payload.proofs.At.{taken_served}
use Rattle.payload.proofs.Big.{big-one, big_split}
use Rattle.std.specs.Prelude.{Result, Ok, Err, IsOk}

module _ (file : List ℕ) (place width : ℕ) (there : place + width ≤ length file) where
  taken : (taken_at file place width).0 ≡ served (big (take width (drop place file)))
  taken = ap (λ (t : Answered ℕ × ℕ). t.0) (taken_served file place width there)

  pub number_there : {n : ℕ} → served n ≡ (taken_at file place width).0 → n ≡ big (take width (drop place file))
  number_there {n} e = let z : served n ≡ served (big (take width (drop place file))) = e ∙ taken in cc

  pub number_not : {A : Type 0} {n : Numbered} → refused n ≡ (taken_at file place width).0 → A
  number_not e = absurd (refused_not_served (e ∙ taken))

  pub value_there : (r : Result ℕ Refusal) → answered r ≡ (taken_at file place width).0 → IsOk r
  value_there r e = go r (e ∙ taken)
    where
      go : (r : Result ℕ Refusal) → answered r ≡ served (big (take width (drop place file))) → IsOk r
      go (Ok n) e = refl
      go (Err why) e = absurd (refused_not_served e)

-- a number of two bytes with nothing in the first
pub low_byte : (file : List ℕ) (place next : ℕ) → next ≡ place + 1 → place + 2 ≤ length file → get_or file place 0 ≡ 0
    → get_or file next 0 ≡ big (take 2 (drop place file))
low_byte file place next e there none =
    let high : big (take 1 (drop place file)) ≡ 0 = big-one file place (omega arith) ∙ none in
    let low : big (take 1 (drop (place + 1) file)) ≡ get_or file (place + 1) 0 = big-one file (place + 1) (omega arith) in
    ap (λ (n : ℕ). get_or file n 0) e ∙ sym (big_split file place 1 1 there ∙ rw (high, low) (omega arith))
