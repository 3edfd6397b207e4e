-- 01, Refusal numbers, "Order": which number a writer gives, and when it serves. Claims are stated in these words.
use Rattle.std.specs.Prelude.{ℕ, ◌≤◌, ◌<◌, ◌≡◌, ◌⊎◌, ◌↔◌, Bool, true, false, List, [], ◌∷◌, length}
use Rattle.refusal.specs.Refusals.{Numbered, number, Answered, served, refused}

-- no check of a list holds
abbrev pub Passed : List (Bool × Numbered) → Type 0
Passed [] = Unit {0}
Passed (check ∷ checks) = (check.0 ≡ false) × Passed checks

-- the first check that holds has this number
abbrev pub FirstIs : Numbered → List (Bool × Numbered) → Type 0
FirstIs n [] = ⊥
FirstIs n (check ∷ checks) = ((check.0 ≡ true) × (check.1 ≡ n)) ⊎ ((check.0 ≡ false) × FirstIs n checks)

-- the answer of a writer that has these checks, then 1, and these bytes to write: when it gives each number, and when it serves
pub record Decides (checks : List (Bool × Numbered)) (bytes room : List ℕ) (answer : Answered ℕ) : Type 0 where
  pub refuses : (n : Numbered)
      → (answer ≡ refused n) ↔ (FirstIs n checks ⊎ ((n ≡ number 1) × Passed checks × (length room < length bytes)))
  pub serves : (n : ℕ) → (answer ≡ served n) ↔ ((n ≡ length bytes) × Passed checks × (length bytes ≤ length room))
