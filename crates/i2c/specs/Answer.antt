-- What a function that stores into a lent slice answers, and what the slice holds afterwards.
use Rattle.std.specs.Prelude.{ℕ, List}
use Rattle.refusal.specs.Refusals.{Numbered, Answered, refused}

-- the answer, and the lent slice afterwards
abbrev pub Outcome : Type 0
Outcome = Answered ℕ × List ℕ

-- 01, Refusal numbers: all leave lent buffers unchanged
abbrev pub refuse : Numbered → List ℕ → Outcome
refuse n lent = (refused n, lent)
