-- The line of a failure: what failed, a colon and a blank, some text that the system has for the error, and the line's end.
use Rattle.std.specs.Prelude.{ℕ, List, [], ◌∷◌, ◌++◌, Option}
use Rattle.std.specs.Io.KnownBytes.{Appends}

-- known bytes grow by such a line
abbrev pub AppendsLine : Option (List ℕ) → Option (List ℕ) → List ℕ → Type 0
AppendsLine old new what = (said : List ℕ) × Appends old new (what ++ (58 ∷ 32 ∷ []) ++ said ++ (10 ∷ []))
