-- Contracts of private functions: nothing that a reader has to believe.
use Rattle.std.specs.Prelude.{ℕ, ◌+◌, ◌-◌, ◌≡◌, List, [], ◌∷◌, ◌++◌, cond, eqb, length, take, drop}
use Rattle.refusal.specs.Room.{overlay}
use Rattle.compare.specs.Compare.{same}
use Rattle.compare_lines.specs.Text.{same_word, word_of, line, differences, joined}

-- as much of a text, from a place of it on, as fits in the room from a place on; and the place after it
abbrev pub Fitted : ℕ → List ℕ → List ℕ → ℕ → List ℕ → ℕ → Type 0
Fitted r after room place text skip =
    (r ≡ place + length (take (length room - place) (drop skip text))) × (after ≡ overlay room place (take (length room - place) (drop skip text)))

-- the line of a mark at a place; an equal place has none
unfoldable pub told : ℕ → ℕ → List ℕ
told m place = cond (eqb m same) [] (line (word_of m) place)

-- the text of marks, of which so many are equal
unfoldable pub told_text : List ℕ → ℕ → List ℕ
told_text marks n = joined (differences 0 marks ++ (line same_word n ∷ []))
