-- The text that the program compare prints of two logs. 02 (x): "`differ 3` where kind or body differ, `only-a 4` or `only-b 4` past the
-- shorter log's end, then `same N` with the number of equal places. [..] Where a log is bad, the only line is `refused` with its number".
-- ASCII, each line ended by a line feed.
use Rattle.std.specs.Prelude.{ℕ, ◌+◌, cond, List, [], ◌∷◌, ◌++◌, eqb}
use Rattle.refusal.specs.Refusals.{number_in, Answered, served, refused}
use Rattle.lines.specs.Text.{decimal}
use Rattle.wire_log.specs.Text.{refused_line}
use Rattle.compare.specs.Compare.{same, differ, only_a, equal_places, marks_in}

-- differ, only-a, only-b and same, each with a space
abbrev pub differ_word : List ℕ
differ_word = 100 ∷ 105 ∷ 102 ∷ 102 ∷ 101 ∷ 114 ∷ 32 ∷ []

abbrev pub only_aWord : List ℕ
only_aWord = 111 ∷ 110 ∷ 108 ∷ 121 ∷ 45 ∷ 97 ∷ 32 ∷ []

abbrev pub only_bWord : List ℕ
only_bWord = 111 ∷ 110 ∷ 108 ∷ 121 ∷ 45 ∷ 98 ∷ 32 ∷ []

abbrev pub same_word : List ℕ
same_word = 115 ∷ 97 ∷ 109 ∷ 101 ∷ 32 ∷ []

unfoldable pub word_of : ℕ → List ℕ
word_of mark = cond (eqb mark differ) differ_word (cond (eqb mark only_a) only_aWord only_bWord)

-- a word, a number and the line feed
unfoldable pub line : List ℕ → ℕ → List ℕ
line word n = word ++ (decimal n ++ (10 ∷ []))

-- the lines of marks, the first of them at a place: one for each difference
unfoldable pub differences : ℕ → List ℕ → List (List ℕ)
differences place [] = []
differences place (m ∷ marks) =
    cond (eqb m same) (differences (place + 1) marks) (line (word_of m) place ∷ differences (place + 1) marks)

-- all lines
abbrev pub lines_by : Answered (List ℕ) → List (List ℕ)
lines_by (served marks) = differences 0 marks ++ (line same_word (equal_places marks) ∷ [])
lines_by (refused n) = refused_line (number_in n) ∷ []

unfoldable pub joined : List (List ℕ) → List ℕ
joined [] = []
joined (l ∷ lines) = l ++ joined lines

-- all that is printed of two files
unfoldable pub compare_text : List ℕ → List ℕ → List ℕ
compare_text a b = joined (lines_by (marks_in a b))
