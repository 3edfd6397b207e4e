-- The claims of specs/Claims.antt: the lines exactly where the records differ, and the parts of the text. Assumes nothing.
use mathlib.Core.Path.{◌≡◌, refl, ap, ◌∙◌}
use mathlib.Core.Bool.{Bool, true, false, cond}
use mathlib.Core.List.{List, [], ◌∷◌, ◌++◌}
use Prim.Native.Nat.{ℕ, zero, suc, ◌+◌, ◌-◌, ◌*◌, ◌/◌, ◌%◌, ◌≤◌}
use native.Mathlib.Omega.{arith}
use lib.Dec.{eqb, ltb}
use lib.ListN.{length, length-append}
use borrow.Author.Tests.{ltb-true, ltb-false}
use Rattle.refusal.specs.Refusals.{number_in, Answered, served, refused}
use Rattle.payload.specs.Field.{Bytes}
use Rattle.lines.specs.Text.{digit, decimal}
use Rattle.lines.proofs.Decimal.{decimal_digit, decimal-more, decimal_u16}
use Rattle.wire_log.specs.Text.{refused_line}
use Rattle.wire_log.proofs.Lines.{length_refused}
use Rattle.compare.specs.Compare.{equal_places, marks_in}
use Rattle.compare.proofs.MarkLaws.{equal_most}
use Rattle.compare.proofs.Files.{places_within}
use Rattle.compare_lines.specs.Text.{same_word, word_of, line, differences, lines_by, joined, compare_text}
use Rattle.compare_lines.proofs.Fitting.{length-line, seven, lines_append}

-- how long the text is
lines_within : (place : ℕ) (marks : List ℕ) → place + length marks ≤ 65536 → length (joined (differences place marks)) ≤ 13 * length marks
unfolding differences joined
lines_within place [] h = omega arith
lines_within place (m ∷ marks) h = go (eqb m 0) (lines_within (place + 1) marks (omega arith))
  where
    go : (t : Bool) → length (joined (differences (place + 1) marks)) ≤ 13 * length marks
        → length (joined (cond t (differences (place + 1) marks) (line (word_of m) place ∷ differences (place + 1) marks))) ≤ 13 * suc (length marks)
    go true l = omega arith
    go false l =
        omega (
          arith,
          l,
          length-append (line (word_of m) place) (joined (differences (place + 1) marks)),
          length-line (word_of m) place,
          seven m,
          decimal_u16 place (omega arith),
        )

pub text_short : (a b : List ℕ) → Bytes a → Bytes b → length (compare_text a b) ≤ 300000
unfolding compare_text joined
text_short a b bytes-a bytes-b = go (marks_in a b) refl
  where
    go : (m : Answered (List ℕ)) → marks_in a b ≡ m → length (joined (lines_by m)) ≤ 300000
    go (refused n) e = omega (arith, length-append (refused_line (number_in n)) [], length_refused (number_in n))
    go (served marks) e =
        let few = places_within a b bytes-a bytes-b marks e in
        let equal = equal_most marks in
        let last : List ℕ = line same_word (equal_places marks) in
        omega (
          arith,
          few,
          ap length (lines_append (differences 0 marks) (last ∷ [])),
          length-append (joined (differences 0 marks)) (last ++ []),
          length-append last [],
          lines_within 0 marks (omega arith),
          length-line same_word (equal_places marks),
          decimal_u16 (equal_places marks) (omega arith),
        )

-- ---- a line tells its word and its number
-- the number that digits say, after those that said n
value_from : ℕ → List ℕ → ℕ
value_from n [] = n
value_from n (b ∷ text) = value_from (n * 10 + (b - 48)) text

value_append : (n : ℕ) (xs ys : List ℕ) → value_from n (xs ++ ys) ≡ value_from (value_from n xs) ys
unfolding value_from
value_append n [] ys = refl
value_append n (x ∷ xs) ys = value_append (n * 10 + (x - 48)) xs ys

value_within : (turns n : ℕ) → n ≤ turns → value_from 0 (decimal n) ≡ n
unfolding value_from
value_within zero n h = ap (value_from 0) (decimal_digit n (omega arith)) ∙ omega arith
value_within (suc turns) n h = go (ltb n 10) refl (value_within turns (n / 10) (omega arith))
  where
    go : (t : Bool) → ltb n 10 ≡ t → value_from 0 (decimal (n / 10)) ≡ n / 10 → value_from 0 (decimal n) ≡ n
    go true e less = ap (value_from 0) (decimal_digit n (ltb-true n 10 e)) ∙ omega arith
    go false e less =
        let more = ltb-false n 10 e in
        ap (value_from 0) (decimal-more n more)
        ∙ value_append 0 (decimal (n / 10)) (digit (n % 10) ∷ [])
        ∙ ap (λ (k : ℕ). k * 10 + (digit (n % 10) - 48)) less
        ∙ omega arith
