-- The text of two files, by what their comparison answers. Assumes nothing.
use mathlib.Core.Path.{◌≡◌, refl, sym, ap, ◌∙◌}
use mathlib.Core.List.{List, append-nil}
use Prim.Native.Nat.{ℕ, ◌≤◌}
use native.Mathlib.Omega.{arith}
use lib.ListN.{length, take}
use borrow.Author.Tests.{le-ltb}
use Rattle.refusal.specs.Refusals.{Numbered, number_in, Answered, served, refused}
use Rattle.refusal.specs.Room.{overlay}
use Rattle.refusal.proofs.Order.{refused_not_served}
use Rattle.refusal.proofs.Room.{take-overlay}
use Rattle.payload.specs.Field.{Bytes}
use Rattle.wire_log.specs.Text.{refused_line}
use Rattle.compare.specs.Compare.{equal_places, marks_in, laid_by, compare}
use Rattle.compare.proofs.Files.{places_within}
use Rattle.compare_lines.specs.Text.{lines_by, joined, compare_text}
use Rattle.compare_lines.specs.Private.{told_text}

-- what a comparison with room for all places says
pub record Done (a b after : List ℕ) (places same : ℕ) : Type 0 where
  pub marks : List ℕ
  pub are : marks_in a b ≡ served marks
  pub many : places ≡ length marks
  pub equal : same ≡ equal_places marks
  pub stand : take places after ≡ marks

module _ (a b room : List ℕ) (bytes-a : Bytes a) (bytes-b : Bytes b) (long : 21666 ≤ length room) where
  laid_all : (marks : List ℕ) → marks_in a b ≡ served marks → compare a b room ≡ (served (length marks, equal_places marks), overlay room 0 marks)
  unfolding compare
  laid_all marks e =
      ap (λ (m : Answered (List ℕ)). laid_by m room) e
      ∙ rw (le-ltb (length room) (length marks) (omega (arith, long, places_within a b bytes-a bytes-b marks e)))

  laid_none : (n : Numbered) → marks_in a b ≡ refused n → compare a b room ≡ (refused n, room)
  unfolding compare
  laid_none n e = ap (λ (m : Answered (List ℕ)). laid_by m room) e

  pub of_refused : {n : Numbered} {after : List ℕ} → (refused n, after) ≡ compare a b room → marks_in a b ≡ refused n
  of_refused {n} {after} e = go (marks_in a b) refl
    where
      go : (m : Answered (List ℕ)) → marks_in a b ≡ m → marks_in a b ≡ refused n
      go (served marks) f =
          absurd (refused_not_served (ap (λ (o : Answered (ℕ × ℕ) × List ℕ). o.0) (e ∙ laid_all marks f)))
      go (refused k) f =
          let same : ◌≡◌ {A = Answered (ℕ × ℕ)} (refused n) (refused k) = ap (λ (o : Answered (ℕ × ℕ) × List ℕ). o.0) (e ∙ laid_none k f) in
          let is : n ≡ k = cc in
          f ∙ ap (λ (j : Numbered). refused j) (sym is)

  pub of_done : {places same : ℕ} {after : List ℕ} → (served (places, same), after) ≡ compare a b room → Done a b after places same
  of_done {places} {same} {after} e = go (marks_in a b) refl
    where
      go : (m : Answered (List ℕ)) → marks_in a b ≡ m → Done a b after places same
      go (refused k) f =
          absurd (refused_not_served (ap (λ (o : Answered (ℕ × ℕ) × List ℕ). o.0) (sym (e ∙ laid_none k f))))
      go (served marks) f =
          let is : ◌≡◌ {A = Answered (ℕ × ℕ)} (served (places, same)) (served (length marks, equal_places marks)) =
          ap (λ (o : Answered (ℕ × ℕ) × List ℕ). o.0) (e ∙ laid_all marks f) in
          let pair : ◌≡◌ {A = ℕ × ℕ} (places, same) (length marks, equal_places marks) = cc in
          let many : places ≡ length marks = ap (λ (p : ℕ × ℕ). p.0) pair in
          record {
            marks = marks;
            are = f;
            many = many;
            equal = ap (λ (p : ℕ × ℕ). p.1) pair;
            stand =
                (λ i. take (many i) (ap (λ (o : Answered (ℕ × ℕ) × List ℕ). o.1) (e ∙ laid_all marks f) i))
                ∙ take-overlay room marks;
          }

-- the text
module _ (a b : List ℕ) where
  pub text_refused : (n : Numbered) → marks_in a b ≡ refused n → refused_line (number_in n) ≡ compare_text a b
  unfolding compare_text joined
  text_refused n e = sym (ap (λ (m : Answered (List ℕ)). joined (lines_by m)) e ∙ append-nil (refused_line (number_in n)))

  pub text_done : {after : List ℕ} {places same : ℕ} → Done a b after places same → told_text (take places after) same ≡ compare_text a b
  unfolding compare_text told_text
  text_done d =
      (λ i. told_text (d.stand i) (d.equal i)) ∙ ap (λ (m : Answered (List ℕ)). joined (lines_by m)) (sym d.are)
