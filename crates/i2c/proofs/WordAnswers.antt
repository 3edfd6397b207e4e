-- The answers of the word reader and the word writer: one law for each `return`, in the order of the code's tests. Assumes nothing.
use mathlib.Core.Path.{◌≡◌, refl, sym, ◌∙◌}
use mathlib.Core.List.{List, [], ◌∷◌}
use Prim.Native.Nat.{ℕ, ◌*◌, ◌/◌, ◌%◌, ◌≤◌, ◌<◌}
use native.Mathlib.Omega.{arith}
use lib.ListN.{length}
use borrow.Author.Tests.{eq-eqb, ne_eqb}
use Rattle.refusal.specs.Refusals.{number, ◌carrying◌, served}
use Rattle.refusal.specs.Room.{overlay, emit}
use Rattle.refusal.proofs.Room.{emit_refused, emit_served}
use Rattle.i2c.specs.Answer.{refuse}
use Rattle.i2c.specs.Word.{bytes_of, words_of, first_wrong, paper_checked, no_words, read_checked, read_words, write_words}
use Rattle.std.specs.Prelude.{Option, Some, None}
use Rattle.i2c.proofs.WordLaws.{words_count, bytes_count, three_stored}

-- reading words
module _ (s : ℕ) (bs lent : List ℕ) where
  pub read-empty : length bs ≡ 0 → refuse (number 16) lent ≡ read_words s bs lent
  unfolding read_words no_words
  read-empty e = rw (eq-eqb _ _ e)

  module _ (some : length bs ≡ 0 → ⊥) where
    pub read_ragged : (length bs % 3 ≡ 0 → ⊥) → refuse (number 16) lent ≡ read_words s bs lent
    unfolding read_words no_words
    read_ragged h = rw (ne_eqb _ _ some, ne_eqb _ _ h)

    module _ (whole : length bs % 3 ≡ 0) (r : Option ℕ) (checked : paper_checked r ≡ first_wrong s bs) where
      judged : read_checked (paper_checked r) bs lent ≡ read_words s bs lent
      unfolding read_words no_words
      judged = rw (ne_eqb _ _ some, eq-eqb _ _ whole, ← checked)

      pub read-wrong : (k : ℕ) → r ≡ Some k → refuse (17 carrying k) lent ≡ read_words s bs lent
      unfolding read_checked
      read-wrong k e = rw e at judged

      module _ (good : r ≡ None) where
        stored : emit (words_of bs) lent ≡ read_words s bs lent
        unfolding read_checked
        stored = rw good at judged

        pub read_no_room : length lent < length bs / 3 → refuse (number 1) lent ≡ read_words s bs lent
        read_no_room h = sym (emit_refused (words_of bs) lent (rw words_count h)) ∙ stored

        pub read_all : {last : List ℕ} → length bs / 3 ≤ length lent → last ≡ overlay lent 0 (words_of bs) → (served (length bs / 3), last) ≡ read_words s bs lent
        read_all h e = rw (e, ← words_count bs) (sym (emit_served (words_of bs) lent (rw words_count h)) ∙ stored)

-- reading three words
module _ (s : ℕ) (bs lent : List ℕ) (nine : length bs ≡ 9) (r : Option ℕ) (checked : paper_checked r ≡ first_wrong s bs) where
  some : length bs ≡ 0 → ⊥
  some z = omega (arith, nine, z)

  whole : length bs % 3 ≡ 0
  whole = rw nine

  pub three_wrong : (k : ℕ) → r ≡ Some k → refuse (17 carrying k) lent ≡ read_words s bs lent
  three_wrong = read-wrong s bs lent some whole r checked

  module _ (good : r ≡ None) where
    pub three_no_room : length lent < 3 → refuse (number 1) lent ≡ read_words s bs lent
    three_no_room h = read_no_room s bs lent some whole r checked good (rw nine h)

    pub three_all : {last : List ℕ} → 3 ≤ length lent → last ≡ overlay lent 0 (words_of bs) → (served 3, last) ≡ read_words s bs lent
    three_all h e = rw nine at (read_all s bs lent some whole r checked good (rw nine h) e)

-- writing words
pub write_none_lem : (s : ℕ) (ws lent : List ℕ) → length ws ≡ 0 → refuse (number 16) lent ≡ write_words s ws lent
unfolding write_words
write_none_lem s [] lent e = refl
write_none_lem s (w ∷ ws) lent e = absurd (omega arith)

write_some : (s : ℕ) (ws lent : List ℕ) → (length ws ≡ 0 → ⊥) → emit (bytes_of s ws) lent ≡ write_words s ws lent
unfolding write_words
write_some s [] lent h = absurd (h refl)
write_some s (w ∷ ws) lent h = refl

module _ (s : ℕ) (ws lent : List ℕ) (some : length ws ≡ 0 → ⊥) where
  pub write_no_room : length lent / 3 < length ws → refuse (number 1) lent ≡ write_words s ws lent
  write_no_room h = sym (emit_refused (bytes_of s ws) lent (omega (arith, bytes_count s ws))) ∙ write_some s ws lent some

  pub write_all : {last : List ℕ} → length ws ≤ length lent / 3 → last ≡ overlay lent 0 (bytes_of s ws) → (served (length ws * 3), last) ≡ write_words s ws lent
  write_all h e =
      rw (e, ← bytes_count s ws) (sym (emit_served (bytes_of s ws) lent (omega (arith, bytes_count s ws))) ∙ write_some s ws lent some)

pub ruleset three_read = (three_no_room, three_all, three_stored)

pub ruleset words_read = (read-empty, read_ragged, read_no_room, words_count)

pub ruleset words_written = (write_none_lem, write_no_room)
