-- The claims about two logs compared. 02 (x): "Two good logs are equal as record lists exactly if no difference line is printed." The
-- proofs are `told_apart` of proofs/Apart.antt and `compares` of proofs/Files.antt.
use Rattle.std.specs.Prelude.{ℕ, zero, suc, max, ◌≤◌, ◌≡◌, ◌↔◌, List, [], ◌∷◌, length}
use Rattle.std.proofs.Math.Option.{Option, none, some}
use Rattle.refusal.specs.Refusals.{Numbered, served, refused}
use Rattle.payload.specs.Field.{Bytes}
use Rattle.wire_log.specs.Log.{LogRecord, kinds, log_of, Good}
use Rattle.wire_log.specs.Check.{records_of}
use Rattle.compare.specs.Compare.{same, differ, only_a, only_b, marks_of, equal_places, marks_in}

-- what stands at a place of a list, from 0
unfoldable pub at : {A : Type 0} → List A → ℕ → Option A
at [] n = none
at (x ∷ xs) zero = some x
at (x ∷ xs) (suc n) = at xs n

pub record ToldApart (xs ys : List LogRecord) : Type 0 where
  -- each mark, by the records at its place
  pub is_same : (n : ℕ) → (at (marks_of xs ys) n ≡ some same) ↔ ((r : LogRecord) × (at xs n ≡ some r) × (at ys n ≡ some r))
  pub is_differ : (n : ℕ) → (at (marks_of xs ys) n ≡ some differ)
      ↔ ((x : LogRecord) × (y : LogRecord) × (at xs n ≡ some x) × (at ys n ≡ some y) × (x ≡ y → ⊥))
  pub is_only_a : (n : ℕ) → (at (marks_of xs ys) n ≡ some only_a) ↔ ((x : LogRecord) × (at xs n ≡ some x) × (at ys n ≡ none))
  pub is_only_b : (n : ℕ) → (at (marks_of xs ys) n ≡ some only_b) ↔ ((y : LogRecord) × (at xs n ≡ none) × (at ys n ≡ some y))
  -- there is a mark for each place, and no other
  pub places : length (marks_of xs ys) ≡ max (length xs) (length ys)
  -- no difference is told exactly if the lists are the same
  pub equal : (equal_places (marks_of xs ys) ≡ length (marks_of xs ys)) ↔ (xs ≡ ys)

pub record Compares : Type 0 where
  -- of two good logs the marks are those of their records, the oldest first
  pub good : (xs ys : List LogRecord) → Good kinds xs → Good kinds ys → marks_in (log_of xs) (log_of ys) ≡ served (marks_of xs ys)
  -- "Where a log is bad, the only line is `refused` with its number from the log's check, the first log's if both are bad."
  pub first_bad : (a b : List ℕ) (n : Numbered) → records_of kinds a ≡ refused n → marks_in a b ≡ refused n
  pub second_bad : (a b : List ℕ) (records : List LogRecord) (n : Numbered) → records_of kinds a ≡ served records → records_of kinds b ≡ refused n
      → marks_in a b ≡ refused n
  -- no two logs have more places
  pub most_places : (a b marks : List ℕ) → Bytes a → Bytes b → marks_in a b ≡ served marks → length marks ≤ 21666
