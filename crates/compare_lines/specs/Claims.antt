-- The claims about what the program compare prints. The proof is `prints` of proofs/Prints.antt.
use Rattle.std.specs.Prelude.{ℕ, ◌≤◌, ◌<◌, ◌≡◌, ◌↔◌, ◌⊎◌, List, [], ◌∷◌, length, take}
use Rattle.std.proofs.Math.Option.{none, some}
use Rattle.payload.specs.Field.{Bytes}
use Rattle.wire_log.specs.Log.{LogRecord}
use Rattle.wire_log.specs.Text.{window, printed_on}
use Rattle.compare.specs.Compare.{marks_of}
use Rattle.compare.specs.Claims.{at}
use Rattle.compare_lines.specs.Text.{differ_word, only_aWord, only_bWord, line, differences, compare_text}

-- a line stands among lines
unfoldable pub Among : List ℕ → List (List ℕ) → Type 0
Among l [] = ⊥
Among l (m ∷ lines) = (l ≡ m) ⊎ Among l lines

-- of two lists of records, the oldest first
pub record Lines (xs ys : List LogRecord) : Type 0 where
  -- "`differ 3` where kind or body differ, `only-a 4` or `only-b 4` past the shorter log's end": each exactly there
  pub differ-line : (n : ℕ) → Among (line differ_word n) (differences 0 (marks_of xs ys))
      ↔ ((x : LogRecord) × (y : LogRecord) × (at xs n ≡ some x) × (at ys n ≡ some y) × (x ≡ y → ⊥))
  pub only_a_line : (n : ℕ) → Among (line only_aWord n) (differences 0 (marks_of xs ys))
      ↔ ((x : LogRecord) × (at xs n ≡ some x) × (at ys n ≡ none))
  pub only_b_line : (n : ℕ) → Among (line only_bWord n) (differences 0 (marks_of xs ys))
      ↔ ((y : LogRecord) × (at xs n ≡ none) × (at ys n ≡ some y))
  -- "Two good logs are equal as record lists exactly if no difference line is printed."
  pub equal : (differences 0 (marks_of xs ys) ≡ []) ↔ (xs ≡ ys)

-- the parts of a text, as for the text of one log
pub record Parts : Type 0 where
  -- whatever the room, they are its beginning, nothing left out and nothing twice
  pub begins : (a b : List ℕ) (rooms : List (List ℕ)) → (n : ℕ) × (printed_on (compare_text a b) 0 rooms ≡ take n (compare_text a b))
  -- with room for a byte it goes on as long as there is one
  pub goes_on : (a b : List ℕ) (from : ℕ) (room : List ℕ) → from < length (compare_text a b) → 0 < length room
      → 0 < (window (compare_text a b) from room).0
  -- and it ends: no text of two files is longer than 300,000 bytes
  pub ends : (a b : List ℕ) → Bytes a → Bytes b → length (compare_text a b) ≤ 300000
