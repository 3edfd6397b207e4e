-- What a program knows that goes through a log by halves. Assumes nothing.
use Prim.Native.Nat.{ℕ, ◌+◌, ◌≤◌, ◌<◌}
use native.Mathlib.Omega.{arith}
use mathlib.Core.Path.{◌≡◌, refl, ap, ◌∙◌}
use mathlib.Core.List.{List}
use lib.ListN.{length}
use Rattle.std.specs.Prelude.{Result, Ok, Err, IfSome, IsSome}
use Rattle.std.specs.Result.{result_ok}
use borrow.Author.Tests.{lt-ltb, le-ltb}
use Rattle.refusal.specs.declared.Refusal.{Refusal}
use Rattle.refusal.specs.Refusals.{Answered, served, refused, answered_as}
use Rattle.payload.specs.Field.{Bytes}
use Rattle.wire_log.specs.Log.{LogRecord, Rule}
use Rattle.wire_log.specs.Check.{ending_at}
use Rattle.wire_log.specs.declared.oldest.Found.{Found}
use Rattle.wire_log.specs.Listing.{Row, rowed, row_of}
use Rattle.wire_log.specs.Private.{found_in}
use Rattle.wire_log.specs.Oldest.{records_to, row_or, row_found, newest_to}
use Rattle.wire_log.proofs.Turns.{Turn, turn, stopped, found_ends}

module _ (rule : Rule) (file : List ℕ) (place : ℕ) where
  pub newest_past : length file < place → rowed 0 0 0 ≡ newest_to rule file place
  unfolding newest_to
  newest_past h = rw (lt-ltb (length file) place h)

  newest_is : (a : Answered Row) → place ≤ length file → a ≡ found_in file place (ending_at rule file place) → row_or a ≡ newest_to rule file place
  unfolding newest_to
  newest_is a h e = rw (le-ltb (length file) place h) (ap row_or e)

  -- what the code found, or nothing
  pub newest_at : (r : Result Found Refusal) → place ≤ length file → answered_as row_of r ≡ found_in file place (ending_at rule file place)
      → (row_found (result_ok r) ≡ newest_to rule file place) × (0 < length (records_to rule file place) → IsSome (result_ok r))
      × IfSome (result_ok r) (λ found. found.start + found.size ≤ length file)
  newest_at (Ok found) h e = (newest_is _ h e, λ some. refl, omega (arith, h, found_ends rule file place h e))
  newest_at (Err why) h e = (newest_is _ h e, λ some. absurd (omega (arith, some, ap (λ (l : List LogRecord). length l) (stopped rule file place e))), tt)

  -- where records end at a place, the row is that of the newest
  pub newest_turn : Bytes file → place ≤ length file → 0 < length (records_to rule file place) → {kind start size : ℕ}
      → rowed kind start size ≡ newest_to rule file place → Turn rule file place kind start size
  unfolding newest_to
  newest_turn bytes h some {kind} {start} {size} e =
      go (found_in file place (ending_at rule file place)) refl (e ∙ rw (le-ltb (length file) place h))
    where
      go : (a : Answered Row) → a ≡ found_in file place (ending_at rule file place) → rowed kind start size ≡ row_or a → Turn rule file place kind start size
      go (served row) f g = turn rule file bytes place h some (ap served g ∙ f)
      go (refused n) f g = absurd (omega (arith, some, ap (λ (l : List LogRecord). length l) (stopped rule file place f)))
