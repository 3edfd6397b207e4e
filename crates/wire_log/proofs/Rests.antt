-- The bytes that are left of a log, from turn to turn. Assumes nothing.
use mathlib.Core.Path.{◌≡◌, ap, sym, ◌∙◌}
use mathlib.Core.Bool.{true, false, true≢false}
use mathlib.Core.List.{List, [], ◌∷◌}
use lib.Dec.{eqb}
use borrow.Author.Tests.{eqb-true}
use Prim.Native.Nat.{ℕ, ◌+◌, ◌-◌, ◌≤◌, ◌<◌}
use native.Mathlib.Omega.{arith}
use lib.ListN.{length, take, drop, length-take}
use lib.Seq.{length-take-le, take-take}
use Rattle.refusal.specs.Refusals.{Numbered, Answered, served, refused}
use Rattle.payload.specs.Field.{Bytes}
use Rattle.wire_log.specs.Log.{LogRecord, Rule}
use Rattle.wire_log.specs.Check.{records_before, counting}
use Rattle.wire_log.specs.Listing.{rowed}
use Rattle.wire_log.specs.Oldest.{LeavesOut}
use Rattle.wire_log.specs.Private.{last_in, records_in, shown}
use Rattle.wire_log.proofs.Steps.{plus, count-more, found_lower}
use Rattle.wire_log.proofs.Turns.{Turn, turn, stopped, back_more}
use Rattle.wire_log.proofs.Fronts.{records_to_front}

-- whether any are left
pub some_left : (l : List ℕ) → false ≡ eqb (length l) 0 → 0 < length l
some_left [] e = absurd (true≢false (sym e))
some_left (b ∷ l) e = omega arith

pub none_left : (l : List ℕ) → true ≡ eqb (length l) 0 → length l ≤ 0
none_left [] e = omega arith
none_left (b ∷ l) e = absurd (omega (arith, eqb-true (length (b ∷ l)) 0 (sym e)))

module _ (rule : Rule) (rest : List ℕ) {kind start size : ℕ} (found : served (rowed kind start size) ≡ last_in rule rest) where
  pub lower : start + 3 ≤ length rest
  lower = found_lower rule rest (length rest) found

  within : start ≤ length rest
  within = omega (arith, lower)

  pub cut : length (take start rest) ≡ start
  cut = length-take-le start rest within

  pub cut_in : start ≡ length (take start rest)
  cut_in = sym cut

  -- one record counted, and one left out
  pub counted : (count : ℕ) → 0 < length rest
      → plus (count + 1) (counting (records_in rule (take start rest))) ≡ plus count (counting (records_in rule rest))
  counted count some =
      ap (λ (a : Answered (List LogRecord)). plus (count + 1) (counting a)) (records_to_front rule rest start within)
      ∙ count-more rule rest (length rest) count some found

  pub left_out : (skip done : ℕ) → done < skip
      → drop (skip - (done + 1)) (shown (records_in rule (take start rest))) ≡ drop (skip - done) (shown (records_in rule rest))
  left_out skip done some =
      let one : skip - (done + 1) ≡ skip - done - 1 = omega arith in
      rw one (ap (λ (a : Answered (List LogRecord)). drop (skip - done - 1) (shown a)) (records_to_front rule rest start within)
      ∙ back_more rule rest (skip - done) (length rest) (omega arith) found)

  -- a front of a front
  pub fronts : (records : List ℕ) → rest ≡ take (length rest) records → take start rest ≡ take (length (take start rest)) records
  fronts records e =
      ap (take start) e ∙ take-take start (length rest) records within ∙ ap (λ (n : ℕ). take n records) cut_in

module _ (rule : Rule) (rest : List ℕ) where
  -- what is found where records are left is the newest of them
  pub turned : Bytes rest → 0 < length (shown (records_in rule rest)) → {kind start size : ℕ} → served (rowed kind start size) ≡ last_in rule rest
      → Turn rule rest (length rest) kind start size
  turned bytes some found = turn rule rest bytes (length rest) (omega arith) some found

  pub before_is : {kind start size : ℕ} → served (rowed kind start size) ≡ last_in rule rest
      → shown (records_in rule (take start rest)) ≡ shown (records_before rule rest start)
  before_is {start = start} found = ap shown (records_to_front rule rest start (within rule rest found))

  pub fewer : {kind start size : ℕ} → (found : served (rowed kind start size) ≡ last_in rule rest) → Turn rule rest (length rest) kind start size
      → length (shown (records_in rule rest)) ≡ length (shown (records_in rule (take start rest))) + 1
  fewer found t = ap (λ (l : List LogRecord). length l) t.newest ∙ omega (arith, ap (λ (l : List LogRecord). length l) (before_is found))

  -- where there is none, no record is left
  pub none_found : {n : Numbered} → refused n ≡ last_in rule rest → length (shown (records_in rule rest)) ≤ 0
  none_found h = omega (arith, ap (λ (l : List LogRecord). length l) (stopped rule rest (length rest) h))

-- a front of a file's front, where so many records are left out
module _ (rule : Rule) (file rest : List ℕ) (m : ℕ) (inside : m ≤ length file) (front : rest ≡ take (length rest) (take m file)) where
  pub short : length rest ≤ m
  short = omega (arith, ap (λ (l : List ℕ). length l) front, length-take (length rest) (take m file), length-take m file)

  pub front_of : rest ≡ take (length rest) file
  front_of = front ∙ take-take (length rest) m file short

  pub front_records : records_in rule rest ≡ records_before rule file (length rest)
  front_records = ap (records_in rule) front_of ∙ records_to_front rule file (length rest) (omega (arith, short))

pub left_out_of : (rule : Rule) (file all rest : List ℕ) (place n : ℕ) → place ≤ length file → all ≡ take place file
    → rest ≡ take (length rest) all → shown (records_in rule rest) ≡ drop n (shown (records_in rule all)) → LeavesOut rule file place n (length rest)
left_out_of rule file all rest place n inside is front left =
    let in_file : rest ≡ take (length rest) (take place file) = front ∙ ap (take (length rest)) is in (
      short rule file rest place inside in_file,
      λ h. ap shown (sym (front_records rule file rest place inside in_file)) ∙ left
          ∙ ap (λ (l : List ℕ). drop n (shown (records_in rule l))) is ∙ ap (λ (a : Answered (List LogRecord)). drop n (shown a)) (records_to_front rule file place inside),
    )
