-- What a loop knows that goes from record to record: where it starts, and one turn. Assumes nothing.
use mathlib.Core.Path.{◌≡◌, refl, sym, ap, subst, ◌∙◌}
use mathlib.Core.List.{List, [], ◌∷◌, reverse}
use Prim.Native.Nat.{ℕ, zero, suc, ◌+◌, ◌-◌, ◌≤◌, ◌<◌}
use native.Mathlib.Omega.{arith}
use lib.ListN.{length, take, drop, length-drop}
use lib.Seq.{length-take-le}
use Rattle.refusal.specs.Refusals.{Numbered, Answered, served, refused}
use Rattle.refusal.proofs.Order.{refused_not_served}
use Rattle.payload.specs.Field.{Bytes}
use Rattle.wire_log.specs.Log.{LogRecord, Rule, recorded, joined, most}
use Rattle.wire_log.specs.Check.{size_at, start_at, record_at, ending_at, newest_of, records_before, counting, records_of}
use Rattle.wire_log.specs.Listing.{rowed}
use Rattle.wire_log.specs.Private.{found_in, shown}
use Rattle.wire_log.proofs.Walk.{served_ends, none_before, records_before_lem, newest_refused, Walked, walked}
use Rattle.wire_log.proofs.Tiling.{check_served, sized}
use Rattle.wire_log.proofs.Steps.{found_served, found_refused}

drop_none : (n : ℕ) → drop {A = LogRecord} n [] ≡ []
drop_none zero = refl
drop_none (suc n) = refl

module _ (rule : Rule) (file : List ℕ) where
  abbrev before : ℕ → List LogRecord
  before place = shown (records_before rule file place)

  -- where the walk is refused nothing is shown
  pub stopped : (place : ℕ) {n : Numbered} → refused n ≡ found_in file place (ending_at rule file place) → before place ≡ []
  stopped zero h = ap shown (none_before rule file)
  stopped (suc place) h =
      ap shown (records_before_lem rule file (suc place) (omega arith))
      ∙ ap (λ (a : Answered LogRecord). shown (newest_of a (records_before rule file (start_at file (suc place))))) (found_refused rule file (suc place) h)
      ∙ ap shown (newest_refused _ (records_before rule file (start_at file (suc place))))

  -- so many records left out: one more, no more, and none left
  pub back_more : (left place : ℕ) {kind start size : ℕ} → 0 < left → served (rowed kind start size) ≡ found_in file place (ending_at rule file place)
      → drop (left - 1) (before start) ≡ drop left (before place)
  back_more zero place h e = absurd (omega arith)
  back_more (suc left) place {start = start} h e =
      let f = found_served rule file place e in
      let s = served_ends rule file place f.0 f.1 in
      let less : suc left - 1 ≡ left = omega arith in
      let some : 0 < place = omega (arith, s.0.long) in
      let here : records_before rule file place ≡ newest_of (served f.0) (records_before rule file (start_at file place)) =
      records_before_lem rule file place some ∙ ap (λ (a : Answered LogRecord). newest_of a (records_before rule file (start_at file place))) f.1 in
      rw (less, f.2, here) (go f.0 (records_before rule file (start_at file place)))
    where
      go : (r : LogRecord) (older : Answered (List LogRecord)) → drop left (shown older) ≡ drop (suc left) (shown (newest_of (served r) older))
      go r (served older) = refl
      go r (refused n) = drop_none left

  pub back_stopped : (left place : ℕ) {n : Numbered} → refused n ≡ found_in file place (ending_at rule file place) → before place ≡ drop left (before place)
  back_stopped left place h = rw (stopped place h) (sym (drop_none left))

  -- what is found at a place ends there: the size that it says, and so where it starts
  said-size : (place : ℕ) → place ≤ length file → {kind start size : ℕ} → served (rowed kind start size) ≡ found_in file place (ending_at rule file place)
      → size ≡ size_at file place
  unfolding record_at start_at
  said-size place inside e =
      let f = found_served rule file place e in
      let s = served_ends rule file place f.0 f.1 in
      let sized : length (record_at file place).body ≡ size_at file place =
      length-take-le (size_at file place) (drop (start_at file place) file) (simp length-drop (omega (arith, s.0.long, s.0.points))) in
      f.4 ∙ ap (λ (r : LogRecord). length r.body) (sym s.1) ∙ sized

  pub found_ends : (place : ℕ) → place ≤ length file → {kind start size : ℕ} → served (rowed kind start size) ≡ found_in file place (ending_at rule file place)
      → start + (size + 3) ≡ place
  unfolding start_at
  found_ends place inside e =
      let f = found_served rule file place e in
      let s = served_ends rule file place f.0 f.1 in
      omega (arith, f.2, said-size place inside e, s.0.long, s.0.points)

  -- what is found where records are shown is the newest of them
  pub record Turn (place kind start size : ℕ) : Type 0 where
    pub newest : before place ≡ recorded kind (take size (drop start file)) ∷ before start
    pub begins : start ≡ length (joined (reverse (before start)))
    pub ends : start + (size + 3) ≡ place

  module _ (bytes : Bytes file) where
    -- the bytes before a place are those of the records shown
    begins_there : (place : ℕ) → place ≤ length file → (listing : List LogRecord) → records_before rule file place ≡ served listing
        → place ≡ length (joined (reverse listing))
    unfolding records_before
    begins_there place inside listing e =
        let w : Walked rule file place (served listing) = subst (Walked rule file place) e (walked rule file bytes place place (omega arith) inside) in
        sym (length-take-le place file inside) ∙ ap length w.0

    pub turn : (place : ℕ) → place ≤ length file → 0 < length (before place) → {kind start size : ℕ}
        → served (rowed kind start size) ≡ found_in file place (ending_at rule file place) → Turn place kind start size
    unfolding record_at start_at
    turn place inside some {kind} {start} {size} e =
        let f = found_served rule file place e in
        let s = served_ends rule file place f.0 f.1 in
        let is : size ≡ size_at file place = said-size place inside e in
        let r : f.0 ≡ recorded kind (take size (drop start file)) = sym s.1 ∙ rw (f.2, is, f.3, ← s.1) in
        let here : records_before rule file place ≡ newest_of (served f.0) (records_before rule file (start_at file place)) =
        records_before_lem rule file place (omega (arith, s.0.long)) ∙ ap (λ (a : Answered LogRecord). newest_of a (records_before rule file (start_at file place))) f.1 in
        go f.0 r (records_before rule file start) refl (here ∙ ap (λ (x : ℕ). newest_of (served f.0) (records_before rule file x)) (sym f.2)) (found_ends place inside e)
      where
        go : (r : LogRecord) → r ≡ recorded kind (take size (drop start file)) → (older : Answered (List LogRecord)) → records_before rule file start ≡ older
            → records_before rule file place ≡ newest_of (served r) older → start + (size + 3) ≡ place → Turn place kind start size
        go r is (refused n) o w ends = absurd (omega (arith, some, ap (λ (a : Answered (List LogRecord)). length (shown a)) w))
        go r is (served older) o w ends = record {
          newest = ap shown w ∙ rw (is, o);
          begins = rw o (begins_there start (omega arith) older o);
          ends = ends;
        }

module _ (rule : Rule) (file : List ℕ) where
  -- what a check that serves tells
  pub record Passed (count : ℕ) : Type 0 where
    pub listing : List LogRecord
    pub is : records_of rule file ≡ served listing
    pub many : count ≡ length listing
    pub before : shown (records_before rule file (length file - 8)) ≡ listing
    pub long : 8 ≤ length file
    pub short : length file - 8 ≤ most

  module _ (count : ℕ) (checked : served count ≡ counting (records_of rule file)) where
    pub passed : Passed count
    passed = go (records_of rule file) refl checked
      where
        go : (a : Answered (List LogRecord)) → records_of rule file ≡ a → served count ≡ counting a → Passed count
        go (refused n) f e = absurd (refused_not_served (sym e))
        go (served listing) f e =
            let c = check_served rule file listing f in
            let s = sized file c.0 in
            record { listing = listing; is = f; many = cc; before = ap shown c.1; long = s.long; short = omega (arith, s.agrees, s.within) }
