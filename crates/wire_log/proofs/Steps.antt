-- The record that ends at a place as the code has it: its cases, and what the walk says of it. Assumes nothing.
use mathlib.Core.Path.{◌≡◌, refl, sym, ap, subst, ◌∙◌}
use mathlib.Core.Bool.{true, false}
use mathlib.Core.List.{List}
use Prim.Native.Nat.{ℕ, suc, ◌+◌, ◌-◌, ◌≤◌, ◌<◌}
use native.Mathlib.Nat.{zero-add, add-zero}
use native.Mathlib.Omega.{arith}
use lib.ListN.{length, get_or, take, drop, length-drop}
use lib.Seq.{length-take-le}
use Rattle.refusal.specs.Refusals.{Numbered, number, Answered, served, refused}
use Rattle.refusal.proofs.Order.{refused_not_served}
use Rattle.payload.specs.Field.{big}
use Rattle.wire_log.specs.Log.{LogRecord, Rule}
use Rattle.wire_log.specs.Check.{kind_at, size_at, start_at, record_at, ending_at, newest_of, records_before, counting}
use Rattle.wire_log.specs.Listing.{Row, rowed}
use Rattle.wire_log.specs.Private.{found_in}
use Rattle.wire_log.proofs.Walk.{ending_cut, ending_before-start, ending_unknown, ending_served, served_ends, none_before, records_before_lem, newest_refused}

module _ (rule : Rule) (file : List ℕ) (place : ℕ) where
  pub found-cut : place < 3 → refused (number 21) ≡ found_in file place (ending_at rule file place)
  found-cut h = sym (ap (found_in file place) (ending_cut rule file place h))

  module _ (n : ℕ) (is : n ≡ big (take 2 (drop (place - 2) file))) where
    size_is : n ≡ size_at file place
    unfolding size_at
    size_is = is

    pub found-before-start : place - 3 < n → refused (number 21) ≡ found_in file place (ending_at rule file place)
    found-before-start h = sym (ap (found_in file place) (ending_before-start rule file place (let z : place - 3 < size_at file place = omega (arith, size_is) in z)))

    module _ (long : 3 ≤ place) (points : n ≤ place - 3) where
      size_points : size_at file place ≤ place - 3
      size_points = omega (arith, size_is)

      pub found_unknown : rule (get_or file (place - 3) 0) n ≡ false → refused (number 22) ≡ found_in file place (ending_at rule file place)
      unfolding kind_at
      found_unknown h = sym (ap (found_in file place) (ending_unknown rule file place long size_points (subst (λ (m : ℕ). rule (kind_at file place) m ≡ false) size_is h)))

      pub found_record : place ≤ length file → rule (get_or file (place - 3) 0) n ≡ true
          → served (rowed (get_or file (place - 3) 0) (place - 3 - n) n) ≡ found_in file place (ending_at rule file place)
      unfolding kind_at start_at record_at
      found_record inside h =
          let m : ℕ = size_at file place in
          let s : m ≡ n = sym size_is in
          let there : m ≤ length (drop (place - 3 - m) file) = simp length-drop (omega (arith, size_points)) in
          sym (ap (found_in file place) (ending_served rule file place long size_points (subst (λ (m : ℕ). rule (kind_at file place) m ≡ true) size_is h))
          ∙ ap (λ (x : ℕ). served (rowed (kind_at file place) (place - 3 - m) x)) (length-take-le m _ there)
          ∙ ap (λ (x : ℕ). served (rowed (kind_at file place) (place - 3 - x) x)) s)

  -- what is found tells what the walk does
  pub found_served : {kind from size : ℕ} → served (rowed kind from size) ≡ found_in file place (ending_at rule file place)
      → (r : LogRecord) × (ending_at rule file place ≡ served r) × (from ≡ start_at file place) × (kind ≡ r.kind) × (size ≡ length r.body)
  found_served = go (ending_at rule file place) refl
    where
      go : {kind from size : ℕ} (a : Answered LogRecord) → ending_at rule file place ≡ a → served (rowed kind from size) ≡ found_in file place a
          → (r : LogRecord) × (a ≡ served r) × (from ≡ start_at file place) × (kind ≡ r.kind) × (size ≡ length r.body)
      go {kind} {from} {size} (served r) e h =
          let z : rowed kind from size ≡ rowed r.kind (start_at file place) (length r.body) = cc in
          (r, refl, ap (λ (x : Row). x.start) z, ap (λ (x : Row). x.kind) z, ap (λ (x : Row). x.size) z)
      go (refused n) e h = absurd (refused_not_served (sym h))

  pub found_refused : {n : Numbered} → refused n ≡ found_in file place (ending_at rule file place) → ending_at rule file place ≡ refused n
  found_refused = go (ending_at rule file place)
    where
      go : {n : Numbered} (a : Answered LogRecord) → refused n ≡ found_in file place a → a ≡ refused n
      go (served r) h = absurd (refused_not_served h)
      go (refused n) h = cc

-- the count so far, and that of what is left
abbrev pub plus : ℕ → Answered ℕ → Answered ℕ
plus n (served m) = served (n + m)
plus n (refused r) = refused r

pub plus_none : (a : Answered ℕ) → plus 0 a ≡ a
plus_none (served n) = ap served (zero-add n)
plus_none (refused n) = refl

plus_newest : (count : ℕ) (r : LogRecord) (older : Answered (List LogRecord)) → plus (count + 1) (counting older) ≡ plus count (counting (newest_of (served r) older))
plus_newest count r (served older) = ap served (let z : count + 1 + length older ≡ count + suc (length older) = omega arith in z)
plus_newest count r (refused n) = refl

module _ (rule : Rule) (file : List ℕ) (place count : ℕ) (some : 0 < place) where
  -- a loop that counts: one more, and a refusal
  pub count-more : {kind from size : ℕ} → served (rowed kind from size) ≡ found_in file place (ending_at rule file place)
      → plus (count + 1) (counting (records_before rule file from)) ≡ plus count (counting (records_before rule file place))
  count-more h =
      let f = found_served rule file place h in
      ap (λ (x : ℕ). plus (count + 1) (counting (records_before rule file x))) f.2
      ∙ plus_newest count f.0 (records_before rule file (start_at file place))
      ∙ ap (λ (x : Answered (List LogRecord)). plus count (counting x)) (sym (records_before_lem rule file place some
      ∙ ap (λ (x : Answered LogRecord). newest_of x (records_before rule file (start_at file place))) f.1))

  pub count_stopped : {n : Numbered} → refused n ≡ found_in file place (ending_at rule file place)
      → refused n ≡ plus count (counting (records_before rule file place))
  count_stopped h =
      ap (λ (x : Answered (List LogRecord)). plus count (counting x)) (sym (records_before_lem rule file place some
      ∙ ap (λ (x : Answered LogRecord). newest_of x (records_before rule file (start_at file place))) (found_refused rule file place h)
      ∙ newest_refused _ (records_before rule file (start_at file place))))

-- and the end
pub count-over : (rule : Rule) (file : List ℕ) (place count : ℕ) → place ≤ 0 → served count ≡ plus count (counting (records_before rule file place))
count-over rule file place count h =
    let e : place ≡ 0 = omega arith in
    rw (e, none_before rule file, add-zero count)

-- a step goes back
pub found_lower : (rule : Rule) (file : List ℕ) (place : ℕ) {kind from size : ℕ} → served (rowed kind from size) ≡ found_in file place (ending_at rule file place)
    → from + 3 ≤ place
unfolding start_at
found_lower rule file place h =
    let f = found_served rule file place h in
    let e = served_ends rule file place f.0 f.1 in
    omega (arith, f.2, e.0.long)
