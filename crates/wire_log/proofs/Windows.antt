-- A text laid in lent room from a place of the text on, as much as fits: a full room, one text after another, and the loop that lays the
-- bytes. Assumes nothing.
use Prim.Native.Nat.{ℕ, zero, suc, ◌+◌, ◌-◌, ◌≤◌}
use native.Mathlib.Nat.{zero-add, sub-zero, zero-sub, suc-sub-suc, sub-add-eq, sub-eq-zero_of_le}
use native.Mathlib.Omega.{arith}
use mathlib.Core.Path.{◌≡◌, refl, sym, ap, ◌∙◌}
use mathlib.Core.List.{List, [], ◌∷◌, ◌++◌}
use lib.ListN.{length, take, drop, length-append, length-take}
use lib.Seq.{take-nil}
use Rattle.refusal.specs.Room.{overlay}
use Rattle.wire_log.specs.Text.{window}
use Rattle.refusal.proofs.Room.{overlay_nothing, overlay-more, length-overlay}
use Rattle.refusal.proofs.Rest.{rest_end}

-- what fits of a text, from a place of it on, in a room of a size from a place on
abbrev pub fitting : List ℕ → ℕ → ℕ → ℕ → List ℕ
fitting text skip size place = take (size - place) (drop skip text)

-- a room that is full to its end takes nothing
module _ (out l : List ℕ) (place : ℕ) (full : length out ≤ place) where
  full_takes : take (length out - place) l ≡ []
  full_takes = rw (sub-eq-zero_of_le full)

  pub full_length : length (take (length out - place) l) ≡ 0
  full_length = rw full_takes

  pub full_same : overlay out place (take (length out - place) l) ≡ out
  full_same = rw full_takes (overlay_nothing out place)

drop-both : (n : ℕ) (a b : List ℕ) → drop n (a ++ b) ≡ drop n a ++ drop (n - length a) b
drop-both zero a b = rw (zero-sub (length a))
drop-both (suc n) [] b = rw (sub-zero (suc n))
drop-both (suc n) (x ∷ a) b = rw (suc-sub-suc n (length a)) (drop-both n a b)

take-both : (n : ℕ) (a b : List ℕ) → take n (a ++ b) ≡ take n a ++ take (n - length (take n a)) b
take-both zero a b = refl
take-both (suc n) [] b = rw (sub-zero (suc n))
take-both (suc n) (x ∷ a) b = rw (suc-sub-suc n (length (take n a))) (ap (λ (l : List ℕ). x ∷ l) (take-both n a b))

-- one text after another: what is left of the place in the first counts in the second
module _ (out a b : List ℕ) (place skip : ℕ) where
  fitting-both : fitting a skip (length out) place ++ fitting b (skip - length a) (length out) (place + length (fitting a skip (length out) place))
      ≡ fitting (a ++ b) skip (length out) place
  fitting-both =
      let part : List ℕ = fitting a skip (length out) place in
      rw (sub-add-eq (length out) place (length part), drop-both skip a b)
      (sym (take-both (length out - place) (drop skip a) (drop (skip - length a) b)))

  pub lay-on : place ≤ length out
      → overlay (overlay out place (fitting a skip (length out) place)) (place + length (fitting a skip (length out) place))
      (fitting b (skip - length a) (length out) (place + length (fitting a skip (length out) place)))
      ≡ overlay out place (fitting (a ++ b) skip (length out) place)
  lay-on h =
      let part : List ℕ = fitting a skip (length out) place in
      overlay-more out place part (fitting b (skip - length a) (length out) (place + length part)) h ∙ ap (overlay out place) fitting-both

  pub length-on : place + length (fitting a skip (length out) place)
      + length (fitting b (skip - length a) (length out) (place + length (fitting a skip (length out) place)))
      ≡ place + length (fitting (a ++ b) skip (length out) place)
  length-on =
      let part : List ℕ = fitting a skip (length out) place in
      let rest : List ℕ = fitting b (skip - length a) (length out) (place + length part) in
      omega (arith, ap length fitting-both, length-append part rest)

-- where a loop stands that lays a text byte by byte: the rest of it, laid from here on, makes the whole
pub record Laying (text room : List ℕ) (place : ℕ) (whole out : List ℕ) (o i : ℕ) : Type 0 where
  pub kept : length out ≡ length room
  pub within : o ≤ length out
  pub size : o + length (fitting text i (length room) o) ≡ place + length whole
  pub same : overlay out o (fitting text i (length room) o) ≡ overlay room place whole

module _ (text room : List ℕ) (place : ℕ) (whole out : List ℕ) (o i : ℕ) (l : Laying text room place whole out o i) where
  -- nothing is left to lay
  ended : fitting text i (length room) o ≡ [] → (o ≡ place + length whole) × (out ≡ overlay room place whole)
  ended none = (omega (arith, l.size, ap length none), sym (ap (overlay out o) none ∙ overlay_nothing out o) ∙ l.same)

  pub laying_end : length text ≤ i → (o ≡ place + length whole) × (out ≡ overlay room place whole)
  laying_end h = ended (rw (rest_end text i h) (take-nil (length room - o)))

  pub laying_full : length out ≤ o → (o ≡ place + length whole) × (out ≡ overlay room place whole)
  laying_full h =
      let past : length room ≤ o = omega arith in
      ended (full_takes room (drop i text) o past)

-- one text laid whole, what follows it is laid on
pub laying_on : (a b room : List ℕ) (place : ℕ) (whole out : List ℕ) (o skip : ℕ) {next more : ℕ} {after : List ℕ}
    → Laying (a ++ b) room place whole out o skip
    → (next ≡ o + length (fitting a skip (length out) o)) × (after ≡ overlay out o (fitting a skip (length out) o)) → more ≡ skip - length a
    → Laying b room place whole after next more
laying_on a b room place whole out o skip {next} {more} {after} all w m =
    let part : List ℕ = fitting a skip (length out) o in
    let fits : o + length part ≤ length out = omega (arith, all.within, length-take (length out - o) (drop skip a)) in
    let kept : length after ≡ length out = ap length w.1 ∙ length-overlay out o part fits in
    let sized : o + length (fitting (a ++ b) skip (length out) o) ≡ place + length whole = rw all.kept all.size in
    let laid : overlay out o (fitting (a ++ b) skip (length out) o) ≡ overlay room place whole = rw all.kept all.same in
    record {
      kept = kept ∙ all.kept;
      within = omega (arith, w.0, fits, kept);
      size = rw (w.0, m, ← all.kept) (length-on out a b o skip ∙ sized);
      same = rw (w.0, w.1, m, ← all.kept) (lay-on out a b o skip all.within ∙ laid);
    }

-- a text that is skipped whole takes no room
pub skipped_whole : (text out : List ℕ) (skip place : ℕ) → length text ≤ skip
    → (place ≡ place + length (fitting text skip (length out) place)) × (out ≡ overlay out place (fitting text skip (length out) place))
skipped_whole text out skip place h =
    let none : fitting text skip (length out) place ≡ [] = rw (rest_end text skip h) (take-nil (length out - place)) in
    (omega (arith, ap (λ (l : List ℕ). length l) none), sym (ap (overlay out place) none ∙ overlay_nothing out place))

pub laying_past : (a b room : List ℕ) (place : ℕ) (whole out : List ℕ) (o skip : ℕ) {more : ℕ} → Laying (a ++ b) room place whole out o skip
    → length a ≤ skip → more ≡ skip - length a → Laying b room place whole out o more
laying_past a b room place whole out o skip all h m = laying_on a b room place whole out o skip all (skipped_whole a out skip o h) m

-- a loop's start at a place of the room, and at its start, and what its end is to the contract
pub laying_at : (text room : List ℕ) (place skip : ℕ) → place ≤ length room → Laying text room place (fitting text skip (length room) place) room place skip
laying_at text room place skip h = record { kept = refl; within = h; size = refl; same = refl }

pub laying_start : (text room : List ℕ) (from : ℕ) → Laying text room 0 (take (length room) (drop from text)) room 0 from
laying_start text room from =
    let none = sub-zero (length room) in
    record { kept = refl; within = omega arith; size = rw none; same = rw none }

pub window_is : (room whole out : List ℕ) (o : ℕ) → (o ≡ 0 + length whole) × (out ≡ overlay room 0 whole)
    → ◌≡◌ {A = ℕ × List ℕ} (o, out) (length whole, overlay room 0 whole)
window_is room whole out o e = rw (e.0, e.1, zero-add (length whole))

-- a text laid at the room's start
pub window_at : (text room after : List ℕ) (from r : ℕ) → (r ≡ 0 + length (fitting text from (length room) 0)) × (after ≡ overlay room 0 (fitting text from (length room) 0))
    → ◌≡◌ {A = ℕ × List ℕ} (r, after) (window text from room)
window_at text room after from r e =
    let none = sub-zero (length room) in
    window_is room (take (length room) (drop from text)) after r (rw none at e)
