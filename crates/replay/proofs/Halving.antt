-- The newest records before a place, by blocks and by halves. Assumes nothing.
use Prim.Native.Nat.{ℕ, zero, suc, ◌+◌, ◌-◌, ◌≤◌, ◌<◌}
use native.Mathlib.Omega.{arith}
use mathlib.Core.Path.{◌≡◌, refl, sym, ap, subst, ◌∙◌}
use mathlib.Core.Bool.{Bool, true, false}
use mathlib.Core.List.{List, [], ◌∷◌, ◌++◌, reverse, reverse-append}
use lib.Dec.{eqb}
use lib.ListN.{length, get_or, set, take, drop, length-drop}
use lib.Seq.{get_or-set_same, get_or-set_other, take-add, drop-drop}
use borrow.Author.Tests.{eqb-true, eqb-false}
use Rattle.std.proofs.lemmas.List.{length-reverse, get_or-reverse, get_or_default}
use Rattle.payload.specs.Field.{Bytes}
use Rattle.wire_log.specs.Log.{LogRecord, recorded, kinds}
use Rattle.wire_log.specs.Listing.{rowed}
use Rattle.wire_log.specs.Oldest.{records_to, newest_to, LeavesOut}
use Rattle.wire_log.proofs.Turns.{Turn}
use Rattle.wire_log.proofs.Halves.{newest_turn}
use Rattle.replay.specs.declared.run.Run.{Run}
use Rattle.replay.specs.Private.{kept_of, RunsOn, Runs, newest_of, Noted}
use Rattle.replay.proofs.RunningOn.{runs_none, runs_then}

lt_of_ne : (j n : ℕ) → j < n + 1 → (j ≡ n → ⊥) → j < n
lt_of_ne zero zero h g = absurd (g refl)
lt_of_ne zero (suc n) h g = omega arith
lt_of_ne (suc j) zero h g = absurd (omega (arith, h))
lt_of_ne (suc j) (suc n) h g = let l : j < n = lt_of_ne j n (omega (arith, h)) (λ e. g (ap suc e)) in omega (arith, l)

-- the older part of some records, then the newer, each the oldest first
parted : (xs : List LogRecord) (n newer : ℕ) → newer ≤ n → reverse (take (n - newer) (drop newer xs)) ++ reverse (take newer xs) ≡ reverse (take n xs)
parted xs n newer few =
    let e : newer + (n - newer) ≡ n = omega arith in
    sym (reverse-append (take newer xs) (take (n - newer) (drop newer xs)))
    ∙ ap reverse (sym (take-add newer (n - newer) xs) ∙ ap (λ (m : ℕ). take m xs) e)

-- what is left out of the records that end at a place, the newer half, and what is not
module _ (file : List ℕ) (place n newer middle : ℕ) (few : newer ≤ n) (inside : place ≤ length file) (out : LeavesOut kinds file place newer middle) where
  pub middle_in : middle ≤ length file
  middle_in = omega (arith, out.0, inside)

  pub older_there : n ≤ length (records_to kinds file place) → n - newer ≤ length (records_to kinds file middle)
  older_there h =
      omega (arith, h, ap (λ (l : List LogRecord). length l) (out.1 inside), length-drop newer (records_to kinds file place))

  halves : newest_of file middle (n - newer) ++ newest_of file place newer ≡ newest_of file place n
  unfolding newest_of
  halves =
      ap (λ (l : List LogRecord). reverse (take (n - newer) l) ++ reverse (take newer (records_to kinds file place))) (out.1 inside)
      ∙ parted (records_to kinds file place) n newer few

-- of the newest n, the oldest of them first, those before the newest k
abbrev pub older_of : List ℕ → ℕ → ℕ → ℕ → List LogRecord
older_of file place n k = reverse (take (n - k) (drop k (records_to kinds file place)))

module _ (file : List ℕ) (place : ℕ) where
  -- one: the row that is found is its
  one_is : (kind start size : ℕ) (body : List ℕ) → Bytes file → place ≤ length file → 1 ≤ length (records_to kinds file place)
      → rowed kind start size ≡ newest_to kinds file place → body ≡ take size (drop start file) → recorded kind body ∷ [] ≡ newest_of file place 1
  unfolding newest_of
  one_is kind start size body bytes h some e b =
      let t : Turn kinds file place kind start size = newest_turn kinds file place bytes h some e in
      ap (λ (x : List ℕ). recorded kind x ∷ []) b ∙ sym (ap (λ (l : List LogRecord). reverse (take 1 l)) t.newest)

  -- a block, of which the newest k are left: none yet, one more, all
  none_is : (n : ℕ) → [] ≡ older_of file place n n
  none_is n =
      let e : n - n ≡ 0 = omega arith in
      sym (ap (λ (m : ℕ). reverse (take m (drop n (records_to kinds file place)))) e)

  more_is : (n j at' : ℕ) → 0 < j → j ≤ n → place ≤ length file → LeavesOut kinds file place (j - 1) at' → older_of file place n j ++ newest_of file at' 1 ≡ older_of file place n (j - 1)
  unfolding newest_of
  more_is n j at' some few inside out =
      let xs = records_to kinds file place in
      let ys = drop (j - 1) xs in
      let m : n - j ≡ n - (j - 1) - 1 = omega arith in
      let d : drop j xs ≡ drop 1 ys = (let e : j ≡ j - 1 + 1 = omega arith in ap (λ (i : ℕ). drop i xs) e) ∙ sym (drop-drop 1 (j - 1) xs) in
      (λ i. reverse (take (m i) (d i)) ++ reverse (take 1 (out.1 inside i))) ∙ parted ys (n - (j - 1)) 1 (omega arith)

  all_is : (n j : ℕ) → j ≤ 0 → older_of file place n j ≡ newest_of file place n
  unfolding newest_of
  all_is n j l =
      let e : j ≡ 0 = omega arith in
      let m : n - 0 ≡ n = omega arith in
      ap (older_of file place n) e ∙ ap (λ (i : ℕ). reverse (take i (records_to kinds file place))) m

-- ---- so of the code's run
-- by one part and another
run_then : (s m t : Run) (xs ys : List LogRecord) → Runs s xs m → Runs m ys t → Runs s (xs ++ ys) t
run_then s m t xs ys g h = (
  runs_then s.desk.lease _ _ _ _ _ _ _ _ _ xs ys g.0
      (subst (λ (n : ℕ). RunsOn n m.requests m.replies (kept_of m.desk) ys t.requests t.replies (kept_of t.desk)) g.1 h.0),
  h.1 ∙ g.1,
)

module _ (file : List ℕ) (place : ℕ) (s t : Run) where
  pub runs_1 : (kind start size : ℕ) (body : List ℕ) → Bytes file → place ≤ length file → 1 ≤ length (records_to kinds file place)
      → rowed kind start size ≡ newest_to kinds file place → body ≡ take size (drop start file)
      → Runs s (recorded kind body ∷ []) t → Runs s (newest_of file place 1) t
  runs_1 kind start size body bytes h some e b runs =
      subst (λ (rs : List LogRecord). Runs s rs t) (one_is file place kind start size body bytes h some e b) runs

  -- the older half, then the newer
  pub runs_halves : (n newer middle : ℕ) (m : Run) → newer ≤ n → place ≤ length file → LeavesOut kinds file place newer middle
      → Runs s (newest_of file middle (n - newer)) m → Runs m (newest_of file place newer) t → Runs s (newest_of file place n) t
  runs_halves n newer middle m few inside out g h =
      subst (λ (rs : List LogRecord). Runs s rs t) (halves file place n newer middle few inside out) (run_then s m t (newest_of file middle (n - newer)) (newest_of file place newer) g h)

  pub block_none : (n k : ℕ) → k ≡ n → Runs s (older_of file place n k) s
  block_none n k e =
      subst (λ (rs : List LogRecord). Runs s rs s) (none_is file place n ∙ ap (older_of file place n) (sym e)) (runs_none s.desk.lease s.requests s.replies (kept_of s.desk), refl)

  pub block_one : (n j at' : ℕ) (m : Run) → 0 < j → j ≤ n → place ≤ length file → LeavesOut kinds file place (j - 1) at'
      → Runs s (older_of file place n j) m → Runs m (newest_of file at' 1) t → Runs s (older_of file place n (j - 1)) t
  block_one n j at' m some few inside out g h =
      subst (λ (rs : List LogRecord). Runs s rs t) (more_is file place n j at' some few inside out) (run_then s m t (older_of file place n j) (newest_of file at' 1) g h)

  pub block_all : (n j : ℕ) → j ≤ 0 → Runs s (older_of file place n j) t → Runs s (newest_of file place n) t
  block_all n j l g = subst (λ (rs : List LogRecord). Runs s rs t) (all_is file place n j l) g

-- ---- places that are noted
pub leaves_none : (file : List ℕ) (place : ℕ) → LeavesOut kinds file place 0 place
leaves_none file place = (omega arith, λ inside. refl)

pub leaves_more : (file : List ℕ) (place n at' older : ℕ) → place ≤ length file → LeavesOut kinds file place n at' → LeavesOut kinds file at' 1 older
    → LeavesOut kinds file place (n + 1) older
leaves_more file place n at' older inside out more =
    (omega (arith, out.0, more.0), λ _. more.1 (omega (arith, out.0, inside)) ∙ ap (drop 1) (out.1 inside) ∙ drop-drop 1 n (records_to kinds file place))

pub noted_none : (file : List ℕ) (place : ℕ) (places : List ℕ) → Noted file place 0 places
unfolding Noted
noted_none file place places = λ j h. absurd (omega (arith, h))

pub noted_more : (file : List ℕ) (place n at' : ℕ) (places : List ℕ) → n < length places → LeavesOut kinds file place n at' → Noted file place n places
    → Noted file place (n + 1) (set places n at')
unfolding Noted
noted_more file place n at' places l out noted = λ j h. go j h (eqb j n) refl
  where
    go : (j : ℕ) → j < n + 1 → (t : Bool) → eqb j n ≡ t → LeavesOut kinds file place j (get_or (set places n at') j 0)
    go j h true e =
        let same : n ≡ j = sym (eqb-true j n e) in
        subst (λ (i : ℕ). LeavesOut kinds file place i (get_or (set places n at') i 0)) same
        (subst (LeavesOut kinds file place n) (sym (get_or-set_same places n at' 0 l)) out)
    go j h false e =
        let other : j ≡ n → ⊥ = eqb-false j n e in
        subst (LeavesOut kinds file place j) (sym (get_or-set_other places n j at' 0 other)) (noted j (lt_of_ne j n h other))

pub noted-at : (file : List ℕ) (place n j : ℕ) (places : List ℕ) → Noted file place n places → j < n → LeavesOut kinds file place j (get_or places j 0)
unfolding Noted
noted-at file place n j places noted h = noted j h

-- gone through backwards: after k of n places, the next one, n - k - 1 records before the newest
pub noted_back : (file : List ℕ) (place n : ℕ) (places : List ℕ) (k : ℕ) {at' : ℕ} → Noted file place (length places) places → length places ≡ n
    → k < length (reverse places) → at' ≡ get_or (reverse places) k at' → (k < n) × LeavesOut kinds file place (n - k - 1) at'
noted_back file place n places k {at'} noted many l e =
    let r : k < length places = omega (arith, l, length-reverse places) in
    let h : length places - 1 - k ≡ n - k - 1 = omega (arith, many) in
    let d : n - k - 1 < length places = omega (arith, many, r) in (
      omega (arith, r, many),
      subst (LeavesOut kinds file place (n - k - 1)) (sym (e ∙ get_or-reverse places k at' r ∙ ap (λ (i : ℕ). get_or places i at') h ∙ get_or_default places (n - k - 1) at' 0 d))
          (noted-at file place (length places) (n - k - 1) places noted d),
    )
