use Rattle.std.proofs.Common.{◌≡◌, ℕ, ◌+◌, ◌-◌, ◌≤◌, ◌++◌, List, arith, length, take, drop, sym, ap, ◌∙◌, append_assoc, append-nil, length-append, length-drop}
use mathlib.Core.List.{map}
use Rattle.std.specs.Prelude.{Result, Ok, Err, IsOk, refl}
use Rattle.refusal.specs.declared.Refusal.{Refusal}
use lib.Seq.{length-take-le}
use Rattle.refusal.proofs.Rest.{rest_end}
use Rattle.shdlc.specs.Stream.{byte}
use Rattle.receiver.specs.Record.{Record, held, in_range, record_from}
use Rattle.lines.specs.declared.Listing.{Listing}
use Rattle.lines.specs.Listing.{Progress, paper_listing, shown_by, fill_of}
use Rattle.lines.proofs.Loop.{rest_slice}
use Rattle.lines.proofs.Filling.{never_refused, range_kept, went, went_on, shown-on}
use Rattle.frames.proofs.list_piece.Goals as goal

-- nothing is left
done : (l from : Listing) (store store₀ piece : List ℕ) (i : ℕ) → i ≤ length piece → length piece ≤ i → l.left + i ≡ from.left
    → record_from (held l.receiver store) (map byte (drop i piece)) ≡ record_from (held from.receiver store₀) (map byte piece)
    → ◌≡◌ {A = Progress} (paper_listing l store)
    (record { holds = record_from (held from.receiver store₀) (map byte piece); left = from.left - length piece })
unfolding record_from
done l from store store₀ piece i h g left e =
    let same : held l.receiver store ≡ record_from (held from.receiver store₀) (map byte piece) =
    sym (ap (λ (r : List ℕ). record_from (held l.receiver store) (map byte r)) (rest_end piece i g)) ∙ e in
    let less : l.left ≡ from.left - length piece = omega arith in
    λ k. record { holds = same k; left = less k }

-- the text grows, where all of it fits the room: what stood before the call, what the call laid, and what is left
grown : (out out₀ now left : List ℕ) (filled place : ℕ) {after rest text : List ℕ} → filled ≤ length out → length out ≡ length out₀
    → length text + 24 ≤ length out₀ → (24 ≤ length out - filled → place ≡ filled) → after ≡ take place out ++ now → now ++ left ≡ rest
    → take filled out ++ rest ≡ text → after ++ left ≡ text
grown out out₀ now left filled place {after} {rest} {text} h kept fits stays laid joined whole =
    let size = length-take-le filled out h in
    let sum = length-append (take filled out) rest in
    let same : place ≡ filled = stays (omega (arith, size, sum, ap length whole)) in
    ap (λ (l : List ℕ). l ++ left) (laid ∙ ap (λ (m : ℕ). take m out ++ now) same)
    ∙ append_assoc (take filled out) now left
    ∙ ap (λ (l : List ℕ). take filled out ++ l) joined
    ∙ whole

all_shown : (r : Record) (piece : List ℕ) (i : ℕ) {front text : List ℕ} → length piece ≤ i → front ++ shown_by r (drop i piece) ≡ text → front ≡ text
unfolding shown_by
all_shown r piece i {front} h e = sym (append-nil front) ∙ ap (λ (l : List ℕ). front ++ shown_by r l) (sym (rest_end piece i h)) ∙ e

-- an answer that is no refusal
served_ok : (r : Result ℕ Refusal) → ((why : Refusal) → r ≡ Err why → ⊥) → IsOk r
served_ok (Ok n) h = refl
served_ok (Err why) h = absurd (h why refl)

pub unwrap-end-requires : goal.unwrap-end-requires
unwrap-end-requires c =
    let l = c.loop-at in
    let f = c.fill-more in
    served_ok f.result.said (λ why e.
    never_refused (paper_listing l.l l.store) _ l.out c.in_ok-place.place f.result f.ensures l.invariant.7
    (c.in_ok-place.ensures.2 (omega (arith, l.invariant.3, c.requires.1))) e)

pub overflow_add-at : goal.overflow_add-at
overflow_add-at c =
    let l = c.loop-at in
    let a = c.args in
    let f = c.fill-more in
    let rest : length (drop l.at a.piece.now) ≡ length a.piece.now - l.at = length-drop l.at a.piece.now in
    let t =
    went (paper_listing l.l l.store) (drop l.at a.piece.now) l.out c.in_ok-place.place f.result
    (f.ensures ∙ ap (λ (x : List ℕ). fill_of (paper_listing l.l l.store) x l.out c.in_ok-place.place) (rest_slice a.piece.now l.at)) c.unwrap-end.ensures in
    omega (arith, t.within, rest, l.invariant.0, c.well_formed)

pub loop-at-smaller : goal.loop-at-smaller
loop-at-smaller c =
    let l = c.loop-at in
    let a = c.args in
    let f = c.fill-more in
    let rest : length (drop l.at a.piece.now) ≡ length a.piece.now - l.at = length-drop l.at a.piece.now in
    let t =
    went (paper_listing l.l l.store) (drop l.at a.piece.now) l.out c.in_ok-place.place f.result
    (f.ensures ∙ ap (λ (x : List ℕ). fill_of (paper_listing l.l l.store) x l.out c.in_ok-place.place) (rest_slice a.piece.now l.at)) c.unwrap-end.ensures in
    omega (arith, t.within, t.some (omega (arith, rest, c.loop-at-test.true)) (omega (arith, l.invariant.4, c.requires.0, c.loop-at-test.true)), rest, c.loop-at-test.true)

pub loop-at-preserved : goal.loop-at-preserved
loop-at-preserved c =
    let l = c.loop-at in
    let a = c.args in
    let f = c.fill-more in
    let rest : length (drop l.at a.piece.now) ≡ length a.piece.now - l.at = length-drop l.at a.piece.now in
    let t =
    went (paper_listing l.l l.store) (drop l.at a.piece.now) l.out c.in_ok-place.place f.result
    (f.ensures ∙ ap (λ (x : List ℕ). fill_of (paper_listing l.l l.store) x l.out c.in_ok-place.place) (rest_slice a.piece.now l.at)) c.unwrap-end.ensures in (
      omega (arith, t.within, rest, l.invariant.0),
      omega (arith, t.fits f.auto.out, f.auto.out),
      f.auto.store ∙ l.invariant.2,
      f.auto.out ∙ l.invariant.3,
      omega (arith, t.left, t.enough, l.invariant.4),
      went_on (held l.l.receiver l.store) (held f.result.listing.receiver f.new.store) a.piece.now l.at f.result.taken t.holds ∙ l.invariant.5,
      (λ h. grown l.out a.out.now
          (shown_by (held l.l.receiver l.store) (take f.result.taken (drop l.at a.piece.now)))
          (shown_by (held f.result.listing.receiver f.new.store) (drop (l.at + f.result.taken) a.piece.now))
          l.filled c.in_ok-place.place l.invariant.1 l.invariant.3 h c.in_ok-place.ensures.1 t.text
          (shown-on (held l.l.receiver l.store) (held f.result.listing.receiver f.new.store) a.piece.now l.at f.result.taken t.holds) (l.invariant.6 h)),
      ap in_range t.holds ∙ range_kept (held l.l.receiver l.store) _ l.invariant.7,
    )

pub returns : goal.returns
returns c =
    let l = c.loop-at in
    let a = c.args in (
      omega (arith, l.invariant.1, l.invariant.3),
      done l.l a.from l.store a.store.now a.piece.now l.at l.invariant.0 c.loop-at-test.false l.invariant.4 l.invariant.5,
      λ g. all_shown (held l.l.receiver l.store) a.piece.now l.at c.loop-at-test.false (l.invariant.6 g),
    )
