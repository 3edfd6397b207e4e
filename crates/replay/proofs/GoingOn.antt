-- How a side goes on, call by call. Assumes nothing.
use Prim.Native.Nat.{ℕ, zero, suc, ◌≤◌}
use native.Mathlib.Omega.{arith}
use mathlib.Core.Path.{◌≡◌, refl, sym, ap, subst, ◌∙◌}
use mathlib.Core.Bool.{Bool, true, false, ◌&&◌}
use mathlib.Core.List.{List, [], ◌∷◌, ◌++◌, map, append_assoc, append-nil}
use lib.Dec.{ltb}
use lib.ListN.{length, take, drop, take-append-drop}
use Rattle.std.specs.Prelude.{Option, Some, None, Result, Ok, Err}
use Rattle.refusal.specs.declared.Refusal.{Refusal}
use Rattle.refusal.specs.Refusals.{number, served, refused}
use Rattle.refusal.proofs.Room.{overlay-holds}
use Rattle.shdlc.specs.declared.Kind.{Kind}
use Rattle.shdlc.specs.Stream.{Event, byte, mark, Item}
use Rattle.shdlc.proofs.Stream.{map-append}
use Rattle.receiver.specs.declared.Fed.{Fed}
use Rattle.receiver.specs.Record.{Record, in_range, pending, item_of, record_of}
use Rattle.receiver.specs.Calls.{Said, nothing, gave, Outcome, paper_answer, paper_fed, said_of, buffer_of, scan_from, after_mark, feed_of}
use Rattle.receiver.specs.Series.{gained}
use Rattle.receiver.proofs.Callers.{taking, Hears, hears, gained-append, gained_nothing}
use Rattle.replay.specs.Replay.{yielded}
use Rattle.replay.specs.Private.{after, Kept, noted, noted_answer, frame_length, GoesOn, Marks}
use Rattle.replay.proofs.Noting.{by_test, after-append, map_yielded, nothing_noted, refused_noted}

-- by nothing, by one part and another, by a call
module _ (lease : ℕ) (side : Kind) where
  pub goes_nothing : (r : Record) (k : Kept) → GoesOn lease side r k [] r k
  unfolding GoesOn after
  goes_nothing r k =
      λ stream e. (
        e ∙ ap (record_of side) (sym (append-nil stream)),
        sym (ap (λ (is : List Item). after (noted lease) k (map (yielded side) is)) (gained_nothing side stream)),
      )

  goes_then : (r next last : Record) (k then end : Kept) (es fs : List Event) → GoesOn lease side r k es next then
      → GoesOn lease side next then fs last end → GoesOn lease side r k (es ++ fs) last end
  unfolding GoesOn
  goes_then r next last k then end es fs g h =
      λ stream e.
      let a = g stream e in
      let b = h (stream ++ es) a.0 in (
        b.0 ∙ ap (record_of side) (append_assoc stream es fs),
        b.1
            ∙ ap (λ (x : Kept). after (noted lease) x (map (yielded side) (gained side (stream ++ es) fs))) a.1
            ∙ sym (after-append (noted lease) k (map (yielded side) (gained side stream es)) (map (yielded side) (gained side (stream ++ es) fs)))
            ∙ ap (after (noted lease) k) (sym (map_yielded side (gained side stream es) (gained side (stream ++ es) fs)))
            ∙ ap (λ (is : List Item). after (noted lease) k (map (yielded side) is)) (sym (gained-append side stream es fs)),
      )

  pub goes_fed : (r : Record) (k then : Kept) (silence : Bool) (piece buffer : List ℕ) (o : Outcome) → 260 ≤ length buffer
      → o ≡ feed_of r silence piece buffer → then ≡ noted_answer lease side k o.result.said o.result.buffer
      → GoesOn lease side r k (taking silence o.result.taken piece) o.leaves then
  unfolding GoesOn noted_answer
  goes_fed r k then silence piece buffer o l e f =
      λ stream q.
      let g : Hears side stream silence piece o = subst (Hears side stream silence piece) (sym e) (hears side stream r q silence piece buffer l) in
      (g.leaves, f ∙ ap (λ (is : List Item). after (noted lease) k (map (yielded side) is)) g.reports)

  -- what is left to do: whoever does the rest has done the whole
  abbrev pub Rest : Record → Kept → List ℕ → Record → Kept → List ℕ → Type 0
  Rest r₀ k₀ whole r k left = (last : Record) (end : Kept) → GoesOn lease side r k (map byte left) last end → GoesOn lease side r₀ k₀ (map byte whole) last end

  parts : (n : ℕ) (piece : List ℕ) → map byte (take n piece) ++ map byte (drop n piece) ≡ map byte piece
  parts n piece = sym (map-append (take n piece) (drop n piece)) ∙ ap (map byte) (take-append-drop n piece)

  rest_more : (r₀ : Record) (k₀ : Kept) (whole : List ℕ) (r next : Record) (k then : Kept) (left : List ℕ) (n : ℕ)
      → GoesOn lease side r k (map byte (take n left)) next then → Rest r₀ k₀ whole r k left → Rest r₀ k₀ whole next then (drop n left)
  rest_more r₀ k₀ whole r next k then left n g rest =
      λ last end h.
      rest last end (subst (λ (es : List Event). GoesOn lease side r k es last end) (parts n left) (goes_then r next last k then end (map byte (take n left)) (map byte (drop n left)) g h))

empty_piece : (l : List ℕ) → length l ≡ 0 → l ≡ []
empty_piece [] h = refl
empty_piece (x ∷ l) h = absurd (omega (arith, h))

-- a call of the loop: what is left of the piece is lent
module _ (lease : ℕ) (side : Kind) (r₀ : Record) (k₀ : Kept) (whole : List ℕ) where
  pub rest_call : (r : Record) (k then : Kept) (buffer left : List ℕ) (o : Outcome) → 260 ≤ length buffer → o ≡ feed_of r false left buffer
      → then ≡ noted_answer lease side k o.result.said o.result.buffer
      → Rest lease side r₀ k₀ whole r k left → Rest lease side r₀ k₀ whole o.leaves then (drop o.result.taken left)
  rest_call r k then buffer left o l e f rest =
      rest_more lease side r₀ k₀ whole r o.leaves k then left o.result.taken (goes_fed lease side r k then false left buffer o l e f) rest

  pub rest_start : Rest lease side r₀ k₀ whole r₀ k₀ whole
  rest_start = λ last end h. h

  pub rest_end : (r : Record) (k : Kept) (left : List ℕ) → length left ≡ 0 → Rest lease side r₀ k₀ whole r k left → GoesOn lease side r₀ k₀ (map byte whole) r k
  rest_end r k left h rest = rest r k (subst (λ (l : List ℕ). GoesOn lease side r k (map byte l) r k) (sym (empty_piece left h)) (goes_nothing lease side r k))

-- ---- a frame that is answered stands in the buffer
said_length : Said → ℕ
said_length nothing = 0
said_length (gave (served n)) = n
said_length (gave (refused n)) = 0

said-length : (a : Result (Option ℕ) Refusal) → frame_length a ≡ said_length (paper_answer a)
unfolding said_length
said-length (Ok None) = refl
said-length (Ok (Some n)) = refl
said-length (Err r) = refl

item_holds : (i : Item) (buffer : List ℕ) → said_length (said_of i) ≤ length (buffer_of i buffer)
unfolding said_length
item_holds (served body) buffer = overlay-holds buffer body
item_holds (refused n) buffer = omega arith

abbrev Holds : Outcome → Type 0
Holds o = said_length o.result.said ≤ length o.result.buffer

said-holds : (r : Record) (silence : Bool) (piece buffer : List ℕ) → Holds (feed_of r silence piece buffer)
unfolding feed_of said_length
said-holds r silence piece buffer =
    let s = scan_from 0 (after_mark silence r) piece in
    by_test Holds (in_range r)
    (by_test Holds (ltb (length buffer) 260) (omega arith)
    (by_test Holds (silence && pending r) (omega arith) (by_test Holds s.closed (item_holds (item_of s.before) buffer) (omega arith))))
    (omega arith)

pub frame-holds : (f : Fed) (store after : List ℕ) (r : Record) (silence : Bool) (piece buffer : List ℕ)
    → paper_fed f store after ≡ feed_of r silence piece buffer → frame_length f.answer ≤ length after
frame-holds f store after r silence piece buffer e =
    let h : said_length (paper_answer f.answer) ≤ length after = subst Holds (sym e) (said-holds r silence piece buffer) in
    omega (arith, said-length f.answer)

-- ---- a mark: what it cuts off is no frame
module _ (lease : ℕ) (side : Kind) (k : Kept) where
  abbrev Unnoted : Outcome → Type 0
  Unnoted o = k ≡ noted_answer lease side k o.result.said o.result.buffer

  unnoted : (r : Record) (buffer : List ℕ) → Unnoted (feed_of r true [] buffer)
  unfolding feed_of scan_from
  unnoted r buffer =
      by_test Unnoted (in_range r)
      (by_test Unnoted (ltb (length buffer) 260) (refused_noted lease k buffer side (number 1))
      (by_test Unnoted (pending r) (refused_noted lease k buffer side (number 9)) (nothing_noted lease k buffer side)))
      (refused_noted lease k buffer side (number 2))

  marks_side : (r : Record) (buffer : List ℕ) → 260 ≤ length buffer → GoesOn lease side r k (mark ∷ []) (feed_of r true [] buffer).leaves k
  marks_side r buffer l =
      subst (λ (bs : List ℕ). GoesOn lease side r k (mark ∷ map byte bs) (feed_of r true [] buffer).leaves k) (none (feed_of r true [] buffer).result.taken)
      (goes_fed lease side r k k true [] buffer (feed_of r true [] buffer) l refl (unnoted r buffer))
    where
      none : (n : ℕ) → take {A = ℕ} n [] ≡ []
      none zero = refl
      none (suc n) = refl

pub marked : (r : Record) (piece buffer : List ℕ) (o : Outcome) → length piece ≡ 0 → 260 ≤ length buffer → o ≡ feed_of r true piece buffer
    → Marks r o.leaves
unfolding Marks
marked r piece buffer o h l e =
    λ lease side k.
    subst (λ (x : Outcome). GoesOn lease side r k (mark ∷ []) x.leaves k)
    (sym (e ∙ ap (λ (p : List ℕ). feed_of r true p buffer) (empty_piece piece h))) (marks_side lease side k r buffer l)
