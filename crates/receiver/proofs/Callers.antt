-- What a caller of `feed` has to know that goes on from any stream: what a call reports and leaves. Assumes nothing.
use Prim.Native.Nat.{ℕ, ◌≤◌, ◌<◌}
use native.Mathlib.Omega.{arith}
use mathlib.Core.Path.{◌≡◌, refl, sym, ap, subst, ◌∙◌}
use mathlib.Core.Bool.{Bool, true, false}
use mathlib.Core.List.{List, [], ◌++◌, map}
use lib.ListN.{length, take, drop, length-drop}
use borrow.Author.Tests.{le-ltb}
use Rattle.shdlc.specs.declared.Kind.{Kind}
use Rattle.shdlc.specs.Stream.{Event, byte, Item, Place, outside, items_from, items}
use Rattle.shdlc.proofs.Stream.{place_from, place_append, items-append}
use Rattle.receiver.specs.Record.{Record, in_range, record_of}
use Rattle.receiver.specs.Calls.{Result, Outcome, feed_of}
use Rattle.receiver.specs.Series.{Call, marks, bytes_added, events_added, added, gained, expected, reported}
use Rattle.receiver.proofs.EverySeries.{place_of, gained-at, meets_stream, leaves_stream, bytes-front, giving_taken, leaves_less, length-bytes, demand3}
use Rattle.receiver.proofs.Reached.{reached}

-- the mark, where there is one, and the bytes that are taken
abbrev pub taking : Bool → ℕ → List ℕ → List Event
taking silence n piece = marks silence ++ map byte (take n piece)

-- a call with room, from the record that a stream leaves
pub record Hears (kind : Kind) (stream : List Event) (silence : Bool) (piece : List ℕ) (o : Outcome) : Type 0 where
  pub reports : reported o.result.said o.result.buffer ≡ gained kind stream (taking silence o.result.taken piece)
  pub leaves : o.leaves ≡ record_of kind (stream ++ taking silence o.result.taken piece)

module _ (kind : Kind) (stream : List Event) (r : Record) (e : r ≡ record_of kind stream) (silence : Bool) (piece buffer : List ℕ) (l : 260 ≤ length buffer) where
  abbrev call : Call
  call = record { silence = silence; piece = piece; buffer = buffer }

  abbrev o : Outcome
  o = feed_of r silence piece buffer

  taken_is : o.result.taken ≡ length (bytes_added kind stream silence piece)
  unfolding expected
  taken_is =
      ap (λ (x : Result). x.taken) (meets_stream kind stream r e call).gives ∙ rw (le-ltb (length buffer) 260 l) (giving_taken (gained kind stream (events_added kind stream silence piece)) (length (bytes_added kind stream silence piece)) buffer)

  added_is : added kind stream call ≡ taking silence o.result.taken piece
  unfolding added
  added_is =
      rw (le-ltb (length buffer) 260 l)
      (ap (λ (bs : List ℕ). marks silence ++ map byte bs) (sym (bytes-front kind stream silence piece) ∙ ap (λ (n : ℕ). take n piece) (sym taken_is)))

  pub hears : Hears kind stream silence piece o
  hears =
      let m = meets_stream kind stream r e call in
      record {
        reports = ap (λ (x : Result). reported x.said x.buffer) m.gives ∙ m.reports ∙ ap (gained kind stream) added_is;
        leaves = leaves_stream kind stream r e call ∙ ap (λ (es : List Event). record_of kind (stream ++ es)) added_is;
      }

-- without a mark a byte is taken where there is one
pub takes_some : (kind : Kind) (stream : List Event) (r : Record) → r ≡ record_of kind stream → (piece buffer : List ℕ) → 260 ≤ length buffer
    → 1 ≤ length piece → 1 ≤ (feed_of r false piece buffer).result.taken
takes_some kind stream r e piece buffer l h =
    let call : Call = record { silence = false; piece = piece; buffer = buffer } in
    let n = (feed_of r false piece buffer).result.taken in
    let less : length (map byte (drop n piece)) < length (map byte piece) = leaves_less kind stream r e call (omega (arith, length-bytes piece)) l in
    omega (arith, less, length-bytes piece, length-bytes (drop n piece), length-drop n piece)

-- so for every record within its ranges, which some stream leaves
module _ (r : Record) (h : in_range r ≡ true) (silence : Bool) (piece buffer : List ℕ) (o : Outcome) (l : 260 ≤ length buffer) (e : o ≡ feed_of r silence piece buffer) where
  pub fed_in_range : in_range o.leaves ≡ true
  fed_in_range =
      let s = reached r h in
      let g : Hears r.kind s.0 silence piece o = subst (Hears r.kind s.0 silence piece) (sym e) (hears r.kind s.0 r (sym s.1) silence piece buffer l) in
      ap in_range g.leaves ∙ (demand3 r.kind).in_ranges (s.0 ++ taking silence o.result.taken piece)

pub fed_some : (r : Record) → in_range r ≡ true → (piece buffer : List ℕ) (o : Outcome) → 260 ≤ length buffer → o ≡ feed_of r false piece buffer
    → 1 ≤ length piece → 1 ≤ o.result.taken
fed_some r h piece buffer o l e m =
    let s = reached r h in
    subst (λ (x : Outcome). 1 ≤ x.result.taken) (sym e) (takes_some r.kind s.0 r (sym s.1) piece buffer l m)

-- what is gained one after the other is gained together
pub gained-append : (kind : Kind) (stream es fs : List Event)
    → gained kind stream (es ++ fs) ≡ gained kind stream es ++ gained kind (stream ++ es) fs
gained-append kind stream es fs =
    gained-at kind stream (es ++ fs) ∙ items-append kind es fs (place_of stream)
    ∙ ap (λ (x : List Item). x ++ items_from kind (place_from (place_of stream) es) fs) (sym (gained-at kind stream es))
    ∙ ap (λ (x : Place). gained kind stream es ++ items_from kind x fs) (sym (place_append stream es outside))
    ∙ ap (λ (x : List Item). gained kind stream es ++ x) (sym (gained-at kind (stream ++ es) fs))

pub gained_nothing : (kind : Kind) (stream : List Event) → gained kind stream [] ≡ []
unfolding items_from
gained_nothing kind stream = gained-at kind stream []

pub gained_all : (kind : Kind) (stream : List Event) → gained kind [] stream ≡ items kind stream
unfolding gained items items_from
gained_all kind stream = refl
