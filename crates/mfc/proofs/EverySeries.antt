-- Demand 3 over the record's bytes: every series of calls from C gives what its stream says. Assumes nothing.
use mathlib.Core.Path.{◌≡◌, refl, sym, ap, subst, ◌∙◌}
use mathlib.Core.Bool.{Bool, true, false, cond, ◌&&◌, ◌||◌, false≢true}
use mathlib.Core.List.{List, [], ◌∷◌, ◌++◌, map}
use Prim.Native.Nat.{ℕ, ◌+◌, ◌≤◌, ◌<◌}
use native.Mathlib.Omega.{arith}
use borrow.Author.Tests.{le-ltb, ltb-true, eqb-true, ne_eqb}
use lib.Dec.{eqb, ltb}
use lib.ListN.{length, take, drop}
use lib.Seq.{drop-append_seam, take_at}
use Rattle.refusal.specs.Refusals.{number, ◌carrying◌, is_placed, served, refused}
use Rattle.refusal.specs.Room.{overlay}
use Rattle.shdlc.specs.declared.Kind.{Kind}
use Rattle.shdlc.specs.Stream.{Event, byte, items, noise}
use Rattle.receiver.specs.Record.{Record, in_range, limited, fresh, record_of}
use Rattle.receiver.specs.Calls.{Said, nothing, gave, Result, Outcome}
use Rattle.receiver.specs.Series.{Call, marks, outcome, results, record_after, reported, reports, turned_away, handed, left_by, HandsIn, stream_of, expected_from}
use Rattle.receiver.proofs.Cases.{feed_room}
use Rattle.receiver.proofs.EverySeries.{Sayable, AllSayable, all_sayable, demand3}
use Rattle.mfc.specs.declared.answers.MfcFed.{MfcFed}
use Rattle.shdlc.specs.Numbers.{number_of_kind}
use Rattle.mfc.specs.Receivers.{record_size, bytes_of, fed, fresh_record, untouched, noise_told, noise_record}
use Rattle.mfc.specs.Series.{called, answers, bytes_after, told, refused_told, heard, heard_in, NoneTold2, left_told, HandsOver, begun, laid_in, SeriesOverBytes}
use Rattle.mfc.proofs.Carried.{kind_back, in_range_lem, feed_again, noise-again}

-- a record's bytes over another's: what is left is the last
over-again : (lent xs ys : List ℕ) → length xs ≡ length ys → overlay (overlay lent 0 xs) 0 ys ≡ overlay lent 0 ys
unfolding overlay
over-again lent xs ys e =
    let n : 0 + length ys ≡ length xs = omega arith in
    let m : 0 + length xs ≡ 0 + length ys = omega arith in
    ap (λ (k : ℕ). ys ++ drop k (xs ++ drop (0 + length xs) lent)) n
    ∙ ap (λ (l : List ℕ). ys ++ l) (drop-append_seam xs (drop (0 + length xs) lent))
    ∙ ap (λ (k : ℕ). ys ++ drop k lent) m

same_size : (r s : Record) → in_range r ≡ true → in_range s ≡ true → length (bytes_of r) ≡ length (bytes_of s)
same_size r s g h = omega (arith, (in_range_lem r g).0, (in_range_lem s h).0)

-- a call's outcome as C is told it
abbrev on_record : List ℕ → Outcome → MfcFed × List ℕ × List ℕ
on_record lent o = (fed o.result.said o.result.taken, overlay lent 0 (bytes_of o.leaves), o.result.buffer)

-- a call on a record's bytes is the call on the record
module _ (lent : List ℕ) (long : record_size ≤ length lent) (r : Record) (good : in_range r ≡ true) where
  abbrev bytes : List ℕ
  bytes = overlay lent 0 (bytes_of r)

  put-over : (o : Outcome) → in_range o.leaves ≡ true → on_record bytes o ≡ on_record lent o
  put-over o h =
      ap (λ (l : List ℕ). (fed o.result.said o.result.taken, l, o.result.buffer))
      (over-again lent (bytes_of r) (bytes_of o.leaves) (same_size r o.leaves good h))

  on_call : (call : Call) → in_range (outcome r call).leaves ≡ true → called bytes call ≡ on_record lent (outcome r call)
  on_call call h = feed_again lent r long good call.silence call.piece call.buffer ∙ go (ltb (length call.buffer) 260) refl
    where
      go : (t : Bool) → ltb (length call.buffer) 260 ≡ t
          → cond t (untouched 1 bytes call.buffer) (on_record bytes (outcome r call)) ≡ on_record lent (outcome r call)
      go true e = ap (on_record lent) (sym (feed_room r call.silence call.piece call.buffer good (ltb-true _ _ e)))
      go false e = put-over (outcome r call) h

placed_from_3 : (k : ℕ) → is_placed k ≡ true → 3 ≤ k
placed_from_3 k = go (eqb k 3) (eqb k 4) refl refl
  where
    go : (t u : Bool) → eqb k 3 ≡ t → eqb k 4 ≡ u → (t || u) ≡ true → 3 ≤ k
    go true u e f h = omega (arith, eqb-true k 3 e)
    go false true e f h = omega (arith, eqb-true k 4 f)
    go false false e f h = absurd (false≢true h)

-- C can tell from an answer what it reports
heard-said : (s : Said) (taken : ℕ) (buffer : List ℕ) → Sayable s
    → heard (told (record { said = s; taken = taken; buffer = buffer })) ≡ reported s buffer
heard-said nothing taken buffer h = refl
heard-said (gave (served n)) taken buffer h = rw (ne_eqb n 0 (λ e. omega (arith, h)))
heard-said (gave (refused (number k))) taken buffer h = rw (h.0, ne_eqb k 0 (λ e. omega (arith, h.1)))
heard-said (gave (refused (k carrying value))) taken buffer h =
    let three = placed_from_3 k h.0 in
    rw (h.0, ne_eqb k 0 (λ e. omega arith), ne_eqb k 1 (λ e. omega arith), ne_eqb k 2 (λ e. omega arith))

heard_all : (rs : List Result) → AllSayable rs → heard_in (map told rs) ≡ reports rs
unfolding AllSayable heard_in reports
heard_all [] h = refl
heard_all (r ∷ rs) h = rw (heard-said r.said r.taken r.buffer h.0, heard_all rs h.1)

not-told_2 : (s : Said) (taken : ℕ) → Sayable s → (fed s taken).refusal ≡ 2 → ⊥
not-told_2 nothing taken h e = omega arith
not-told_2 (gave (served n)) taken h e = omega arith
not-told_2 (gave (refused n)) taken h e = h.2 e

none_told_2 : (rs : List Result) → AllSayable rs → NoneTold2 (map told rs)
unfolding AllSayable NoneTold2
none_told_2 [] h = tt
none_told_2 (r ∷ rs) h = (not-told_2 r.said r.taken h.0, none_told_2 rs h.1)

-- C is told what is left: the bytes taken, and whether the call was refused
fed_taken : (s : Said) (taken : ℕ) → (fed s taken).taken ≡ taken
fed_taken nothing taken = refl
fed_taken (gave (served n)) taken = refl
fed_taken (gave (refused n)) taken = refl

told_refused : (s : Said) (taken : ℕ) → Sayable s → refused_told (fed s taken) ≡ turned_away s
told_refused nothing taken h = refl
told_refused (gave (served n)) taken h = refl
told_refused (gave (refused (number k))) taken h = refl
told_refused (gave (refused (k carrying value))) taken h =
    let three = placed_from_3 k h.0 in
    rw (ne_eqb k 1 (λ e. omega arith), ne_eqb k 2 (λ e. omega arith))

told-left : (call : Call) (result : Result) → Sayable result.said → left_told call (fed result.said result.taken) ≡ left_by call result
told-left call result h =
    ap (λ (t : Bool). marks (call.silence && t) ++ map byte (drop (fed result.said result.taken).taken call.piece))
    (told_refused result.said result.taken h)
    ∙ ap (λ (n : ℕ). marks (call.silence && turned_away result.said) ++ map byte (drop n call.piece)) (fed_taken result.said result.taken)

-- a series after another
after-append : (done calls : List Call) (r : Record) → record_after r (done ++ calls) ≡ record_after (record_after r done) calls
unfolding record_after
after-append [] calls r = refl
after-append (call ∷ done) calls r = after-append done calls (outcome r call).leaves

-- what the last call of a series says
last_sayable : (done : List Call) (call : Call) (from r : Record) → r ≡ record_after from done → AllSayable (results from (done ++ (call ∷ [])))
    → Sayable (outcome r call).result.said
unfolding record_after results AllSayable
last_sayable [] call from r e h = subst (λ (x : Record). Sayable (outcome x call).result.said) (sym e) h.0
last_sayable (c ∷ done) call from r e h = last_sayable done call (outcome from c).leaves r e h.1

module _ (kind : Kind) (lent : List ℕ) (long : record_size ≤ length lent) where
  in_ranges : (done : List Call) → in_range (record_after (fresh kind) done) ≡ true
  in_ranges done = rw ((demand3 kind).end_record done) ((demand3 kind).in_ranges (stream_of kind done))

  record Goes (r : Record) (calls : List Call) : Type 0 where
    gives : answers (overlay lent 0 (bytes_of r)) calls ≡ map told (results r calls)
    leaves : bytes_after (overlay lent 0 (bytes_of r)) calls ≡ overlay lent 0 (bytes_of (record_after r calls))

  one_more : (done : List Call) (r : Record) (call : Call) → r ≡ record_after (fresh kind) done
      → (outcome r call).leaves ≡ record_after (fresh kind) (done ++ (call ∷ []))
  unfolding record_after
  one_more done r call e = ap (λ (x : Record). (outcome x call).leaves) e ∙ sym (after-append done (call ∷ []) (fresh kind))

  goes_call : (r : Record) (call : Call) (calls : List Call) → called (overlay lent 0 (bytes_of r)) call ≡ on_record lent (outcome r call)
      → Goes (outcome r call).leaves calls → Goes r (call ∷ calls)
  unfolding answers bytes_after results record_after
  goes_call r call calls e g = record { gives = rw (e, g.gives); leaves = rw e g.leaves }

  goes : (calls done : List Call) (r : Record) → r ≡ record_after (fresh kind) done → Goes r calls
  unfolding answers bytes_after results record_after
  goes [] done r e = record { gives = refl; leaves = refl }
  goes (call ∷ calls) done r e =
      let n = one_more done r call e in
      let h : in_range (outcome r call).leaves ≡ true = ap in_range n ∙ in_ranges (done ++ (call ∷ [])) in
      let g : in_range r ≡ true = ap in_range e ∙ in_ranges done in
      goes_call r call calls (on_call lent long r g call h) (goes calls (done ++ (call ∷ [])) (outcome r call).leaves n)

  -- a call after a series: what it gives, and what C has left by it
  module _ (done : List Call) (r : Record) (e : r ≡ record_after (fresh kind) done) (call : Call) where
    this_call : called (overlay lent 0 (bytes_of r)) call ≡ on_record lent (outcome r call)
    this_call =
        on_call lent long r (ap in_range e ∙ in_ranges done) call (ap in_range (one_more done r call e) ∙ in_ranges (done ++ (call ∷ [])))

    sayable : Sayable (outcome r call).result.said
    sayable = last_sayable done call (fresh kind) r e (all_sayable kind (done ++ (call ∷ [])))

    this_left : left_told call (called (overlay lent 0 (bytes_of r)) call).0 ≡ left_by call (outcome r call).result
    this_left = ap (λ (x : MfcFed × List ℕ × List ℕ). left_told call x.0) this_call ∙ told-left call (outcome r call).result sayable

  hands : (calls done : List Call) (r : Record) (stream : List Event) → r ≡ record_after (fresh kind) done
      → HandsOver (overlay lent 0 (bytes_of r)) stream calls → HandsIn r stream calls
  unfolding HandsOver HandsIn
  hands [] done r stream e h = h
  hands (call ∷ calls) done r stream e h =
      let rest = h.0 in
      let same : (called (overlay lent 0 (bytes_of r)) call).1 ≡ overlay lent 0 (bytes_of (outcome r call).leaves) =
      ap (λ (x : MfcFed × List ℕ × List ℕ). x.1) (this_call done r e call) in
      let left = this_left done r e call in
      let on : HandsOver (overlay lent 0 (bytes_of (outcome r call).leaves)) (left_by call (outcome r call).result ++ rest) calls =
      rw (← same, ← left) h.2 in
      (rest, h.1, hands calls (done ++ (call ∷ [])) (outcome r call).leaves (left_by call (outcome r call).result ++ rest) (one_more done r call e) on)

  hands_over : (calls done : List Call) (r : Record) (stream : List Event) → r ≡ record_after (fresh kind) done
      → HandsIn r stream calls → HandsOver (overlay lent 0 (bytes_of r)) stream calls
  unfolding HandsOver HandsIn
  hands_over [] done r stream e h = h
  hands_over (call ∷ calls) done r stream e h =
      let rest = h.0 in
      let same : (called (overlay lent 0 (bytes_of r)) call).1 ≡ overlay lent 0 (bytes_of (outcome r call).leaves) =
      ap (λ (x : MfcFed × List ℕ × List ℕ). x.1) (this_call done r e call) in
      let left = this_left done r e call in
      let on = hands_over calls (done ++ (call ∷ [])) (outcome r call).leaves (left_by call (outcome r call).result ++ rest) (one_more done r call e) h.2 in
      (rest, h.1, rw (same, left) on)

  -- the record's bytes are the first
  abbrev end_of : List Call → Record
  end_of calls = record_of kind (stream_of kind calls)

  laid_in_lem : (r : Record) → in_range r ≡ true → overlay lent 0 (bytes_of r) ≡ laid_in lent r
  unfolding overlay
  laid_in_lem r good = let n : 0 + length (bytes_of r) ≡ record_size = omega (arith, (in_range_lem r good).0) in ap (λ (k : ℕ). bytes_of r ++ drop k lent) n

  begins : fresh_record (number_of_kind kind) lent ≡ (0, overlay lent 0 (bytes_of (fresh kind)))
  unfolding fresh_record
  begins = rw (le-ltb (length lent) record_size long, kind_back kind)

  fresh-bytes : begun kind lent ≡ overlay lent 0 (bytes_of (fresh kind))
  fresh-bytes = ap (λ (x : ℕ × List ℕ). x.1) begins

  from-fresh : (calls : List Call) → Goes (fresh kind) calls
  unfolding record_after
  from-fresh calls = goes calls [] (fresh kind) refl

  fresh-laid : fresh_record (number_of_kind kind) lent ≡ (0, laid_in lent (fresh kind))
  unfolding record_after
  fresh-laid = begins ∙ ap (λ (l : List ℕ). (0, l)) (laid_in_lem (fresh kind) (in_ranges []))

  given : (calls : List Call) → answers (begun kind lent) calls ≡ map told (results (fresh kind) calls)
  given calls = ap (λ (l : List ℕ). answers l calls) fresh-bytes ∙ (from-fresh calls).gives

  each : (calls : List Call) → answers (begun kind lent) calls ≡ map told (expected_from kind [] calls)
  each calls = given calls ∙ ap (map told) ((demand3 kind).each-call calls)

  none_2 : (calls : List Call) → NoneTold2 (answers (begun kind lent) calls)
  none_2 calls = rw (given calls) (none_told_2 (results (fresh kind) calls) (all_sayable kind calls))

  all_heard : (calls : List Call) → heard_in (answers (begun kind lent) calls) ≡ items kind (stream_of kind calls)
  all_heard calls =
      ap heard_in (given calls) ∙ heard_all (results (fresh kind) calls) (all_sayable kind calls) ∙ (demand3 kind).all_items calls

  end : (calls : List Call) → bytes_after (begun kind lent) calls ≡ laid_in lent (end_of calls)
  end calls =
      ap (λ (l : List ℕ). bytes_after l calls) fresh-bytes ∙ (from-fresh calls).leaves
      ∙ ap (λ (r : Record). overlay lent 0 (bytes_of r)) ((demand3 kind).end_record calls)
      ∙ laid_in_lem (end_of calls) ((demand3 kind).in_ranges (stream_of kind calls))

  first : (calls : List Call) → take record_size (bytes_after (begun kind lent) calls) ≡ bytes_of (end_of calls)
  first calls =
      let good = (demand3 kind).in_ranges (stream_of kind calls) in
      let n : length (bytes_of (end_of calls)) ≡ record_size = omega (arith, (in_range_lem (end_of calls) good).0) in
      ap (take record_size) (end calls) ∙ take_at (bytes_of (end_of calls)) (drop record_size lent) record_size n

  bytes_after_lem : (calls : List Call) → bytes_after (begun kind lent) calls ≡ overlay lent 0 (bytes_of (record_after (fresh kind) calls))
  bytes_after_lem calls = ap (λ (l : List ℕ). bytes_after l calls) fresh-bytes ∙ (from-fresh calls).leaves

  noise-told : (calls : List Call)
      → noise_record (bytes_after (begun kind lent) calls) ≡ record { refusal = 0; count = limited (noise (stream_of kind calls)) }
  noise-told calls =
      ap noise_record (bytes_after_lem calls)
      ∙ noise-again lent (record_after (fresh kind) calls) long (in_ranges calls)
      ∙ ap (λ (n : ℕ). noise_told (served n)) ((demand3 kind).noise-count calls)

  cut : (calls : List Call) (left : List Event) (more : List Call) → HandsOver (bytes_after (begun kind lent) calls) left more
      → stream_of kind (calls ++ more) ≡ stream_of kind calls ++ left
  cut calls left more h =
      (demand3 kind).every_cut calls left more
      (hands more calls (record_after (fresh kind) calls) left refl (subst (λ (l : List ℕ). HandsOver l left more) (bytes_after_lem calls) h))

  handed_so : (calls : List Call) (left : List Event) → (more : List Call) × HandsOver (bytes_after (begun kind lent) calls) left more
  handed_so calls left =
      let t = (demand3 kind).handed_in calls left in
      (t.0, subst (λ (l : List ℕ). HandsOver l left t.0) (sym (bytes_after_lem calls)) (hands_over t.0 calls (record_after (fresh kind) calls) left refl t.1))

  leaves_less : (calls : List Call) (call : Call) → 1 ≤ length (handed call) → 260 ≤ length call.buffer
      → length (left_told call (called (bytes_after (begun kind lent) calls) call).0) < length (handed call)
  leaves_less calls call some room =
      let left : left_told call (called (bytes_after (begun kind lent) calls) call).0 ≡ left_by call (outcome (record_after (fresh kind) calls) call).result =
      ap (λ (l : List ℕ). left_told call (called l call).0) (bytes_after_lem calls) ∙ this_left calls (record_after (fresh kind) calls) refl call in
      rw left ((demand3 kind).progress calls call some room)

pub series_over-bytes : (kind : Kind) → SeriesOverBytes kind
series_over-bytes kind =
    record {
      fresh_record_lem = fresh-laid kind;
      each-call = each kind;
      never_2 = none_2 kind;
      all_items = all_heard kind;
      end_record = end kind;
      noise-count = noise-told kind;
      one_record =
          λ lent other long big calls others same.
          first kind lent long calls
          ∙ ap (λ (stream : List Event). bytes_of (record_of kind stream)) same
          ∙ sym (first kind other big others);
      every_cut = cut kind;
      handed_in = handed_so kind;
      progress = leaves_less kind;
    }
