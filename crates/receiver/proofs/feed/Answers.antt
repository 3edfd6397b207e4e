-- By what `in_range`, `after_mark`, `is_cut`, `scan_piece` and `complete` ensure. Assumes nothing.
use Prim.Native.Nat.{ℕ, ◌≤◌, ◌<◌}
use native.Mathlib.Omega.{arith}
use mathlib.Core.Path.{◌≡◌, sym, ap, ◌∙◌}
use mathlib.Core.Bool.{Bool, true, false, cond, ◌&&◌}
use mathlib.Core.List.{List}
use lib.Dec.{ltb}
use lib.ListN.{length}
use borrow.Author.Tests.{eq-eqb, ne_eqb}
use Rattle.std.specs.Array.{IsWholeChunk}
use Rattle.receiver.specs.declared.Fed.{Fed}
use Rattle.receiver.specs.declared.Receiver.{Receiver}
use Rattle.receiver.specs.Record.{Record, held, outside_of, length_in_range, in_range, pending_in}
use Rattle.receiver.specs.Calls.{Outcome, Scan, paper_fed, scan_from, refused_call, completed, unfinished, after_mark, feed_of}
use Rattle.receiver.proofs.Cases.{range_few, feed_range, feed_room, feed_cut, feed_open, feed_closed, mark-held, cut-marks, noise-mark}
use Rattle.receiver.proofs.feed.Goals as goal

-- a store of another size is out of range
no_store : (r : Receiver) (store : List ℕ) → (length store ≡ 260 → ⊥) → in_range (held r store) ≡ false
no_store r store h = rw (ne_eqb (length store) 260 h)

-- past the refusals: the mark
module _ (r from : Receiver) (store : List ℕ) (flag : Bool) (range : in_range (held r store) ≡ true) (mark : from ≡ cond flag (outside_of r.kind r.noise) r) where
  begun : held from store ≡ after_mark flag (held r store)
  begun = mark-held flag r store mark

  few : from.noise < 4294967296
  few = omega (arith, ap (λ (x : Record). x.noise) begun, noise-mark flag (held r store), range_few (held r store) range)

  -- what the call gives, by whether the mark cuts off a stretch and by what a scan of the piece found
  module _ (piece frame : List ℕ) (room : 260 ≤ length frame) {t : Bool} (told : t ≡ (flag && pending_in r.mode r.len)) where
    gives_cut : t ≡ true
        → ◌≡◌ {A = Outcome} (refused_call 9 (held from store) frame) (feed_of (held r store) flag piece frame)
    gives_cut cut =
        ap (λ (x : Record). refused_call 9 x frame)
        (begun ∙ cut-marks flag (held r store) (sym told ∙ cut))
        ∙ sym (feed_cut (held r store) flag piece frame range room (sym told ∙ cut))

    module _ (on : t ≡ false) (s : Scan) (e : s ≡ scan_from 0 (held from store) piece) where
      found : s ≡ scan_from 0 (after_mark flag (held r store)) piece
      found = e ∙ ap (λ (x : Record). scan_from 0 x piece) begun

      gives_item : {o : Outcome} → s.closed ≡ true → o ≡ completed s.before s.taken frame → o ≡ feed_of (held r store) flag piece frame
      gives_item closed q = q ∙ sym (feed_closed (held r store) flag piece frame s range room (sym told ∙ on) found closed)

      gives_none : s.closed ≡ false → unfinished s.before s.taken frame ≡ feed_of (held r store) flag piece frame
      gives_none still = sym (feed_open (held r store) flag piece frame s range room (sym told ∙ on) found still)

-- whether the record is within its ranges, by what the code tests of it
in_ranges : (r : Receiver) (store : List ℕ) (test t : Bool) → length store ≡ 260 → test ≡ (ltb r.noise 4294967296 && length_in_range r.mode r.len) → test ≡ t
    → in_range (held r store) ≡ t
in_ranges r store test t size is e = rw (eq-eqb (length store) 260 size) (sym is ∙ e)

-- the store as the array that the code works on
module _ (r : Receiver) (silence : Bool) (piece frame : List ℕ) {store array : List ℕ} (whole : IsWholeChunk store array 260) where
  sized : length array ≡ 260
  sized = ap length whole.same ∙ whole.long

  as_array : {o : Outcome} → o ≡ feed_of (held r array) silence piece frame → o ≡ feed_of (held r store) silence piece frame
  as_array e = e ∙ ap (λ (l : List ℕ). feed_of (held r l) silence piece frame) whole.same

pub returns-in_default : goal.returns-in_default
returns-in_default c =
    let a = c.args in
    ap (λ (f : Fed). paper_fed f a.store.now a.frame.now) c.refused.ensures
    ∙ sym (feed_range (held a.r a.store.now) a.silence a.piece.now a.frame.now (no_store a.r a.store.now c.in_default.ensures.cases))

pub returns-then-not-in_range : goal.returns-then-not-in_range
returns-then-not-in_range c =
    let a = c.args in
    let whole = c.in-Some.ensures.cases in
    let size = sized a.r a.silence a.piece.now a.frame.now whole in
    as_array a.r a.silence a.piece.now a.frame.now whole
    (ap (λ (f : Fed). paper_fed f c.in-Some.store.now a.frame.now) c.refused-then-not-in_range.ensures
    ∙ sym (feed_range _ _ _ _ (in_ranges a.r c.in-Some.store.now _ _ size c.in_range.ensures c.if-not-in_range.true)))

pub returns-then-frame-lt260 : goal.returns-then-frame-lt260
returns-then-frame-lt260 c =
    let a = c.args in
    let whole = c.in-Some.ensures.cases in
    let size = sized a.r a.silence a.piece.now a.frame.now whole in
    as_array a.r a.silence a.piece.now a.frame.now whole
    (ap (λ (f : Fed). paper_fed f c.in-Some.store.now a.frame.now) c.refused-then-frame-lt260.ensures
    ∙ sym (feed_room _ _ _ _ (in_ranges a.r c.in-Some.store.now _ _ size c.in_range.ensures c.if-not-in_range.false) c.if-frame-lt260.true))

pub returns-then-is_cut : goal.returns-then-is_cut
returns-then-is_cut c =
    let a = c.args in
    let store = c.in-Some.store.now in
    let whole = c.in-Some.ensures.cases in
    let range = in_ranges a.r store _ _ (sized a.r a.silence a.piece.now a.frame.now whole) c.in_range.ensures c.if-not-in_range.false in
    as_array a.r a.silence a.piece.now a.frame.now whole
    (ap (λ (f : Fed). paper_fed f store a.frame.now) c.refused-then-is_cut.ensures
    ∙ gives_cut a.r _ store a.silence range c.after_mark-from.ensures a.piece.now a.frame.now c.if-frame-lt260.false c.is_cut.ensures c.if-is_cut.true)

pub scan_piece-scanned-requires : goal.scan_piece-scanned-requires
scan_piece-scanned-requires c =
    let a = c.args in
    let store = c.in-Some.store.now in
    let whole = c.in-Some.ensures.cases in
    let range = in_ranges a.r store _ _ (sized a.r a.silence a.piece.now a.frame.now whole) c.in_range.ensures c.if-not-in_range.false in
    few a.r _ store a.silence range c.after_mark-from.ensures

pub returns-then-scanned : goal.returns-then-scanned
returns-then-scanned c =
    let a = c.args in
    let store = c.in-Some.store.now in
    let whole = c.in-Some.ensures.cases in
    let range = in_ranges a.r store _ _ (sized a.r a.silence a.piece.now a.frame.now whole) c.in_range.ensures c.if-not-in_range.false in
    as_array a.r a.silence a.piece.now a.frame.now whole
    (gives_item a.r _ store a.silence range c.after_mark-from.ensures a.piece.now a.frame.now c.if-frame-lt260.false c.is_cut.ensures c.if-is_cut.false
    _ c.scan_piece-scanned.ensures c.if-scanned.true c.complete.ensures)

pub returns : goal.returns
returns c =
    let a = c.args in
    let store = c.in-Some.store.now in
    let whole = c.in-Some.ensures.cases in
    let range = in_ranges a.r store _ _ (sized a.r a.silence a.piece.now a.frame.now whole) c.in_range.ensures c.if-not-in_range.false in
    as_array a.r a.silence a.piece.now a.frame.now whole
    (gives_none a.r _ store a.silence range c.after_mark-from.ensures a.piece.now a.frame.now c.if-frame-lt260.false c.is_cut.ensures c.if-is_cut.false
    _ c.scan_piece-scanned.ensures c.if-scanned.false)
