-- The cases of the models, each by the tests that lead to it. Assumes nothing.
use Prim.Native.Nat.{ℕ, ◌+◌, ◌<◌, ◌≤◌}
use native.Mathlib.Omega.{arith}
use mathlib.Core.Path.{◌≡◌, refl, sym, ap, ◌∙◌}
use mathlib.Core.Bool.{Bool, true, false, cond, not, ◌&&◌, false≢true}
use mathlib.Core.List.{List, [], ◌∷◌}
use borrow.Author.Tests.{ltb-true, lt-ltb, le-ltb, eqb-true}
use lib.Dec.{ltb, eqb}
use lib.ListN.{length}
use Rattle.refusal.specs.Refusals.{Numbered, refused}
use Rattle.shdlc.specs.Stream.{Item}
use Rattle.receiver.specs.declared.Receiver.{Receiver}
use Rattle.receiver.specs.declared.Fed.{Fed}
use Rattle.receiver.specs.Record.{Record, held, outside_of, length_in_range, in_range, Act, Store, Become, Discard, act_of, pushed, acted, opened, silenced, pending, item_of, next_byte}
use Rattle.receiver.specs.Calls.{gave, Outcome, said_of, buffer_of, Scan, paper_fed, refused_call, completed, unfinished, closes, scan_from, fed_by, cut_off, after_mark, heard, feed_of}

-- a test of the code that is negated
pub not_true : (t : Bool) → not t ≡ true → t ≡ false
not_true true h = sym h
not_true false h = refl

pub not_false : (t : Bool) → not t ≡ false → t ≡ true
not_false true h = refl
not_false false h = sym h

-- a record within its ranges has its store
pub range_size : (r : Record) → in_range r ≡ true → length r.store ≡ 260
range_size r h = go (eqb (length r.store) 260) refl h
  where
    go : (t : Bool) → eqb (length r.store) 260 ≡ t → (t && (ltb r.noise 4294967296 && length_in_range r.mode r.len)) ≡ true
        → length r.store ≡ 260
    go true e g = eqb-true _ _ e
    go false e g = absurd (false≢true g)

-- and so few noise bytes
pub range_few : (r : Record) → in_range r ≡ true → r.noise < 4294967296
range_few r h = go (eqb (length r.store) 260) (ltb r.noise 4294967296) refl h
  where
    go : (t u : Bool) → ltb r.noise 4294967296 ≡ u → (t && (u && length_in_range r.mode r.len)) ≡ true → r.noise < 4294967296
    go true true f g = ltb-true _ _ f
    go true false f g = absurd (false≢true g)
    go false u f g = absurd (false≢true g)

-- a call
module _ (r : Record) (silence : Bool) (piece buffer : List ℕ) where
  pub feed_range : in_range r ≡ false → feed_of r silence piece buffer ≡ refused_call 2 r buffer
  unfolding feed_of
  feed_range h = rw h

  pub feed_room : in_range r ≡ true → length buffer < 260 → feed_of r silence piece buffer ≡ refused_call 1 r buffer
  unfolding feed_of
  feed_room h g = rw (h, lt-ltb (length buffer) 260 g)

  pub feed_heard : in_range r ≡ true → 260 ≤ length buffer → feed_of r silence piece buffer ≡ heard r silence piece buffer
  unfolding feed_of
  feed_heard h g = rw (h, le-ltb (length buffer) 260 g)

  -- by whether the mark cuts off a stretch
  feed_by_cut : (t : Bool) → in_range r ≡ true → 260 ≤ length buffer → (silence && pending r) ≡ t
      → feed_of r silence piece buffer ≡ cond t (cut_off r buffer) (fed_by (scan_from 0 (after_mark silence r) piece) buffer)
  feed_by_cut t h g c =
      feed_heard h g ∙ ap (λ (u : Bool). cond u (cut_off r buffer) (fed_by (scan_from 0 (after_mark silence r) piece) buffer)) c

  pub feed_cut : in_range r ≡ true → 260 ≤ length buffer → (silence && pending r) ≡ true → feed_of r silence piece buffer ≡ cut_off r buffer
  feed_cut = feed_by_cut true

  module _ (s : Scan) (range : in_range r ≡ true) (room : 260 ≤ length buffer) (on : (silence && pending r) ≡ false) (found : s ≡ scan_from 0 (after_mark silence r) piece) where
    pub feed_open : s.closed ≡ false → feed_of r silence piece buffer ≡ unfinished s.before s.taken buffer
    feed_open still = feed_by_cut false range room on ∙ ap (λ (x : Scan). fed_by x buffer) (sym found) ∙ rw still

    pub feed_closed : s.closed ≡ true → feed_of r silence piece buffer ≡ completed s.before s.taken buffer
    feed_closed closed = feed_by_cut false range room on ∙ ap (λ (x : Scan). fed_by x buffer) (sym found) ∙ rw closed

-- the record that the code makes of a mark, and what it tests
module _ (silence : Bool) (r : Receiver) (store : List ℕ) where
  pub mark-held : {x : Receiver} → x ≡ cond silence (outside_of r.kind r.noise) r → held x store ≡ after_mark silence (held r store)
  mark-held e = ap (λ (x : Receiver). held x store) e ∙ go silence
    where
      go : (t : Bool) → held (cond t (outside_of r.kind r.noise) r) store ≡ after_mark t (held r store)
      go true = refl
      go false = refl

-- a mark that cuts off is one
pub cut-marks : (silence : Bool) (r : Record) → (silence && pending r) ≡ true → after_mark silence r ≡ silenced r
cut-marks true r h = refl
cut-marks false r h = absurd (false≢true h)

-- a mark leaves the kind and the noise count
kind_mark : (silence : Bool) (r : Record) → (after_mark silence r).kind ≡ r.kind
kind_mark true r = refl
kind_mark false r = refl

pub noise-mark : (silence : Bool) (r : Record) → (after_mark silence r).noise ≡ r.noise
noise-mark true r = refl
noise-mark false r = refl

abbrev shown : Record → ℕ → List ℕ → Item → Outcome
shown r taken buffer item = record { leaves = opened r; result = record { said = said_of item; taken = taken; buffer = buffer_of item buffer } }

-- an item completed, by what the code's judgement says of it
module _ (r : Record) (taken : ℕ) (buffer : List ℕ) where
  pub completed_refused : (n : Numbered) → item_of r ≡ refused n
      → completed r taken buffer ≡ record { leaves = opened r; result = record { said = gave (refused n); taken = taken; buffer = buffer } }
  completed_refused n e = ap (shown r taken buffer) e

-- what holds of both outcomes of a test holds of what it gives
by_test : {A : Type 0} (P : A → Type 0) (t : Bool) {a b : A} → P a → P b → P (cond t a b)
by_test P true p q = p
by_test P false p q = q

-- no more bytes are taken than the piece has
scan_taken : (piece : List ℕ) (n : ℕ) (r : Record) → (scan_from n r piece).taken ≤ n + length piece
unfolding scan_from
scan_taken [] n r = omega arith
scan_taken (b ∷ piece) n r =
    by_test (λ (s : Scan). s.taken ≤ n + length (b ∷ piece)) (closes r b) (omega arith) (omega (arith, scan_taken piece (n + 1) (next_byte r b)))

feed_taken : (r : Record) (silence : Bool) (piece buffer : List ℕ) → (feed_of r silence piece buffer).result.taken ≤ length piece
unfolding feed_of
feed_taken r silence piece buffer =
    let within : Outcome → Type 0 = λ o. o.result.taken ≤ length piece in
    let s = scan_from 0 (after_mark silence r) piece in
    let h : s.taken ≤ length piece = omega (arith, scan_taken piece 0 (after_mark silence r)) in
    by_test within (in_range r)
    (by_test within (ltb (length buffer) 260) (omega arith) (by_test within (silence && pending r) (omega arith) (by_test within s.closed h h)))
    (omega arith)

-- the same, as a caller of `feed` has it from the contract
pub taken_within : (f : Fed) (store after : List ℕ) (r : Record) (silence : Bool) (piece buffer : List ℕ)
    → paper_fed f store after ≡ feed_of r silence piece buffer → f.taken ≤ length piece
taken_within f store after r silence piece buffer e =
    let t : f.taken ≡ (feed_of r silence piece buffer).result.taken = ap (λ (x : Outcome). x.result.taken) e in
    omega (arith, feed_taken r silence piece buffer)

-- a piece of one byte is taken whole
one_taken : (r : Record) (b : ℕ) → (scan_from 0 r (b ∷ [])).taken ≡ 1
unfolding scan_from
one_taken r b = by_test (λ (s : Scan). s.taken ≡ 1) (closes r b) refl refl

-- no call changes the kind
pub kind_acted : (r : Record) (a : Act) → (acted r a).kind ≡ r.kind
unfolding acted
kind_acted r (Store b) = go (ltb r.len 260)
  where
    go : (t : Bool) → (pushed t r b).kind ≡ r.kind
    go true = refl
    go false = refl
kind_acted r (Become m) = refl
kind_acted r Discard = refl

kind_next : (r : Record) (b : ℕ) → (next_byte r b).kind ≡ r.kind
unfolding next_byte
kind_next r b = by_test (λ (x : Record). x.kind ≡ r.kind) (eqb b 0x7E) refl (kind_acted r (act_of r.mode b))

kind_scan : (piece : List ℕ) (n : ℕ) (r : Record) → (scan_from n r piece).before.kind ≡ r.kind
unfolding scan_from
kind_scan [] n r = refl
kind_scan (b ∷ piece) n r =
    by_test (λ (s : Scan). s.before.kind ≡ r.kind) (closes r b) refl (kind_scan piece (n + 1) (next_byte r b) ∙ kind_next r b)

kind_feed : (r : Record) (silence : Bool) (piece buffer : List ℕ) → (feed_of r silence piece buffer).leaves.kind ≡ r.kind
unfolding feed_of
kind_feed r silence piece buffer =
    let kept : Outcome → Type 0 = λ o. o.leaves.kind ≡ r.kind in
    let s = scan_from 0 (after_mark silence r) piece in
    let h : s.before.kind ≡ r.kind = kind_scan piece 0 (after_mark silence r) ∙ kind_mark silence r in
    by_test kept (in_range r) (by_test kept (ltb (length buffer) 260) refl (by_test kept (silence && pending r) refl (by_test kept s.closed h h))) refl

-- the noise count stays within its range
pub few_acted : (r : Record) (a : Act) → r.noise < 4294967296 → (acted r a).noise < 4294967296
unfolding acted
few_acted r (Store b) h = go (ltb r.len 260)
  where
    go : (t : Bool) → (pushed t r b).noise < 4294967296
    go true = h
    go false = h
few_acted r (Become m) h = h
few_acted r Discard h = omega arith

few_next : (r : Record) (b : ℕ) → r.noise < 4294967296 → (next_byte r b).noise < 4294967296
unfolding next_byte
few_next r b h = by_test (λ (x : Record). x.noise < 4294967296) (eqb b 0x7E) h (few_acted r (act_of r.mode b) h)

pub few_scan : (piece : List ℕ) (n : ℕ) (r : Record) → r.noise < 4294967296 → (scan_from n r piece).before.noise < 4294967296
unfolding scan_from
few_scan [] n r h = h
few_scan (b ∷ piece) n r h =
    by_test (λ (s : Scan). s.before.noise < 4294967296) (closes r b) h (few_scan piece (n + 1) (next_byte r b) (few_next r b h))

-- the kind, as a caller has it from the contract
pub kind_fed : (f : Fed) (store after : List ℕ) (r : Record) (silence : Bool) (piece buffer : List ℕ)
    → paper_fed f store after ≡ feed_of r silence piece buffer → f.receiver.kind ≡ r.kind
kind_fed f store after r silence piece buffer e = ap (λ (x : Outcome). x.leaves.kind) e ∙ kind_feed r silence piece buffer
