-- Demand 3: every series of calls gives what its stream says. Assumes nothing.
use Prim.Native.Nat.{ℕ, suc, ◌+◌, ◌-◌, ◌≤◌, ◌<◌}
use native.Mathlib.Omega.{arith}
use mathlib.Core.Path.{◌≡◌, refl, sym, ap, subst, ◌∙◌}
use mathlib.Core.Bool.{Bool, true, false, cond, ◌&&◌, not, false≢true}
use mathlib.Core.List.{List, [], ◌∷◌, ◌++◌, map, append_assoc, append-nil}
use lib.Dec.{ltb, eqb}
use lib.ListN.{length, take, drop, get_or, replicate, length-append, length-drop, length-replicate, take-append-drop}
use lib.Seq.{drop-append_seam}
use borrow.Author.Tests.{ltb-true, ltb-false, lt-ltb, le-ltb, ne_eqb}
use Rattle.refusal.specs.Refusals.{Numbered, number, ◌carrying◌, number_in, is_placed, served, refused}
use Rattle.refusal.proofs.Room.{take-overlay}
use Rattle.shdlc.specs.declared.Kind.{Kind}
use Rattle.shdlc.specs.declared.Kind.TheVariants.{Request, Reply}
use Rattle.shdlc.specs.Checksum.{checksum_of}
use Rattle.shdlc.specs.Body.{shortest, longest, length_place, check_body}
use Rattle.shdlc.specs.Stream.{Event, byte, mark, Item, Place, outside, next, gain, items_from, items}
use Rattle.shdlc.proofs.Stream.{place_from, place_append, items-append, map-append}
use Rattle.receiver.specs.declared.Mode.{Mode}
use Rattle.receiver.specs.declared.Mode.TheVariants.{Outside, Plain, Escaped, BadEscape, BareControl}
use Rattle.receiver.specs.Record.{Record, in_range, fresh, opened, silenced, pending, item_in, item_of, next_byte, next_record, record_from, record_of}
use Rattle.receiver.specs.Calls.{Said, nothing, gave, Result, Outcome, said_of, buffer_of, completed, unfinished, closes, Scan, scan_from, refused_call, cut_off, after_mark, heard, feed_of}
use Rattle.receiver.specs.Series.{Call, gains, up_to, marks, bytes_added, events_added, added, stream_from, stream_of, gained, giving, expected, expected_from, outcome, results, record_after, refuses_call, reported, reports, NoneRefused2, turned_away, handed, left_by, HandsIn, Demand3}
use Rattle.receiver.proofs.Cases.{feed_room, feed_heard}
use Rattle.receiver.proofs.NoiseOfStream.{noise_stream}
use Rattle.receiver.proofs.Simulation.{At, at_next, at-gain, at_range, at-fresh}

abbrev pub place_of : List Event → Place
place_of stream = place_from outside stream

pub record_append : (es fs : List Event) (r : Record) → record_from r (es ++ fs) ≡ record_from (record_from r es) fs
unfolding record_from
record_append [] fs r = refl
record_append (e ∷ es) fs r = record_append es fs (next_record r e)

at_record : (kind : Kind) (es : List Event) (place : Place) (r : Record) → At kind place r → At kind (place_from place es) (record_from r es)
unfolding place_from record_from
at_record kind [] place r h = h
at_record kind (e ∷ es) place r h = at_record kind es (next place e) (next_record r e) (at_next kind place r e h)

at_stream : (kind : Kind) (stream : List Event) → At kind (place_of stream) (record_of kind stream)
at_stream kind stream = at_record kind stream outside (fresh kind) (at-fresh kind)

-- what a stream gains is what comes at its place
pub gained-at : (kind : Kind) (stream more : List Event) → gained kind stream more ≡ items_from kind (place_of stream) more
unfolding gained items
gained-at kind stream more = rw items-append (drop-append_seam (items_from kind outside stream) (items_from kind (place_of stream) more))

items-gained : (kind : Kind) (stream more : List Event) → items kind (stream ++ more) ≡ items kind stream ++ gained kind stream more
unfolding items
items-gained kind stream more =
    items-append kind stream more outside ∙ ap (λ (g : List Item). items_from kind outside stream ++ g) (sym (gained-at kind stream more))

-- the piece up to the first item, by the place
some_item : List Item → Bool
some_item [] = false
some_item (i ∷ l) = true

longer : (a b : List Item) → ltb (length a) (length (a ++ b)) ≡ some_item b
unfolding some_item
longer a [] = rw append-nil (le-ltb (length a) (length a) (omega arith))
longer a (i ∷ b) = lt-ltb (length a) (length (a ++ (i ∷ b))) (omega (arith, length-append a (i ∷ b)))

up_to_at : Kind → Place → List ℕ → List ℕ
up_to_at kind place [] = []
up_to_at kind place (b ∷ piece) = b ∷ cond (some_item (gain kind place (byte b))) [] (up_to_at kind (next place (byte b)) piece)

gains_item : (kind : Kind) (stream : List Event) (event : Event) → gains kind stream (event ∷ []) ≡ some_item (gain kind (place_of stream) event)
unfolding gains items items_from
gains_item kind stream event = rw (items-append, append-nil) (longer (items_from kind outside stream) (gain kind (place_of stream) event))

up_to_at_lem : (kind : Kind) (piece : List ℕ) (stream : List Event) → up_to kind stream piece ≡ up_to_at kind (place_of stream) piece
unfolding up_to up_to_at place_from
up_to_at_lem kind [] stream = refl
up_to_at_lem kind (b ∷ piece) stream = rw (gains_item, up_to_at_lem kind piece (stream ++ (byte b ∷ [])), place_append)

-- it is a part of the piece from its front, and has a byte if the piece has one
cut_short : (t : Bool) (b : ℕ) (u piece : List ℕ) → take (length u) piece ≡ u → take (length (b ∷ cond t [] u)) (b ∷ piece) ≡ b ∷ cond t [] u
cut_short true b u piece h = refl
cut_short false b u piece h = ap (λ (l : List ℕ). b ∷ l) h

up_to_front : (kind : Kind) (piece : List ℕ) (stream : List Event) → take (length (up_to kind stream piece)) piece ≡ up_to kind stream piece
unfolding up_to
up_to_front kind [] stream = refl
up_to_front kind (b ∷ piece) stream =
    cut_short (gains kind stream (byte b ∷ [])) b (up_to kind (stream ++ (byte b ∷ [])) piece) piece
    (up_to_front kind piece (stream ++ (byte b ∷ [])))

up_to_some : (kind : Kind) (piece : List ℕ) (stream : List Event) → 1 ≤ length piece → 1 ≤ length (up_to kind stream piece)
unfolding up_to
up_to_some kind [] stream h = omega arith
up_to_some kind (b ∷ piece) stream h = omega arith

-- a scan from a place: the bytes passed, the record after them, and the item that they gain
abbrev shown : Scan → List Item
shown s = cond s.closed (item_of s.before ∷ []) []

record Scans (kind : Kind) (place : Place) (r : Record) (n : ℕ) (u : List ℕ) (s : Scan) : Type 0 where
  taken : s.taken ≡ n + length u
  leaves : cond s.closed (opened s.before) s.before ≡ record_from r (map byte u)
  item : shown s ≡ items_from kind place (map byte u)

closes_item : (t u : Bool) (i : Item) → some_item (cond t (cond u (i ∷ []) []) []) ≡ (t && u)
unfolding some_item
closes_item true true i = refl
closes_item true false i = refl
closes_item false u i = refl

at-closes : (kind : Kind) (place : Place) (r : Record) (b : ℕ) → At kind place r → some_item (gain kind place (byte b)) ≡ closes r b
at-closes kind place r b h = rw (← at-gain kind place r (byte b) h) (closes_item (eqb b 0x7E) (pending r) (item_of r))

closing : (t u : Bool) → (t && u) ≡ true → (t ≡ true) × (u ≡ true)
closing true true h = (refl, refl)
closing true false h = (refl, h)
closing false u h = (h, absurd (false≢true h))

not-closing : (t u : Bool) (i : Item) → (t && u) ≡ false → cond t (cond u (i ∷ []) []) [] ≡ []
not-closing true true i h = absurd (false≢true (sym h))
not-closing true false i h = refl
not-closing false u i h = refl

module _ (kind : Kind) (place : Place) (r : Record) (n b : ℕ) (h : At kind place r) where
  scans_closing : closes r b ≡ true → Scans kind place r n (b ∷ []) (record { before = r; taken = n + 1; closed = true })
  unfolding record_from next_record next_byte items_from
  scans_closing c =
      let t = closing (eqb b 0x7E) (pending r) c in
      record { taken = refl; leaves = rw t.0; item = rw (append-nil, ← at-gain kind place r (byte b) h, t.0, t.1) }

  scans_on : (u : List ℕ) (s : Scan) → closes r b ≡ false → Scans kind (next place (byte b)) (next_record r (byte b)) (n + 1) u s
      → Scans kind place r n (b ∷ u) s
  unfolding record_from items_from
  scans_on u s c q =
      record {
        taken = omega (arith, q.taken);
        leaves = q.leaves;
        item = rw (← at-gain kind place r (byte b) h, not-closing (eqb b 0x7E) (pending r) (item_of r) c) q.item;
      }

  scans_byte : (t : Bool) (u : List ℕ) (s : Scan) → closes r b ≡ t → Scans kind (next place (byte b)) (next_record r (byte b)) (n + 1) u s
      → Scans kind place r n (b ∷ cond t [] u) (cond t (record { before = r; taken = n + 1; closed = true }) s)
  scans_byte true u s c q = scans_closing c
  scans_byte false u s c q = scans_on u s c q

scans : (kind : Kind) (piece : List ℕ) (place : Place) (r : Record) (n : ℕ) → At kind place r
    → Scans kind place r n (up_to_at kind place piece) (scan_from n r piece)
unfolding up_to_at scan_from record_from items_from next_record
scans kind [] place r n h = record { taken = omega arith; leaves = refl; item = refl }
scans kind (b ∷ piece) place r n h =
    rw (at-closes kind place r b h)
    (scans_byte kind place r n b h (closes r b) (up_to_at kind (next place (byte b)) piece) (scan_from (n + 1) (next_byte r b) piece) refl
    (scans kind piece (next place (byte b)) (next_record r (byte b)) (n + 1) (at_next kind place r (byte b) h)))

-- 3 and 4 carry their place; no other refusal in a series carries anything
abbrev pub Carries : Numbered → Type 0
Carries (number k) = is_placed k ≡ false
Carries (k carrying value) = is_placed k ≡ true

-- an item of a stream is a frame with a byte, or a refusal from 3 on
abbrev Proper : Item → Type 0
Proper (served body) = 1 ≤ length body
Proper (refused n) = Carries n × (3 ≤ number_in n)

proper_number : (n : ℕ) → is_placed n ≡ false → 3 ≤ n → Proper (refused (number n))
proper_number n e h = (e, h)

proper_checks : (a b c d : Bool) (body : List ℕ) → (b ≡ false → 1 ≤ length body)
    → Proper (cond a (refused (number 5)) (cond b (refused (number 6)) (cond c (refused (number 7)) (cond d (refused (number 8)) (served body)))))
proper_checks true b c d body h = proper_number 5 refl (omega arith)
proper_checks false true c d body h = proper_number 6 refl (omega arith)
proper_checks false false true d body h = proper_number 7 refl (omega arith)
proper_checks false false false true body h = proper_number 8 refl (omega arith)
proper_checks false false false false body h = h refl

shortest_some : (kind : Kind) → 1 ≤ shortest kind
shortest_some Request = omega arith
shortest_some Reply = omega arith

proper_body : (kind : Kind) (body : List ℕ) → Proper (check_body kind body)
unfolding check_body
proper_body kind body =
    proper_checks (ltb (longest kind) (length body)) (ltb (length body) (shortest kind))
    (not (eqb (get_or body (length_place kind) 0) (length body - shortest kind)))
    (not (eqb (get_or body (length body - 1) 0) (checksum_of (take (length body - 1) body)))) body
    (λ e. omega (arith, ltb-false (length body) (shortest kind) e, shortest_some kind))

proper_long : (t : Bool) (i : Item) → Proper i → Proper (cond t (refused (number 5)) i)
proper_long true i h = proper_number 5 refl (omega arith)
proper_long false i h = h

proper_item : (m : Mode) (kind : Kind) (n : ℕ) (store : List ℕ) → Proper (item_in m kind n store)
proper_item Outside kind n store = (refl, omega arith)
proper_item Plain kind n store = proper_long (ltb 260 n) (check_body kind (take n store)) (proper_body kind (take n store))
proper_item Escaped kind n store = (refl, omega arith)
proper_item BadEscape kind n store = (refl, omega arith)
proper_item BareControl kind n store = (refl, omega arith)

-- at most one item is gained by a call, and it is proper
abbrev One : List Item → Type 0
One [] = Unit {0}
One (i ∷ l) = Proper i × (l ≡ [])

-- which is no number that refuses a call
refuses_none : (n : Numbered) → Proper (refused n) → refuses_call n ≡ false
refuses_none (number k) h = rw (ne_eqb k 1 (λ e. omega (arith, h.1)), ne_eqb k 2 (λ e. omega (arith, h.1)))
refuses_none (k carrying value) h = refl

-- what a call gives is reported again as what was gained
report_item : (i : Item) (buffer : List ℕ) → Proper i → reported (said_of i) (buffer_of i buffer) ≡ i ∷ []
report_item (served body) buffer h = ap (λ (s : List ℕ). served s ∷ []) (take-overlay buffer body)
report_item (refused n) buffer h = rw (refuses_none n h)

reports-back : (g : List Item) (n : ℕ) (buffer : List ℕ) → One g → reported (giving g n buffer).said (giving g n buffer).buffer ≡ g
reports-back [] n buffer h = refl
reports-back (i ∷ l) n buffer h = report_item i buffer h.0 ∙ ap (λ (x : List Item). i ∷ x) (sym h.1)

-- what a call says in a series: nothing yet, a frame with a byte, or a refusal whose number is neither 0 nor 2
abbrev pub Sayable : Said → Type 0
Sayable nothing = Unit {0}
Sayable (gave (served n)) = 1 ≤ n
Sayable (gave (refused n)) = Carries n × (1 ≤ number_in n) × (number_in n ≡ 2 → ⊥)

unfoldable pub AllSayable : List Result → Type 0
AllSayable [] = Unit {0}
AllSayable (result ∷ results) = Sayable result.said × AllSayable results

sayable_item : (i : Item) → Proper i → Sayable (said_of i)
sayable_item (served body) h = h
sayable_item (refused n) h = (h.0, omega (arith, h.1), λ e. omega (arith, h.1))

sayable_giving : (g : List Item) (n : ℕ) (buffer : List ℕ) → One g → Sayable (giving g n buffer).said
sayable_giving [] n buffer h = tt
sayable_giving (i ∷ l) n buffer h = sayable_item i h.0

sayable_not_2 : (s : Said) → Sayable s → s ≡ gave (refused (number 2)) → ⊥
sayable_not_2 nothing h e = let z : ◌≡◌ {A = ℕ} 0 1 = cc in omega arith
sayable_not_2 (gave (served n)) h e = let z : ◌≡◌ {A = ℕ} 0 1 = cc in omega arith
sayable_not_2 (gave (refused n)) h e =
    let k : n ≡ number 2 = cc in
    h.2 (ap number_in k)

none_2 : (rs : List Result) → AllSayable rs → NoneRefused2 rs
unfolding AllSayable NoneRefused2
none_2 [] h = tt
none_2 (r ∷ rs) h = (sayable_not_2 r.said h.0, none_2 rs h.1)

-- what a call gives is what its stream says
pub record Meets (kind : Kind) (stream : List Event) (r : Record) (call : Call) : Type 0 where
  pub gives : (outcome r call).result ≡ expected kind stream call
  pub leaves : (outcome r call).leaves ≡ record_from r (added kind stream call)
  pub reports : reported (expected kind stream call).said (expected kind stream call).buffer ≡ gained kind stream (added kind stream call)
  pub says : Sayable (expected kind stream call).said

-- the outcome of a scan
one-shown : (t : Bool) (r : Record) → One (cond t (item_of r ∷ []) [])
one-shown true r = (proper_item r.mode r.kind r.len r.store, refl)
one-shown false r = tt

fed-result : (t : Bool) (r : Record) (n : ℕ) (buffer : List ℕ)
    → (cond t (completed r n buffer) (unfinished r n buffer)).result ≡ giving (cond t (item_of r ∷ []) []) n buffer
fed-result true r n buffer = refl
fed-result false r n buffer = refl

fed_leaves : (t : Bool) (r : Record) (n : ℕ) (buffer : List ℕ) → (cond t (completed r n buffer) (unfinished r n buffer)).leaves ≡ cond t (opened r) r
fed_leaves true r n buffer = refl
fed_leaves false r n buffer = refl

-- what a mark gains
abbrev cut : Bool → List Item
cut t = cond t (refused (number 9) ∷ []) []

some_cut : (t : Bool) → some_item (cut t) ≡ t
unfolding some_item
some_cut true = refl
some_cut false = refl

-- a call that is not refused, from a place: the events that it adds
record Adds (kind : Kind) (stream : List Event) (r : Record) (silence : Bool) (piece buffer : List ℕ) : Type 0 where
  gives : (heard r silence piece buffer).result
      ≡ giving (gained kind stream (events_added kind stream silence piece)) (length (bytes_added kind stream silence piece)) buffer
  leaves : (heard r silence piece buffer).leaves ≡ record_from r (events_added kind stream silence piece)
  one : One (gained kind stream (events_added kind stream silence piece))

-- without a mark
adds_bytes : (kind : Kind) (stream : List Event) (r : Record) → At kind (place_of stream) r → (piece buffer : List ℕ)
    → Adds kind stream r false piece buffer
unfolding bytes_added
adds_bytes kind stream r h piece buffer =
    let s = scan_from 0 r piece in
    let u : up_to kind stream piece ≡ up_to_at kind (place_of stream) piece = up_to_at_lem kind piece stream in
    let q = scans kind piece (place_of stream) r 0 h in
    let n : s.taken ≡ length (up_to kind stream piece) = omega (arith, q.taken, ap length u) in
    let g : gained kind stream (map byte (up_to kind stream piece)) ≡ shown s =
    gained-at kind stream (map byte (up_to kind stream piece))
    ∙ ap (λ (x : List ℕ). items_from kind (place_of stream) (map byte x)) u
    ∙ sym q.item in
    record {
      gives = rw g (fed-result s.closed s.before s.taken buffer ∙ ap (λ (m : ℕ). giving (shown s) m buffer) n);
      leaves = fed_leaves s.closed s.before s.taken buffer ∙ q.leaves ∙ sym (ap (λ (x : List ℕ). record_from r (map byte x)) u);
      one = rw g (one-shown s.closed s.before);
    }

-- with one
module _ (kind : Kind) (stream : List Event) (r : Record) (h : At kind (place_of stream) r) (piece buffer : List ℕ) where
  gained-mark : (more : List Event) → gained kind stream (mark ∷ more) ≡ cut (pending r) ++ gained kind (stream ++ (mark ∷ [])) more
  unfolding items_from place_from
  gained-mark more =
      gained-at kind stream (mark ∷ more)
      ∙ ap (λ (g : List Item). g ++ items_from kind (next (place_of stream) mark) more) (sym (at-gain kind (place_of stream) r mark h))
      ∙ ap (λ (g : List Item). cut (pending r) ++ g)
      (sym (gained-at kind (stream ++ (mark ∷ [])) more ∙ ap (λ (p : Place). items_from kind p more) (place_append stream (mark ∷ []) outside)))

  gains-mark : gains kind stream (mark ∷ []) ≡ pending r
  gains-mark = gains_item kind stream mark ∙ ap some_item (sym (at-gain kind (place_of stream) r mark h)) ∙ some_cut (pending r)

  adds_cut : pending r ≡ true → Adds kind stream r true piece buffer
  unfolding bytes_added items_from record_from next_record
  adds_cut p =
      let none : gained kind (stream ++ (mark ∷ [])) [] ≡ [] = gained-at kind (stream ++ (mark ∷ [])) [] in
      let g : gained kind stream (mark ∷ []) ≡ refused (number 9) ∷ [] =
      gained-mark [] ∙ ap (λ (t : Bool). cut t ++ gained kind (stream ++ (mark ∷ [])) []) p ∙ ap (λ (l : List Item). refused (number 9) ∷ l) none in
      record {
        gives = rw (gains-mark ∙ p, g, p);
        leaves = rw (gains-mark ∙ p, p);
        one = rw (gains-mark ∙ p, g) (proper_number 9 refl (omega arith), refl);
      }

  adds_after : pending r ≡ false → Adds kind stream r true piece buffer
  unfolding bytes_added place_from record_from next_record
  adds_after p =
      let after = stream ++ (mark ∷ []) in
      let there : At kind (place_of after) (silenced r) = rw place_append (at_next kind (place_of stream) r mark h) in
      let a = adds_bytes kind after (silenced r) there piece buffer in
      let g : gained kind stream (mark ∷ map byte (up_to kind after piece)) ≡ gained kind after (map byte (up_to kind after piece)) =
      gained-mark (map byte (up_to kind after piece)) ∙ ap (λ (t : Bool). cut t ++ gained kind after (map byte (up_to kind after piece))) p in
      record {
        gives = rw (gains-mark ∙ p, g, p) a.gives;
        leaves = rw (gains-mark ∙ p, p) a.leaves;
        one = rw (gains-mark ∙ p, g) a.one;
      }

  adds_mark : Adds kind stream r true piece buffer
  adds_mark = go (pending r) refl
    where
      go : (t : Bool) → pending r ≡ t → Adds kind stream r true piece buffer
      go true e = adds_cut e
      go false e = adds_after e

adds : (kind : Kind) (stream : List Event) (r : Record) → At kind (place_of stream) r → (silence : Bool) (piece buffer : List ℕ)
    → Adds kind stream r silence piece buffer
adds kind stream r h true piece buffer = adds_mark kind stream r h piece buffer
adds kind stream r h false piece buffer = adds_bytes kind stream r h piece buffer

module _ (kind : Kind) (stream : List Event) (r : Record) (h : At kind (place_of stream) r) (call : Call) where
  meets_small : length call.buffer < 260 → Meets kind stream r call
  unfolding expected added record_from items_from
  meets_small l =
      let f = feed_room r call.silence call.piece call.buffer (at_range kind (place_of stream) r h) l in
      let e = lt-ltb (length call.buffer) 260 l in
      record {
        gives = rw e (ap (λ (x : Outcome). x.result) f);
        leaves = rw e (ap (λ (x : Outcome). x.leaves) f);
        reports = rw e (sym (gained-at kind stream []));
        says = rw e (refl, omega arith, λ q. omega arith);
      }

  meets_large : 260 ≤ length call.buffer → Meets kind stream r call
  unfolding expected added
  meets_large l =
      let f = feed_heard r call.silence call.piece call.buffer (at_range kind (place_of stream) r h) l in
      let e = le-ltb (length call.buffer) 260 l in
      let a = adds kind stream r h call.silence call.piece call.buffer in
      let g = gained kind stream (events_added kind stream call.silence call.piece) in
      let n = length (bytes_added kind stream call.silence call.piece) in
      record {
        gives = rw e (ap (λ (x : Outcome). x.result) f ∙ a.gives);
        leaves = rw e (ap (λ (x : Outcome). x.leaves) f ∙ a.leaves);
        reports = rw e (reports-back g n call.buffer a.one);
        says = rw e (sayable_giving g n call.buffer a.one);
      }

  meets : Meets kind stream r call
  meets = go (ltb (length call.buffer) 260) refl
    where
      go : (t : Bool) → ltb (length call.buffer) 260 ≡ t → Meets kind stream r call
      go true e = meets_small (ltb-true _ _ e)
      go false e = meets_large (ltb-false _ _ e)

-- a call with the record that a stream leaves
pub meets_stream : (kind : Kind) (stream : List Event) (r : Record) → r ≡ record_of kind stream → (call : Call) → Meets kind stream r call
meets_stream kind stream r e call = meets kind stream r (subst (At kind (place_of stream)) (sym e) (at_stream kind stream)) call

-- the record afterwards is the one that the longer stream leaves
pub leaves_stream : (kind : Kind) (stream : List Event) (r : Record) (e : r ≡ record_of kind stream) (call : Call)
    → (outcome r call).leaves ≡ record_of kind (stream ++ added kind stream call)
leaves_stream kind stream r e call =
    (meets_stream kind stream r e call).leaves
    ∙ ap (λ (x : Record). record_from x (added kind stream call)) e
    ∙ sym (record_append stream (added kind stream call) (fresh kind))

-- a series that goes on from a stream, with the record that the stream leaves
record Goes (kind : Kind) (stream : List Event) (r : Record) (calls : List Call) : Type 0 where
  gives : results r calls ≡ expected_from kind stream calls
  leaves : record_after r calls ≡ record_of kind (stream_from kind stream calls)
  all_items : items kind stream ++ reports (expected_from kind stream calls) ≡ items kind (stream_from kind stream calls)
  says : AllSayable (expected_from kind stream calls)

goes_call : (kind : Kind) (stream : List Event) (r : Record) (call : Call) (calls : List Call) → Meets kind stream r call
    → Goes kind (stream ++ added kind stream call) (outcome r call).leaves calls → Goes kind stream r (call ∷ calls)
unfolding results expected_from record_after stream_from reports AllSayable
goes_call kind stream r call calls m g =
    record {
      gives = rw (m.gives, g.gives);
      leaves = g.leaves;
      all_items =
          rw (
            m.reports,
            ← append_assoc (items kind stream) (gained kind stream (added kind stream call)) (reports (expected_from kind (stream ++ added kind stream call) calls)),
            ← items-gained,
          )
          g.all_items;
      says = (m.says, g.says);
    }

goes : (kind : Kind) (calls : List Call) (stream : List Event) (r : Record) → r ≡ record_of kind stream → Goes kind stream r calls
unfolding results expected_from record_after stream_from reports AllSayable
goes kind [] stream r e = record { gives = refl; leaves = e; all_items = append-nil (items kind stream); says = tt }
goes kind (call ∷ calls) stream r e =
    goes_call kind stream r call calls (meets_stream kind stream r e call)
    (goes kind calls (stream ++ added kind stream call) (outcome r call).leaves (leaves_stream kind stream r e call))

fresh_is : (kind : Kind) → fresh kind ≡ record_of kind []
unfolding record_from
fresh_is kind = refl

from-fresh : (kind : Kind) (calls : List Call) → Goes kind [] (fresh kind) calls
from-fresh kind calls = goes kind calls [] (fresh kind) (fresh_is kind)

end : (kind : Kind) (calls : List Call) → record_after (fresh kind) calls ≡ record_of kind (stream_of kind calls)
end kind calls = (from-fresh kind calls).leaves

-- what a call that is not refused adds is what it reports as taken, and the rest of its piece is left
pub giving_taken : (g : List Item) (n : ℕ) (buffer : List ℕ) → (giving g n buffer).taken ≡ n
giving_taken [] n buffer = refl
giving_taken (i ∷ l) n buffer = refl

giving-kept : (g : List Item) (n : ℕ) (buffer : List ℕ) → One g → turned_away (giving g n buffer).said ≡ false
giving-kept [] n buffer h = refl
giving-kept (served body ∷ l) n buffer h = refl
giving-kept (refused k ∷ l) n buffer h = refuses_none k h.0

pub bytes-front : (kind : Kind) (stream : List Event) (silence : Bool) (piece : List ℕ)
    → take (length (bytes_added kind stream silence piece)) piece ≡ bytes_added kind stream silence piece
unfolding bytes_added
bytes-front kind stream true piece = go (gains kind stream (mark ∷ []))
  where
    go : (t : Bool) → take (length (cond t [] (up_to kind (stream ++ (mark ∷ [])) piece))) piece ≡ cond t [] (up_to kind (stream ++ (mark ∷ [])) piece)
    go true = refl
    go false = up_to_front kind piece (stream ++ (mark ∷ []))
bytes-front kind stream false piece = up_to_front kind piece stream

-- the flag goes with the rest of a refused call, and not with that of any other
all_marks : (silence : Bool) → (silence && true) ≡ silence
all_marks true = refl
all_marks false = refl

no_marks : (silence : Bool) → (silence && false) ≡ false
no_marks true = refl
no_marks false = refl

module _ (kind : Kind) (stream : List Event) (r : Record) (e : r ≡ record_of kind stream) (call : Call) where
  abbrev result : Result
  result = (outcome r call).result

  left_small : length call.buffer < 260 → left_by call result ≡ handed call
  unfolding expected
  left_small l =
      let g : result ≡ record { said = gave (refused (number 1)); taken = 0; buffer = call.buffer } =
      (meets_stream kind stream r e call).gives ∙ rw (lt-ltb (length call.buffer) 260 l) in
      ap (left_by call) g ∙ ap (λ (t : Bool). marks t ++ map byte call.piece) (all_marks call.silence)

  left_large : 260 ≤ length call.buffer → left_by call result ≡ map byte (drop (length (bytes_added kind stream call.silence call.piece)) call.piece)
  unfolding expected
  left_large l =
      let a = adds kind stream r (subst (At kind (place_of stream)) (sym e) (at_stream kind stream)) call.silence call.piece call.buffer in
      let n = length (bytes_added kind stream call.silence call.piece) in
      let items = gained kind stream (events_added kind stream call.silence call.piece) in
      let g : result ≡ giving items n call.buffer =
      (meets_stream kind stream r e call).gives ∙ rw (le-ltb (length call.buffer) 260 l) in
      ap (left_by call) g
      ∙ ap (λ (t : Bool). marks (call.silence && t) ++ map byte (drop (giving items n call.buffer).taken call.piece)) (giving-kept items n call.buffer a.one)
      ∙ ap (λ (t : Bool). marks t ++ map byte (drop (giving items n call.buffer).taken call.piece)) (no_marks call.silence)
      ∙ ap (λ (m : ℕ). map byte (drop m call.piece)) (giving_taken items n call.buffer)

  -- what a call adds and what it leaves is what it hands in
  added_and_left : added kind stream call ++ left_by call result ≡ handed call
  unfolding added
  added_and_left = go (ltb (length call.buffer) 260) refl
    where
      go : (t : Bool) → ltb (length call.buffer) 260 ≡ t
          → cond t [] (events_added kind stream call.silence call.piece) ++ left_by call result ≡ handed call
      go true s = left_small (ltb-true _ _ s)
      go false s =
          let b = bytes_added kind stream call.silence call.piece in
          ap (λ (l : List Event). events_added kind stream call.silence call.piece ++ l) (left_large (ltb-false _ _ s))
          ∙ append_assoc (marks call.silence) (map byte b) (map byte (drop (length b) call.piece))
          ∙ ap (λ (l : List Event). marks call.silence ++ l)
          (sym (map-append b (drop (length b) call.piece))
          ∙ ap (λ (l : List ℕ). map byte (l ++ drop (length b) call.piece)) (sym (bytes-front kind stream call.silence call.piece))
          ∙ ap (map byte) (take-append-drop (length b) call.piece))

whole : (kind : Kind) (calls : List Call) (stream left : List Event) (r : Record) → r ≡ record_of kind stream → HandsIn r left calls
    → stream_from kind stream calls ≡ stream ++ left
unfolding HandsIn stream_from
whole kind [] stream left r e h = rw h (sym (append-nil stream))
whole kind (call ∷ calls) stream left r e h =
    let rest = h.0 in
    let over = left_by call (outcome r call).result in
    whole kind calls (stream ++ added kind stream call) (over ++ rest) (outcome r call).leaves (leaves_stream kind stream r e call) h.2
    ∙ append_assoc stream (added kind stream call) (over ++ rest)
    ∙ ap (λ (l : List Event). stream ++ l)
    (sym (append_assoc (added kind stream call) over rest)
    ∙ ap (λ (l : List Event). l ++ rest) (added_and_left kind stream r e call)
    ∙ sym h.1)

-- a series after another
stream_append : (kind : Kind) (calls more : List Call) (stream : List Event)
    → stream_from kind stream (calls ++ more) ≡ stream_from kind (stream_from kind stream calls) more
unfolding stream_from
stream_append kind [] more stream = refl
stream_append kind (call ∷ calls) more stream = stream_append kind calls more (stream ++ added kind stream call)

-- a call that is refused leaves all that it hands in
left_all : (call : Call) (n : Numbered) → refuses_call n ≡ true
    → left_by call (record { said = gave (refused n); taken = 0; buffer = call.buffer }) ≡ handed call
left_all call n h = ap (λ (t : Bool). marks (call.silence && t) ++ map byte call.piece) h ∙ ap (λ (t : Bool). marks t ++ map byte call.piece) (all_marks call.silence)

not_refused : (i : Item) (n : ℕ) → Proper i → refuses_call (number n) ≡ true → said_of i ≡ gave (refused (number n)) → ⊥
not_refused (served body) n p h e = let z : ◌≡◌ {A = ℕ} 0 1 = cc in omega arith
not_refused (refused m) n p h e =
    let same : m ≡ number n = cc in
    false≢true (sym (refuses_none m p) ∙ ap refuses_call same ∙ h)

nothing_said : (n : Numbered) → nothing ≡ gave (refused n) → ⊥
nothing_said n e = let z : ◌≡◌ {A = ℕ} 0 1 = cc in omega arith

abbrev All : Record → Call → Outcome → Type 0
All r call o = (left_by call o.result ≡ handed call) × (o.leaves ≡ r)

refused_all : (r : Record) (call : Call) (n : ℕ) → refuses_call (number n) ≡ true → (outcome r call).result.said ≡ gave (refused (number n))
    → All r call (outcome r call)
unfolding feed_of
refused_all r call n h = go (in_range r) (ltb (length call.buffer) 260) (call.silence && pending r) s.closed
  where
    s : Scan
    s = scan_from 0 (after_mark call.silence r) call.piece

    go : (t u v w : Bool)
        → (cond t (cond u (refused_call 1 r call.buffer) (cond v (cut_off r call.buffer) (cond w (completed s.before s.taken call.buffer) (unfinished s.before s.taken call.buffer)))) (refused_call 2 r call.buffer)).result.said
        ≡ gave (refused (number n))
        → All r call (cond t (cond u (refused_call 1 r call.buffer) (cond v (cut_off r call.buffer) (cond w (completed s.before s.taken call.buffer) (unfinished s.before s.taken call.buffer)))) (refused_call 2 r call.buffer))
    go false u v w e = (left_all call (number 2) refl, refl)
    go true true v w e = (left_all call (number 1) refl, refl)
    go true false true w e = absurd (not_refused (refused (number 9)) n (proper_number 9 refl (omega arith)) h e)
    go true false false true e = absurd (not_refused (item_of s.before) n (proper_item s.before.mode s.before.kind s.before.len s.before.store) h e)
    go true false false false e = absurd (nothing_said (number n) e)

-- a call that is not refused leaves less than it hands in
pub length-bytes : (l : List ℕ) → length (map byte l) ≡ length l
length-bytes [] = refl
length-bytes (b ∷ l) = ap suc (length-bytes l)

fewer : (kind : Kind) (stream : List Event) (silence : Bool) (piece : List ℕ) → 1 ≤ length (marks silence ++ map byte piece)
    → length (map byte (drop (length (bytes_added kind stream silence piece)) piece)) < length (marks silence ++ map byte piece)
unfolding bytes_added
fewer kind stream true piece h =
    let b = cond (gains kind stream (mark ∷ [])) [] (up_to kind (stream ++ (mark ∷ [])) piece) in
    omega (arith, length-bytes (drop (length b) piece), length-bytes piece, length-drop (length b) piece)
fewer kind stream false piece h =
    let b = up_to kind stream piece in
    omega (arith, length-bytes (drop (length b) piece), length-bytes piece, length-drop (length b) piece, up_to_some kind piece stream (omega (arith, length-bytes piece)))

pub leaves_less : (kind : Kind) (stream : List Event) (r : Record) → r ≡ record_of kind stream → (call : Call) → 1 ≤ length (handed call)
    → 260 ≤ length call.buffer → length (left_by call (outcome r call).result) < length (handed call)
leaves_less kind stream r e call h l = rw (left_large kind stream r e call l) (fewer kind stream call.silence call.piece h)

-- a mark, or a byte, by itself is taken where there is room
abbrev alone : Event → Call
alone mark = record { silence = true; piece = []; buffer = replicate 260 0 }
alone (byte b) = record { silence = false; piece = b ∷ []; buffer = replicate 260 0 }

alone_hands : (event : Event) → handed (alone event) ≡ event ∷ []
alone_hands mark = refl
alone_hands (byte b) = refl

alone_room : (event : Event) → 260 ≤ length (alone event).buffer
alone_room mark = omega (arith, length-replicate {A = ℕ} 260 0)
alone_room (byte b) = omega (arith, length-replicate {A = ℕ} 260 0)

none_left : {A : Type 0} (l : List A) → length l < 1 → l ≡ []
none_left [] h = refl
none_left (x ∷ l) h = absurd (omega arith)

-- wherever a series stands, what is left can be handed in
hands_in : (kind : Kind) (left stream : List Event) (r : Record) → r ≡ record_of kind stream → (calls : List Call) × HandsIn r left calls
unfolding HandsIn
hands_in kind [] stream r e = ([], refl)
hands_in kind (event ∷ left) stream r e =
    let call = alone event in
    let one : length (handed call) ≡ 1 = ap length (alone_hands event) in
    let less = leaves_less kind stream r e call (omega arith) (alone_room event) in
    let none : left_by call (outcome r call).result ≡ [] = none_left _ (omega arith) in
    let t = hands_in kind left (stream ++ added kind stream call) (outcome r call).leaves (leaves_stream kind stream r e call) in
    (call ∷ t.0, (left, sym (ap (λ (l : List Event). l ++ left) (alone_hands event)), subst (λ (l : List Event). HandsIn (outcome r call).leaves (l ++ left) t.0) (sym none) t.1))

pub all_sayable : (kind : Kind) (calls : List Call) → AllSayable (results (fresh kind) calls)
all_sayable kind calls = let g = from-fresh kind calls in rw g.gives g.says

pub demand3 : (kind : Kind) → Demand3 kind
unfolding items items_from
demand3 kind =
    record {
      each-call = λ calls. (from-fresh kind calls).gives;
      never_2 = λ calls. none_2 (results (fresh kind) calls) (all_sayable kind calls);
      all_items = λ calls. let g = from-fresh kind calls in rw g.gives g.all_items;
      end_record = end kind;
      noise-count = λ calls. ap (λ (r : Record). r.noise) (end kind calls) ∙ noise_stream kind (stream_of kind calls);
      one_record = λ calls others same. end kind calls ∙ ap (record_of kind) same ∙ sym (end kind others);
      in_ranges = λ stream. at_range kind (place_of stream) (record_of kind stream) (at_stream kind stream);
      every_cut =
          λ calls left more h.
          stream_append kind calls more [] ∙ whole kind more (stream_of kind calls) left (record_after (fresh kind) calls) (end kind calls) h;
      handed_in = λ calls left. hands_in kind left (stream_of kind calls) (record_after (fresh kind) calls) (end kind calls);
      refused_call_lem = refused_all;
      progress = λ calls call h l. leaves_less kind (stream_of kind calls) (record_after (fresh kind) calls) (end kind calls) call h l;
    }
