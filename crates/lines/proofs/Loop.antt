-- The loop over a piece: a turn, and the end. Assumes nothing.
use Prim.Native.Nat.{ℕ, suc, ◌+◌, ◌-◌, ◌≤◌, ◌<◌}
use native.Mathlib.Omega.{arith}
use mathlib.Core.Path.{◌≡◌, refl, sym, ap, subst, ◌∙◌}
use mathlib.Core.Bool.{Bool, true, false, cond, ◌&&◌, false≢true}
use mathlib.Core.List.{List, [], ◌∷◌, ◌++◌, map, append_assoc, append-nil}
use borrow.Author.Tests.{lt-ltb, le-ltb, eq-eqb}
use lib.Dec.{eqb}
use lib.ListN.{length, take, drop, length-append, length-drop}
use lib.Seq.{drop-drop, take_all, take-append_seam, take-append-add, length-take-le}
use Rattle.refusal.specs.Refusals.{served, refused}
use Rattle.refusal.specs.Room.{overlay}
use Rattle.refusal.proofs.Room.{overlay_nothing, overlay_then, take-overlay}
use Rattle.refusal.proofs.Rest.{rest_end}
use Rattle.shdlc.specs.Stream.{byte, Item}
use Rattle.shdlc.proofs.Stream.{map-append}
use Rattle.receiver.specs.declared.Fed.{Fed}
use Rattle.receiver.specs.Record.{Record, held, in_range, opened, pending, item_of, next_byte, next_record, record_from}
use Rattle.receiver.specs.Calls.{Outcome, paper_answer, paper_fed, said_of, buffer_of, completed, unfinished, closes, Scan, scan_from, fed_by, feed_of}
use Rattle.receiver.proofs.Cases.{range_few, feed_heard, few_scan}
use Rattle.receiver.proofs.EverySeries.{record_append}
use Rattle.lines.specs.Program.{line_of}
use Rattle.lines.specs.Listing.{shown, shown_by, fitting}
use Rattle.lines.specs.Private.{said_line, Part, part_by, list_of}
use Rattle.lines.proofs.Lines.{Laid}

-- what bytes put out, one part after the other
pub shown-append : (a b : List ℕ) (r : Record) → shown_by r (a ++ b) ≡ shown_by r a ++ shown_by (record_from r (map byte a)) b
unfolding shown_by record_from next_record
shown-append [] b r = refl
shown-append (x ∷ a) b r =
    ap (λ (l : List ℕ). shown r x ++ l) (shown-append a b (next_byte r x))
    ∙ sym (append_assoc (shown r x) (shown_by (next_byte r x) a) (shown_by (record_from (next_byte r x) (map byte a)) b))

-- the first n bytes of a piece are taken, and then the rest is listed
record Steps (room : ℕ) (r : Record) (piece : List ℕ) (next : Record) (n : ℕ) (text : List ℕ) : Type 0 where
  within : n ≤ length piece
  bytes : fitting room r piece ≡ take n piece ++ fitting (room - length text) next (drop n piece)
  leaves : record_from r (map byte (take n piece)) ≡ next
  shows : shown_by r (take n piece) ≡ text

closing : (t u : Bool) → (t && u) ≡ true → t ≡ true
closing true u h = refl
closing false u h = h

module _ (room : ℕ) (h : 24 ≤ room) where
  module _ (r : Record) (b : ℕ) (piece : List ℕ) where
    -- a byte that gives nothing
    steps_on : closes r b ≡ false → {next : Record} {n : ℕ} {text : List ℕ} → Steps room (next_byte r b) piece next n text
        → Steps room r (b ∷ piece) next (suc n) text
    unfolding fitting shown_by record_from next_record
    steps_on e s =
        let same : room - 0 ≡ room = omega arith in
        record {
          within = omega (arith, s.within);
          bytes = rw (le-ltb room 24 h, e, same) (ap (λ (l : List ℕ). b ∷ l) s.bytes);
          leaves = s.leaves;
          shows = rw e s.shows;
        }

    -- a 7E that ends a stretch with a byte
    steps_item : closes r b ≡ true → Steps room r (b ∷ piece) (opened r) 1 (line_of (item_of r))
    unfolding fitting shown_by record_from next_record next_byte
    steps_item e =
        let opens : eqb b 0x7E ≡ true = closing (eqb b 0x7E) (pending r) e in
        record {
          within = omega arith;
          bytes = rw (le-ltb room 24 h, e, opens);
          leaves = rw opens;
          shows = rw e (append-nil (line_of (item_of r)));
        }

  steps_none : (r : Record) → Steps room r [] r 0 []
  unfolding fitting shown_by record_from
  steps_none r = record { within = omega arith; bytes = refl; leaves = refl; shows = refl }

  -- a scan: the record after it, and the line of its item
  abbrev after : Scan → Record
  after s = cond s.closed (opened s.before) s.before

  abbrev line : Scan → List ℕ
  line s = cond s.closed (line_of (item_of s.before)) []

  record Scans (k : ℕ) (r : Record) (piece : List ℕ) (s : Scan) : Type 0 where
    n : ℕ
    count : s.taken ≡ k + n
    some : 1 ≤ length piece → 1 ≤ n
    whole : s.closed ≡ false → n ≡ length piece
    steps : Steps room r piece (after s) n (line s)

  scans : (piece : List ℕ) (k : ℕ) (r : Record) → Scans k r piece (scan_from k r piece)
  unfolding scan_from
  scans [] k r = record { n = 0; count = omega arith; some = λ g. omega arith; whole = λ e. refl; steps = steps_none r }
  scans (b ∷ piece) k r = go (closes r b) refl (scans piece (k + 1) (next_byte r b))
    where
      go : (t : Bool) → closes r b ≡ t → Scans (k + 1) (next_byte r b) piece (scan_from (k + 1) (next_byte r b) piece)
          → Scans k r (b ∷ piece) (cond (closes r b) (record { before = r; taken = k + 1; closed = true }) (scan_from (k + 1) (next_byte r b) piece))
      go true e s =
          rw e
          (record { n = 1; count = refl; some = λ g. omega arith; whole = λ f. absurd (false≢true (sym f)); steps = steps_item r b piece e })
      go false e s =
          rw e
          (record {
            n = suc s.n;
            count = omega (arith, s.count);
            some = λ g. omega arith;
            whole = λ f. omega (arith, s.whole f);
            steps = steps_on r b piece e s.steps;
          })

-- what a feeding call says of a scan
item_line : (i : Item) (frame : List ℕ) → said_line (said_of i) (buffer_of i frame) ≡ line_of i
item_line (served body) frame = ap (λ (l : List ℕ). line_of (served l)) (take-overlay frame body)
item_line (refused n) frame = refl

fed-line : (t : Bool) (r : Record) (n : ℕ) (frame : List ℕ)
    → said_line (cond t (completed r n frame) (unfinished r n frame)).result.said (cond t (completed r n frame) (unfinished r n frame)).result.buffer
    ≡ cond t (line_of (item_of r)) []
fed-line true r n frame = item_line (item_of r) frame
fed-line false r n frame = refl

fed-after : (t : Bool) (r : Record) (n : ℕ) (frame : List ℕ) → (cond t (completed r n frame) (unfinished r n frame)).leaves ≡ cond t (opened r) r
fed-after true r n frame = refl
fed-after false r n frame = refl

fed_taken : (t : Bool) (r : Record) (n : ℕ) (frame : List ℕ) → (cond t (completed r n frame) (unfinished r n frame)).result.taken ≡ n
fed_taken true r n frame = refl
fed_taken false r n frame = refl

pub rest_slice : (l : List ℕ) (i : ℕ) → take (length l - i) (drop i l) ≡ drop i l
rest_slice l i = take_all (length l - i) (drop i l) (omega (arith, length-drop i l))

-- a text that was laid has room
pub laid_within : (room text : List ℕ) (place : ℕ) → place ≤ length room → length (overlay room place text) ≡ length room → place + length text ≤ length room
unfolding overlay
laid_within room text place h e =
    let size : length (take place room ++ (text ++ drop (place + length text) room)) ≡ place + (length text + (length room - (place + length text))) =
    simp (length-append, length-take-le place room h, length-drop) in
    omega arith

-- what stands before the end of a text that was laid
pub take-laid : (room text : List ℕ) (place : ℕ) → place ≤ length room → take (place + length text) (overlay room place text) ≡ take place room ++ text
unfolding overlay
take-laid room text place h =
    let front : List ℕ = take place room in
    let past : List ℕ = drop (place + length text) room in
    subst (λ (n : ℕ). take (n + length text) (front ++ (text ++ past)) ≡ front ++ text) (length-take-le place room h)
    (take-append-add front (text ++ past) (length text) ∙ ap (λ (l : List ℕ). front ++ l) (take-append_seam text past))

-- after an item the record is within its ranges
range_opened : (r s : Record) → s ≡ opened r → length s.store ≡ 260 → r.noise < 4294967296 → in_range s ≡ true
range_opened r s e h few =
    ap in_range e
    ∙ rw (eq-eqb (length r.store) 260 (sym (ap (λ (x : Record). length x.store) e) ∙ h), lt-ltb r.noise 4294967296 few)

-- the bytes passed, and what a listing of the rest gives
abbrev pub shifted : ℕ → Part → Part
shifted n p = record { leaves = p.leaves; taken = n + p.taken; filled = p.filled; out = p.out }

-- steps, and then the rest, are the whole
module _ (r : Record) (piece out : List ℕ) (i o : ℕ) {next : Record} {n : ℕ} {text : List ℕ} (st : Steps (length out - o) r piece next n text)
    {room : List ℕ} {p : ℕ} (laid : Laid p room out o text) (kept : length room ≡ length out) (fits : o ≤ length out) where
  left_over : List ℕ
  left_over = fitting (length room - p) next (drop n piece)

  split : fitting (length out - o) r piece ≡ take n piece ++ left_over
  unfolding left_over
  split =
      st.bytes
      ∙ (let free : length out - o - length text ≡ length room - p = omega (arith, laid.0) in
      ap (λ (m : ℕ). take n piece ++ fitting m next (drop n piece)) free)

  leaves_same : record_from next (map byte left_over) ≡ record_from r (map byte (fitting (length out - o) r piece))
  leaves_same =
      sym
      (ap (λ (l : List ℕ). record_from r (map byte l)) split
      ∙ ap (record_from r) (map-append (take n piece) left_over)
      ∙ record_append (map byte (take n piece)) (map byte left_over) r
      ∙ ap (λ (x : Record). record_from x (map byte left_over)) st.leaves)

  text_same : shown_by r (fitting (length out - o) r piece) ≡ text ++ shown_by next left_over
  text_same =
      ap (shown_by r) split ∙ shown-append (take n piece) left_over r
      ∙ ap (λ (l : List ℕ). l ++ shown_by (record_from r (map byte (take n piece))) left_over) st.shows
      ∙ ap (λ (x : Record). text ++ shown_by x left_over) st.leaves

  whole_same : shifted (i + n) (list_of next (drop n piece) room p) ≡ shifted i (list_of r piece out o)
  unfolding left_over
  whole_same =
      let more : List ℕ = shown_by next left_over in
      let counts : i + n + length left_over ≡ i + length (fitting (length out - o) r piece) =
      omega (arith, ap length split, length-append (take n piece) left_over, length-take-le n piece st.within) in
      let ends : p + length more ≡ o + length (shown_by r (fitting (length out - o) r piece)) =
      omega (arith, laid.0, ap length text_same, length-append text more) in
      let holds : overlay room p more ≡ overlay out o (shown_by r (fitting (length out - o) r piece)) =
      ap (λ (w : List ℕ). overlay w p more) laid.1 ∙ overlay_then out o text more p fits laid.0 ∙ ap (overlay out o) (sym text_same) in
      λ k. record { leaves = leaves_same k; taken = counts k; filled = ends k; out = holds k }

module _ (r : Record) (piece frame out : List ℕ) (i o : ℕ) where
  pub record Turned (f : Fed) (store room : List ℕ) (p : ℕ) : Type 0 where
    pub within : i + f.taken ≤ length piece
    pub more : 1 ≤ f.taken
    pub place : p ≤ length room
    pub range : i + f.taken < length piece → length store ≡ 260 → in_range (held f.receiver store) ≡ true
    pub same : shifted (i + f.taken) (list_of (held f.receiver store) (drop (i + f.taken) piece) room p) ≡ shifted i (list_of r (drop i piece) out o)

  -- a turn of the loop
  pub turn : (f : Fed) {store buffer room : List ℕ} {p : ℕ} → i < length piece → in_range r ≡ true → 260 ≤ length frame → o ≤ length out
      → 24 ≤ length out - o → paper_fed f store buffer ≡ feed_of r false (take (length piece - i) (drop i piece)) frame
      → Laid p room out o (said_line (paper_answer f.answer) buffer) → length room ≡ length out → Turned f store room p
  turn f {store} {buffer} {room} {p} here range size fits free fed laid kept =
      let rest : List ℕ = drop i piece in
      let s : Scan = scan_from 0 r rest in
      let q = scans (length out - o) free rest 0 r in
      let is : paper_fed f store buffer ≡ fed_by s frame =
      fed ∙ ap (λ (l : List ℕ). feed_of r false l frame) (rest_slice piece i) ∙ feed_heard r false rest frame range size in
      let passed : f.taken ≡ 0 + q.n =
      ap (λ (x : Outcome). x.result.taken) is ∙ fed_taken s.closed s.before s.taken frame ∙ q.count in
      let n-is : f.taken ≡ q.n = omega (arith, passed) in
      let leaves : held f.receiver store ≡ cond s.closed (opened s.before) s.before =
      ap (λ (x : Outcome). x.leaves) is ∙ fed-after s.closed s.before s.taken frame in
      let text : said_line (paper_answer f.answer) buffer ≡ cond s.closed (line_of (item_of s.before)) [] =
      ap (λ (x : Outcome). said_line x.result.said x.result.buffer) is ∙ fed-line s.closed s.before s.taken frame in
      let st₁ = subst (λ (x : Record). Steps (length out - o) r rest x q.n (cond s.closed (line_of (item_of s.before)) [])) (sym leaves) q.steps in
      let st₂ = subst (λ (n : ℕ). Steps (length out - o) r rest (held f.receiver store) n (cond s.closed (line_of (item_of s.before)) [])) (sym n-is) st₁ in
      let st = subst (λ (l : List ℕ). Steps (length out - o) r rest (held f.receiver store) f.taken l) (sym text) st₂ in
      let size-rest = length-drop i piece in
      record {
        within = omega (arith, st.within);
        more = omega (arith, q.some (omega arith));
        place = omega (arith, laid.0, laid_within out (said_line (paper_answer f.answer) buffer) o fits (ap length (sym laid.1) ∙ kept));
        range = λ still size₂. go s.closed s.before (few_scan rest 0 r (range_few r range)) refl leaves still size₂ q.whole n-is;
        same =
            ap (λ (l : List ℕ). shifted (i + f.taken) (list_of (held f.receiver store) l room p)) (sym (drop-drop f.taken i piece))
            ∙ whole_same r rest out i o st laid kept fits;
      }
    where
      go : (t : Bool) (b : Record) → b.noise < 4294967296 → {s : Bool} {n : ℕ} → s ≡ t → held f.receiver store ≡ cond s (opened b) b → i + f.taken < length piece
          → length store ≡ 260 → (s ≡ false → n ≡ length (drop i piece)) → f.taken ≡ n → in_range (held f.receiver store) ≡ true
      go true b few {s} e leaves still size₂ whole is =
          range_opened b (held f.receiver store) (leaves ∙ ap (λ (t : Bool). cond t (opened b) b) e) size₂ few
      go false b few e leaves still size₂ whole is = absurd (omega (arith, whole e, is, length-drop i piece))

-- the loop's end: the piece is used up, or the room
pub nothing_left : (l : List ℕ) (i room : ℕ) (r : Record) → length l ≤ i → fitting room r (drop i l) ≡ []
unfolding fitting
nothing_left l i room r h = ap (fitting room r) (rest_end l i h)

pub no_room : (piece : List ℕ) (room : ℕ) (r : Record) → room < 24 → fitting room r piece ≡ []
unfolding fitting
no_room [] room r h = refl
no_room (b ∷ piece) room r h = rw (lt-ltb room 24 h)

pub ended : (r : Record) (piece out : List ℕ) (i o : ℕ) {whole : Part} → fitting (length out - o) r piece ≡ []
    → shifted i (list_of r piece out o) ≡ whole
    → ◌≡◌ {A = Part} (record { leaves = r; taken = i; filled = o; out = out }) whole
unfolding record_from shown_by
ended r piece out i o e h =
    (let counts : i ≡ i + 0 = omega arith in
    let ends : o ≡ o + 0 = omega arith in
    let same : out ≡ overlay out o [] = sym (overlay_nothing out o) in
    λ k. record { leaves = r; taken = counts k; filled = ends k; out = same k })
    ∙ ap (λ (l : List ℕ). shifted i (part_by r l out o)) (sym e) ∙ h

pub from_start : (p : Part) → shifted 0 p ≡ p
from_start p =
    let same : 0 + p.taken ≡ p.taken = omega arith in λ k. record { leaves = p.leaves; taken = same k; filled = p.filled; out = p.out }
