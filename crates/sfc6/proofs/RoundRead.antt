-- A polling round: the frames that it counts stand, are as many items of the stream, and are read as they were asked. Assumes nothing.
use mathlib.Core.Path.{◌≡◌, refl, sym, ap, subst, ◌∙◌}
use mathlib.Core.Bool.{Bool, true, false, cond}
use mathlib.Core.List.{List, [], ◌∷◌, ◌++◌, map, map-append}
use Prim.Native.Nat.{ℕ, zero, suc, ◌+◌, ◌≤◌}
use native.Mathlib.Nat.{add-zero, zero-add}
use native.Mathlib.Omega.{arith}
use lib.Dec.{ltb}
use lib.ListN.{length, take, drop, length-append, length-drop, take-append-drop}
use lib.Seq.{drop-drop}
use Rattle.refusal.specs.Refusals.{Numbered, Answered, number, served, refused}
use Rattle.refusal.specs.Room.{overlay, emit, lay}
use Rattle.refusal.proofs.Room.{overlay_nothing, overlay-more}
use Rattle.shdlc.specs.declared.Kind.TheVariants as kind
use Rattle.shdlc.specs.Stuffing.{stuff}
use Rattle.shdlc.specs.Frame.{with_checksum, frame_of}
use Rattle.shdlc.specs.Stream.{byte, Item, Place, outside, inside, next_byte, next, gain, items_from, items}
use Rattle.shdlc.proofs.Frame.{frame-length}
use Rattle.shdlc.proofs.Stream.{place_from, place_append, items-append, frame-items}
use Rattle.sfc6.specs.declared.Request.{Request}
use Rattle.sfc6.specs.Commands.{row}
use Rattle.sfc6.specs.Requests.{check_request, body_of, frame_to_write, write_request}
use Rattle.sfc6.specs.Rounds.{append_request, Laid, round_on, round_from, round}
use Rattle.sfc6.specs.Reading.{read_request}
use Rattle.sfc6.specs.ReadBack.{frames_of, body_to, AllFit, Stands}
use Rattle.sfc6.proofs.Order.{never}
use Rattle.sfc6.proofs.Writing.{emit-laid}
use Rattle.sfc6.proofs.Written.{good, to_write, written, read-body}

into : (buffer : List ℕ) (start : ℕ) (bytes : List ℕ) → take start buffer ++ overlay (drop start buffer) 0 bytes ≡ overlay buffer start bytes
unfolding overlay
into buffer start bytes = rw (zero-add (length bytes)) (ap (λ (l : List ℕ). take start buffer ++ (bytes ++ l)) (drop-drop (length bytes) start buffer))

-- one call
module _ (buffer : List ℕ) (start node : ℕ) (request : Request) where
  abbrev frame : List ℕ
  frame = frame_of (body_of node (row request))

  emit-kept : (bytes room : List ℕ) {n : Numbered} → (emit bytes room).0 ≡ refused n → (emit bytes room).1 ≡ room
  unfolding emit
  emit-kept bytes room {n} = go (ltb (length room) (length bytes))
    where
      go : (t : Bool) → (cond {A = Answered ℕ × List ℕ} t (refused (number 1), room) (served (length bytes), overlay room 0 bytes)).0 ≡ refused n
          → (cond {A = Answered ℕ × List ℕ} t (refused (number 1), room) (served (length bytes), overlay room 0 bytes)).1 ≡ room
      go true h = refl
      go false h = never h

  lay-kept : (answer : Answered (List ℕ)) (room : List ℕ) {n : Numbered} → (lay answer room).0 ≡ refused n → (lay answer room).1 ≡ room
  lay-kept (served bytes) room h = emit-kept bytes room h
  lay-kept (refused m) room h = refl

  -- a call that refuses changes nothing
  pub append-kept : (n : Numbered) → (append_request buffer start node request).0 ≡ refused n → (append_request buffer start node request).1 ≡ buffer
  unfolding append_request write_request
  append-kept n h = ap (λ (w : List ℕ). take start buffer ++ w) (lay-kept (frame_to_write node request) (drop start buffer) h) ∙ take-append-drop start buffer

  -- a call that serves lays its frame at the start, and there is room for it
  pub append-laid : (n : ℕ) → (append_request buffer start node request).0 ≡ served n
      → (n ≡ length frame)
      × ((append_request buffer start node request).1 ≡ overlay buffer start frame)
      × (start ≤ length buffer)
      × (check_request node request ≡ served (node, request))
  unfolding append_request write_request
  append-laid n h =
      let room = drop start buffer in
      let w = written node request room (write_request node request room).1 n (ap (λ (a : Answered ℕ). (a, (write_request node request room).1)) h) in
      let t = to_write node request w.0 in
      let e = emit-laid frame room n (sym (ap (λ (a : Answered (List ℕ)). (lay a room).0) t) ∙ h) in
      let l = length-drop start buffer in (
        e.0,
        ap (λ (a : Answered (List ℕ)). take start buffer ++ (lay a room).1) t ∙ ap (λ (x : List ℕ). take start buffer ++ x) e.1 ∙ into buffer start frame,
        omega (arith, frame-length (body_of node (row request)), e.2),
        w.0,
      )

-- each request passes its checks
abbrev AllPass : List (ℕ × Request) → Type 0
AllPass [] = Unit {0}
AllPass (q ∷ rest) = (check_request q.0 q.1 ≡ served q) × AllPass rest

-- the frames of a round, one call after the other
record From (asked : List (ℕ × Request)) (before place : ℕ) (buffer : List ℕ) (frames end : ℕ) (outcome : Answered (Unit {0})) (after : List ℕ) : Type 0 where
  count : ℕ
  within : count ≤ length asked
  all : outcome ≡ served tt → count ≡ length asked
  counted : frames ≡ before + count
  laid_from : after ≡ overlay buffer place (frames_of (take count asked))
  ends_at : end ≡ place + length (frames_of (take count asked))
  passes : AllPass (take count asked)

-- the round is over
over : (asked : List (ℕ × Request)) (before place : ℕ) (buffer : List ℕ) (ended : Answered (Unit {0})) → (ended ≡ served tt → 0 ≡ length asked)
    → (frames end : ℕ) (outcome : Answered (Unit {0})) (after : List ℕ)
    → ◌≡◌ {A = Laid × List ℕ} ((before, place, ended), buffer) ((frames, end, outcome), after)
    → From asked before place buffer frames end outcome after
unfolding frames_of
over asked before place buffer ended whole frames end outcome after h =
    subst (λ (x : Laid × List ℕ). From asked before place buffer x.0.0 x.0.1 x.0.2 x.1) h
    (record {
      count = 0;
      within = omega arith;
      all = whole;
      counted = sym (add-zero before);
      laid_from = sym (overlay_nothing buffer place);
      ends_at = sym (add-zero place);
      passes = tt;
    })

-- a frame more
one_more : (q : ℕ × Request) (asked : List (ℕ × Request)) (before place : ℕ) (buffer : List ℕ) (frames end : ℕ) (outcome : Answered (Unit {0})) (after : List ℕ) (n : ℕ) (w : List ℕ)
    → n ≡ length (frame_of (body_of q.0 (row q.1))) → w ≡ overlay buffer place (frame_of (body_of q.0 (row q.1))) → place ≤ length buffer
    → check_request q.0 q.1 ≡ served q → From asked (before + 1) (place + n) w frames end outcome after
    → From (q ∷ asked) before place buffer frames end outcome after
unfolding frames_of
one_more q asked before place buffer frames end outcome after n w e f h passed r =
    let frame = frame_of (body_of q.0 (row q.1)) in
    let more = frames_of (take r.count asked) in
    record {
      count = suc r.count;
      within = omega (arith, r.within);
      all = λ o. ap suc (r.all o);
      counted = omega (arith, r.counted);
      laid_from = r.laid_from ∙ rw (f, e) (overlay-more buffer place frame more h);
      ends_at = omega (arith, r.ends_at, length-append frame more);
      passes = (passed, r.passes);
    }

from : (asked : List (ℕ × Request)) (before place : ℕ) (buffer : List ℕ) (frames end : ℕ) (outcome : Answered (Unit {0})) (after : List ℕ)
    → round_from asked before place buffer ≡ ((frames, end, outcome), after) → From asked before place buffer frames end outcome after
unfolding round_from
from [] before place buffer frames end outcome after h = over [] before place buffer (served tt) (λ e. refl) frames end outcome after h
from (q ∷ asked) before place buffer frames end outcome after h =
    go (append_request buffer place q.0 q.1).0 refl
    (λ n. from asked (before + 1) (place + n) (append_request buffer place q.0 q.1).1 frames end outcome after) h
  where
    go : (answer : Answered ℕ) → (append_request buffer place q.0 q.1).0 ≡ answer
        → ((n : ℕ) → round_from asked (before + 1) (place + n) (append_request buffer place q.0 q.1).1 ≡ ((frames, end, outcome), after)
        → From asked (before + 1) (place + n) (append_request buffer place q.0 q.1).1 frames end outcome after)
        → round_on (round_from asked) before place answer (append_request buffer place q.0 q.1).1 ≡ ((frames, end, outcome), after)
        → From (q ∷ asked) before place buffer frames end outcome after
    go (served n) e on h =
        let l = append-laid buffer place q.0 q.1 n e in
        one_more q asked before place buffer frames end outcome after n (append_request buffer place q.0 q.1).1 l.0 l.1 l.2 l.3 (on n h)
    go (refused m) e on h =
        over (q ∷ asked) before place buffer (refused m) (λ o. never (sym o)) frames end outcome after
        (ap (λ (w : List ℕ). ((before, place, refused m), w)) (sym (append-kept buffer place q.0 q.1 m e)) ∙ h)

-- ---- what the frames give
closed : (place : Place) → place_from place (byte 0x7E ∷ []) ≡ inside []
unfolding place_from next next_byte
closed place = refl

-- a frame is one item, before any byte and after a frame
module _ (q : ℕ × Request) where
  abbrev bytes : List ℕ
  bytes = body_of q.0 (row q.1)

  first_item : items_from kind.Request outside (map byte (frame_of bytes)) ≡ served (body_to q) ∷ []
  unfolding items
  first_item = frame-items kind.Request bytes (good q.0 q.1)

  next_item : items_from kind.Request (inside []) (map byte (frame_of bytes)) ≡ served (body_to q) ∷ []
  unfolding items_from gain next next_byte frame_of
  next_item = first_item

  place_after : (place : Place) → place_from place (map byte (frame_of bytes)) ≡ inside []
  unfolding frame_of
  place_after place =
      ap (place_from place) (map-append byte (0x7E ∷ stuff (with_checksum bytes)) (0x7E ∷ []))
      ∙ place_append (map byte (0x7E ∷ stuff (with_checksum bytes))) (byte 0x7E ∷ []) place
      ∙ closed (place_from place (map byte (0x7E ∷ stuff (with_checksum bytes))))

abbrev each : List (ℕ × Request) → List Item
each asked = map (λ q. served (body_to q)) asked

split : (q : ℕ × Request) (asked : List (ℕ × Request)) (place : Place)
    → items_from kind.Request place (map byte (frame_of (body_of q.0 (row q.1)))) ≡ served (body_to q) ∷ []
    → items_from kind.Request (inside []) (map byte (frames_of asked)) ≡ each asked
    → items_from kind.Request place (map byte (frames_of (q ∷ asked))) ≡ each (q ∷ asked)
unfolding frames_of
split q asked place h k =
    let frame = frame_of (body_of q.0 (row q.1)) in
    rw (map-append byte frame (frames_of asked), items-append kind.Request (map byte frame) (map byte (frames_of asked)) place, h, place_after q place, k)

later : (asked : List (ℕ × Request)) → items_from kind.Request (inside []) (map byte (frames_of asked)) ≡ each asked
unfolding frames_of items_from
later [] = refl
later (q ∷ asked) = split q asked (inside []) (next_item q) (later asked)

round_items : (asked : List (ℕ × Request)) → items kind.Request (map byte (frames_of asked)) ≡ each asked
unfolding frames_of items_from items
round_items [] = refl
round_items (q ∷ asked) = split q asked outside (first_item q) (later asked)

-- and each body is read as its node and its request
some_fit : (n : ℕ) (asked : List (ℕ × Request)) → AllFit asked → AllFit (take n asked)
some_fit zero asked h = tt
some_fit (suc n) [] h = tt
some_fit (suc n) (q ∷ asked) h = (h.0, some_fit n asked h.1)

round_reads : (asked : List (ℕ × Request)) → AllFit asked → AllPass asked → map (λ q. read_request (body_to q)) asked ≡ map served asked
round_reads [] h p = refl
round_reads (q ∷ asked) h p = rw (read-body q.0 q.1 h.0 p.0, round_reads asked h.1 p.1)

pub stands : (buffer : List ℕ) (start : ℕ) (asked : List (ℕ × Request)) (frames end : ℕ) (outcome : Answered (Unit {0})) (after : List ℕ)
    → round buffer start asked ≡ ((frames, end, outcome), after) → Stands buffer start asked frames end outcome after
unfolding round
stands buffer start asked frames end outcome after h =
    let r = from asked 0 start buffer frames end outcome after h in
    let e : r.count ≡ frames = omega (arith, r.counted) in
    record {
      counted = omega (arith, r.within);
      whole = λ o. sym e ∙ r.all o;
      laid = r.laid_from ∙ ap (λ (k : ℕ). overlay buffer start (frames_of (take k asked))) e;
      ends = r.ends_at ∙ ap (λ (k : ℕ). start + length (frames_of (take k asked))) e;
      gives = round_items (take frames asked);
      are_read = λ fit. round_reads (take frames asked) (some_fit frames asked fit) (subst (λ (k : ℕ). AllPass (take k asked)) e r.passes);
    }
