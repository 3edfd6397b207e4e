-- "or 19 instead if an opening met it": once the lease and the log have passed their checks, the board refuses an order with no other number.
-- A file is bytes, so are the frames in it, and an address that a request is read with is then at most 255; no reply to 255 is accepted.
-- Assumes nothing.
use Prim.Native.Nat.{ℕ, zero, suc, ◌+◌, ◌<◌}
use native.Mathlib.Omega.{arith}
use mathlib.Core.Path.{◌≡◌, refl, sym, subst, ◌∙◌}
use mathlib.Core.Bool.{Bool, true, false}
use mathlib.Core.List.{List, [], ◌∷◌, ◌++◌, map, reverse}
use mathlib.Core.Option.{Option, none, some}
use lib.Dec.{leb, eqb}
use lib.ListN.{length, get_or, drop}
use borrow.Author.Tests.{eq-eqb, le-leb}
use Rattle.refusal.specs.Refusals.{Numbered, number, Answered, served, refused, in_order}
use Rattle.shdlc.specs.declared.Kind.{Kind}
use Rattle.shdlc.specs.declared.Kind.TheVariants.{Request, Reply}
use Rattle.shdlc.specs.Stuffing.{escapes, left_of, is_control, prepend, meant, unstuff_from, unstuff_escaped}
use Rattle.shdlc.specs.Body.{body_checks, check_body}
use Rattle.shdlc.specs.Stream.{Event, byte, mark, Item, judge_body, judge, Place, outside, inside, next_byte, next, gain, items_from, items}
use Rattle.receiver.specs.Series.{gained}
use Rattle.payload.specs.Field.{Bytes}
use Rattle.sfc6.specs.declared.Request.{Request as Asked}
use Rattle.sfc6.specs.declared.Request.TheVariants.{GetSetpoint, SetSetpoint, MeasuredValue, GetGain, SetGain, GetInitStep, SetInitStep, RawFlow, RawConductivity, Temperature, NumberOfCalibrations, Validity, FullScale, GetCalibration, SetCalibration, VolatileCalibration, GetAddress, SetAddress, GetBaud, SetBaud, ProductType}
use Rattle.sfc6.specs.declared.Row.{Row}
use Rattle.sfc6.specs.Commands.{row}
use Rattle.sfc6.specs.Requests.{request_checks, check_request}
use Rattle.sfc6.specs.Reading.{typed, and_then, payload_of, read_request}
use Rattle.replies.specs.Reader.{size_of, data_in, foreign, Got, got_by, read_checks, answer_to, read_reply}
use Rattle.board.specs.declared.entries.Entry.{Entry}
use Rattle.board.specs.declared.orders.Order.{Order}
use Rattle.board.specs.declared.orders.Order.TheVariants.{Open, Close, Restart, Poll, Unnamed, Nothing}
use Rattle.board.specs.Entries.{is_free, is_of, empty, holds}
use Rattle.board.specs.Orders.{Outcome, lease_in_range, order_in_range, opened, done, change}
use Rattle.board.specs.Listing.{standing_in, listed}
use Rattle.board.proofs.Tests.{true_not_false, both}
use Rattle.board.proofs.Handover.{Sound, sound-change, sound-kept, sound_empty}
use Rattle.handover.specs.Wire.{accepted_by, order_of_reply}
use Rattle.wire_log.specs.Log.{LogRecord, kinds, record_bytes, joined, log_of}
use Rattle.wire_log.specs.Check.{records_of}
use Rattle.wire_log.proofs.Tiling.{listed_is}
use Rattle.replay.proofs.Noting.{by_test}
use Rattle.replay.specs.Replay.{Told, yielded, silent, heard_on, joined_on, completes, polls, told_from, told, against, answering, orders_from, orders, or_refused, board_from, replayed_by, replayed}

-- ---- what holds of a value that is served
abbrev Served : {A : Type 0} → (A → Type 0) → Answered A → Type 0
Served P (served a) = P a
Served P (refused n) = Unit {0}

by_order : {A : Type 0} (P : A → Type 0) (checks : List (Bool × Numbered)) (a : A) → P a → Served P (in_order checks a)
by_order P [] a h = h
by_order P (check ∷ checks) a h = by_test (Served P) check.0 tt (by_order P checks a h)

-- what is served has not met the first of the checks that come last
abbrev FirstPassed : List (Bool × Numbered) → Type 0
FirstPassed [] = Unit {0}
FirstPassed (check ∷ checks) = check.0 ≡ false

not_met : {A : Type 0} (front checks : List (Bool × Numbered)) (a : A) → Served (λ _. FirstPassed checks) (in_order (front ++ checks) a)
not_met [] [] a = tt
not_met [] ((true, n) ∷ checks) a = tt
not_met [] ((false, n) ∷ checks) a = by_order (λ _. false ≡ false) checks a refl
not_met (check ∷ front) checks a = by_test (Served (λ _. FirstPassed checks)) check.0 tt (not_met front checks a)

-- ---- bytes
abbrev Small : List ℕ → Type 0
Small [] = Unit {0}
Small (b ∷ bytes) = (b < 256) × Small bytes

small_bytes : (l : List ℕ) → Bytes l → Small l
small_bytes [] h = tt
small_bytes (b ∷ l) h = (h 0, small_bytes l (λ i. h (suc i)))

small_front : (xs ys : List ℕ) → Small (xs ++ ys) → Small xs
small_front [] ys h = tt
small_front (x ∷ xs) ys h = (h.0, small_front xs ys h.1)

small_back : (xs ys : List ℕ) → Small (xs ++ ys) → Small ys
small_back [] ys h = h
small_back (x ∷ xs) ys h = small_back xs ys h.1

small_end : (xs : List ℕ) (b : ℕ) → Small xs → b < 256 → Small (xs ++ (b ∷ []))
small_end [] b h g = (g, tt)
small_end (x ∷ xs) b h g = (h.0, small_end xs b h.1 g)

-- ---- the records of a file of bytes
abbrev OfBytes : List LogRecord → Type 0
OfBytes [] = Unit {0}
OfBytes (r ∷ records) = Small r.body × OfBytes records

small_records : (records : List LogRecord) → Small (joined records) → OfBytes records
unfolding joined record_bytes
small_records [] h = tt
small_records (r ∷ records) h =
    (small_front r.body _ (small_front (record_bytes r) (joined records) h), small_records records (small_back (record_bytes r) (joined records) h))

of_bytes : (file : List ℕ) (listing : List LogRecord) → Bytes file → records_of kinds file ≡ served listing → OfBytes (reverse listing)
unfolding log_of
of_bytes file listing bytes e =
    small_records (reverse listing) (small_front (joined (reverse listing)) _ (subst Small (listed_is kinds file bytes listing e).1 (small_bytes file bytes)))

of_bytes-end : (rs : List LogRecord) (r : LogRecord) → OfBytes rs → Small r.body → OfBytes (rs ++ (r ∷ []))
of_bytes-end [] r h g = (g, tt)
of_bytes-end (x ∷ rs) r h g = (h.0, of_bytes-end rs r h.1 g)

-- ---- a stretch unstuffed, and its body
abbrev SmallItem : Item → Type 0
SmallItem i = Served Small i

small_prepend : (b : ℕ) (a : Item) → b < 256 → SmallItem a → SmallItem (prepend b a)
unfolding prepend
small_prepend b (served body) h g = (h, g)
small_prepend b (refused n) h g = tt

small_meant : (place b : ℕ) (a : Item) → SmallItem a → SmallItem (meant place (left_of escapes b) a)
small_meant place b a h =
    let P : Option ℕ → Type 0 = λ o. SmallItem (meant place o a) in
    by_test P (eqb b 0x5E) (small_prepend 0x7E a (omega arith) h)
    (by_test P (eqb b 0x5D) (small_prepend 0x7D a (omega arith) h)
    (by_test P (eqb b 0x31) (small_prepend 0x11 a (omega arith) h) (by_test P (eqb b 0x33) (small_prepend 0x13 a (omega arith) h) tt)))

small_unstuffed : (bytes : List ℕ) → Small bytes → (place : ℕ) → SmallItem (unstuff_from place bytes) × SmallItem (unstuff_escaped place bytes)
unfolding unstuff_from unstuff_escaped
small_unstuffed [] h place = (tt, tt)
small_unstuffed (b ∷ bytes) h place = (
  by_test SmallItem (eqb b 0x7D) (small_unstuffed bytes h.1 place).1
      (by_test SmallItem (is_control b) tt (small_prepend b _ h.0 (small_unstuffed bytes h.1 (place + 1)).0)),
  small_meant place b _ (small_unstuffed bytes h.1 (place + 2)).0,
)

small_checked : (kind : Kind) (body : List ℕ) → Small body → SmallItem (check_body kind body)
unfolding check_body
small_checked kind body h = by_order Small (body_checks kind body) body h

small_judged : (kind : Kind) (stretch : List ℕ) → Small stretch → SmallItem (judge kind stretch)
unfolding judge judge_body
small_judged kind stretch h = go (unstuff_from 0 stretch) (small_unstuffed stretch h 0).0
  where
    go : (a : Item) → SmallItem a → SmallItem (judge_body kind a)
    go (served body) g = small_checked kind body g
    go (refused n) g = tt

-- ---- the items of a stream
abbrev SmallEvents : List Event → Type 0
SmallEvents [] = Unit {0}
SmallEvents (byte b ∷ events) = (b < 256) × SmallEvents events
SmallEvents (mark ∷ events) = SmallEvents events

abbrev SmallItems : List Item → Type 0
SmallItems [] = Unit {0}
SmallItems (i ∷ is) = SmallItem i × SmallItems is

abbrev SmallPlace : Place → Type 0
SmallPlace outside = Unit {0}
SmallPlace (inside stretch) = Small stretch

small_next : (t : Bool) (b : ℕ) (place : Place) → b < 256 → SmallPlace place → SmallPlace (next_byte t b place)
unfolding next_byte
small_next true b place h g = tt
small_next false b outside h g = tt
small_next false b (inside stretch) h g = small_end stretch b g h

small_gain : (kind : Kind) (place : Place) (e : Event) → SmallPlace place → SmallItems (gain kind place e)
unfolding gain
small_gain kind outside e h = tt
small_gain kind (inside []) e h = tt
small_gain kind (inside (b ∷ stretch)) (byte c) h = by_test SmallItems (eqb c 0x7E) (small_judged kind (b ∷ stretch) h, tt) tt
small_gain kind (inside (b ∷ stretch)) mark h = (tt, tt)

items-append : (xs ys : List Item) → SmallItems xs → SmallItems ys → SmallItems (xs ++ ys)
items-append [] ys h g = g
items-append (x ∷ xs) ys h g = (h.0, items-append xs ys h.1 g)

items-drop : (n : ℕ) (is : List Item) → SmallItems is → SmallItems (drop n is)
items-drop zero is h = h
items-drop (suc n) [] h = tt
items-drop (suc n) (i ∷ is) h = items-drop n is h.1

small_items : (kind : Kind) (events : List Event) (place : Place) → SmallPlace place → SmallEvents events → SmallItems (items_from kind place events)
unfolding items_from next
small_items kind [] place h g = tt
small_items kind (byte b ∷ events) place h g =
    items-append (gain kind place (byte b)) _ (small_gain kind place (byte b) h) (small_items kind events _ (small_next (eqb b 0x7E) b place g.0 h) g.1)
small_items kind (mark ∷ events) place h g = items-append (gain kind place mark) _ (small_gain kind place mark h) (small_items kind events outside tt g)

events_append : (xs ys : List Event) → SmallEvents xs → SmallEvents ys → SmallEvents (xs ++ ys)
events_append [] ys h g = g
events_append (byte b ∷ xs) ys h g = (h.0, events_append xs ys h.1 g)
events_append (mark ∷ xs) ys h g = events_append xs ys h g

small_gained : (kind : Kind) (stream more : List Event) → SmallEvents stream → SmallEvents more → SmallItems (gained kind stream more)
unfolding gained items
small_gained kind stream more h g =
    items-drop (length (items kind stream)) (items kind (stream ++ more)) (small_items kind (stream ++ more) outside tt (events_append stream more h g))

-- ---- what a log tells
small_heard : (side : Kind) (r : LogRecord) → Small r.body → SmallEvents (heard_on side r)
unfolding heard_on
small_heard side r h = by_test SmallEvents (eqb r.kind 3) tt (by_test SmallEvents (eqb r.kind _) (go r.body h) tt)
  where
    go : (bytes : List ℕ) → Small bytes → SmallEvents (map byte bytes)
    go [] g = tt
    go (b ∷ bytes) g = (g.0, go bytes g.1)

small_joined : (side : Kind) (records : List LogRecord) → OfBytes records → SmallEvents (joined_on side records)
unfolding joined_on
small_joined side [] h = tt
small_joined side (r ∷ records) h =
    events_append (heard_on side r) (joined_on side records) (small_heard side r h.0) (small_joined side records h.1)

abbrev SmallTold : List Told → Type 0
SmallTold [] = Unit {0}
SmallTold (yielded side i ∷ ts) = SmallItem i × SmallTold ts
SmallTold (silent ∷ ts) = SmallTold ts

told-append : (xs ys : List Told) → SmallTold xs → SmallTold ys → SmallTold (xs ++ ys)
told-append [] ys h g = g
told-append (yielded side i ∷ xs) ys h g = (h.0, told-append xs ys h.1 g)
told-append (silent ∷ xs) ys h g = told-append xs ys h g

small_completes : (side : Kind) (earlier : List LogRecord) (r : LogRecord) → OfBytes earlier → Small r.body → SmallTold (completes side earlier r)
unfolding completes
small_completes side earlier r h g = go (gained side (joined_on side earlier) (heard_on side r)) (small_gained side _ _ (small_joined side earlier h) (small_heard side r g))
  where
    go : (is : List Item) → SmallItems is → SmallTold (map (yielded side) is)
    go [] k = tt
    go (i ∷ is) k = (k.0, go is k.1)

small_polls : (r : LogRecord) → SmallTold (polls r)
unfolding polls
small_polls r = by_test SmallTold (eqb r.kind 3) tt tt

small_told : (later earlier : List LogRecord) → OfBytes earlier → OfBytes later → SmallTold (told_from earlier later)
unfolding told_from
small_told [] earlier h g = tt
small_told (r ∷ later) earlier h g =
    told-append (completes Request earlier r) _ (small_completes Request earlier r h g.0)
    (told-append (completes Reply earlier r) _ (small_completes Reply earlier r h g.0)
    (told-append (polls r) _ (small_polls r) (small_told later (earlier ++ (r ∷ [])) (of_bytes-end earlier r h g.0) g.1)))

-- ---- the address of a request, and of one that a reply is accepted to
abbrev ToByte : ℕ × Asked → Type 0
ToByte q = q.0 < 256

first_small : (body : List ℕ) → Small body → get_or body 0 0 < 256
first_small [] h = omega arith
first_small (b ∷ body) h = h.0

read_small : (frame : List ℕ) → Small frame → Served ToByte (read_request frame)
unfolding read_request check_request
read_small frame h = go (check_body Request frame) (small_checked Request frame h)
  where
    last : (body : List ℕ) → Small body → (a : Answered Asked) → Served ToByte (and_then a (λ request. check_request (get_or body 0 0) request))
    last body g (served request) = by_order ToByte (request_checks (get_or body 0 0) request) (get_or body 0 0, request) (first_small body g)
    last body g (refused n) = tt

    go : (a : Item) → SmallItem a
        → Served ToByte (and_then a (λ body. and_then (typed (get_or body 1 0) (payload_of body)) (λ request. check_request (get_or body 0 0) request)))
    go (served body) g = last body g (typed (get_or body 1 0) (payload_of body))
    go (refused n) g = tt

not_to_all : (address : ℕ) (request : Asked) (reply : List ℕ) → Served (λ _. foreign address (row request) reply ≡ false) (read_reply address request reply).0
unfolding read_reply answer_to
not_to_all address request reply =
    not_met (request_checks address request ++ body_checks Reply reply) (read_checks address request reply) (got_by (size_of (row request).answer) request (data_in reply))

-- ---- the board refuses orders in range with 19 alone
abbrev Only19 : {A : Type 0} → Answered A → Type 0
Only19 (served a) = Unit {0}
Only19 (refused n) = n ≡ number 19

done_19 : (o : Order) (t : List Entry) → Only19 (done o t).0
unfolding opened
done_19 (Open node kind n) t =
    let P : Outcome → Type 0 = λ outcome. Only19 outcome.0 in by_test P (holds (is_of node kind) t) tt (by_test P (holds is_free t) tt refl)
done_19 (Close node kind) t = tt
done_19 (Restart node) t = tt
done_19 Poll t = tt
done_19 Unnamed t = tt
done_19 Nothing t = tt

change_19 : (t : List Entry) (o : Order) → Sound t → order_in_range o ≡ true → Only19 (change t o).0
change_19 t o s h =
    let is : change t o ≡ done o t = sound-change t o s ∙ rw h in subst (λ (outcome : Outcome). Only19 outcome.0) (sym is) (done_19 o t)

abbrev InRange : List Order → Type 0
InRange [] = Unit {0}
InRange (o ∷ os) = (order_in_range o ≡ true) × InRange os

board_19 : (os : List Order) (t : List Entry) → Sound t → InRange os → Only19 (board_from t os)
unfolding board_from
board_19 [] t s h = tt
board_19 (o ∷ os) t s h = go (change t o) (sound-kept t o s) (change_19 t o s h.0) (λ left k. board_19 os left k h.1)
  where
    go : (c : Outcome) → Sound c.1 → Only19 c.0 → ((left : List Entry) → Sound left → Only19 (board_from left os))
        → Only19 (and_then (or_refused c) (λ left. board_from left os))
    go (served u, left) k w more = more left k
    go (refused n, left) k w more = w

-- ---- the orders of a log are in range
node_address : (address : ℕ) (r : Row) (reply : List ℕ) → address < 256 → foreign address r reply ≡ false → leb address 254 ≡ true
unfolding foreign
node_address address r reply h f =
    let met : address ≡ 255 → foreign address r reply ≡ true = λ is. rw (eq-eqb address 255 is) in
    let other : address ≡ 255 → ⊥ = λ is. true_not_false (sym (met is) ∙ f) in
    le-leb address 254 (omega (arith, h, other))

abbrev SmallLatest : Option (List ℕ) → Type 0
SmallLatest none = Unit {0}
SmallLatest (some frame) = Small frame

module _ (lease : ℕ) (ok : lease_in_range lease ≡ true) where
  accepted_in_range : (address : ℕ) (request : Asked) → leb address 254 ≡ true → order_in_range (accepted_by address request lease) ≡ true
  accepted_in_range address GetSetpoint h = refl
  accepted_in_range address (SetSetpoint x) h = refl
  accepted_in_range address MeasuredValue h = refl
  accepted_in_range address GetGain h = refl
  accepted_in_range address (SetGain x) h = refl
  accepted_in_range address GetInitStep h = refl
  accepted_in_range address (SetInitStep x) h = refl
  accepted_in_range address RawFlow h = refl
  accepted_in_range address RawConductivity h = refl
  accepted_in_range address Temperature h = refl
  accepted_in_range address NumberOfCalibrations h = refl
  accepted_in_range address (Validity index) h = refl
  accepted_in_range address FullScale h = refl
  accepted_in_range address GetCalibration h = refl
  accepted_in_range address (SetCalibration n) h = h
  accepted_in_range address (VolatileCalibration n) h = both (leb address 254) (lease_in_range lease) h ok
  accepted_in_range address GetAddress h = refl
  accepted_in_range address (SetAddress a) h = refl
  accepted_in_range address GetBaud h = refl
  accepted_in_range address (SetBaud rate) h = refl
  accepted_in_range address ProductType h = refl

  reply_in_range : (address : ℕ) (request : Asked) (reply : List ℕ) → address < 256 → (a : Answered Got) → Served (λ _. foreign address (row request) reply ≡ false) a
      → order_in_range (order_of_reply address request a lease) ≡ true
  reply_in_range address request reply h (served got) f = accepted_in_range address request (node_address address (row request) reply h f)
  reply_in_range address request reply h (refused n) f = refl

  against_in_range : (q : Answered (ℕ × Asked)) (reply : List ℕ) → Served ToByte q → order_in_range (against q reply lease) ≡ true
  against_in_range (served (address, request)) reply h =
      reply_in_range address request reply h (read_reply address request reply).0 (not_to_all address request reply)
  against_in_range (refused n) reply h = refl

  answering_in_range : (latest : Option (List ℕ)) (reply : List ℕ) → SmallLatest latest → order_in_range (answering latest reply lease) ≡ true
  answering_in_range none reply h = refl
  answering_in_range (some frame) reply h = against_in_range (read_request frame) reply (read_small frame h)

  orders_in_range : (ts : List Told) (latest : Option (List ℕ)) → SmallLatest latest → SmallTold ts → InRange (orders_from lease latest ts)
  unfolding orders_from
  orders_in_range [] latest h g = tt
  orders_in_range (yielded Request (served frame) ∷ ts) latest h g = orders_in_range ts (some frame) g.0 g.1
  orders_in_range (yielded Request (refused n) ∷ ts) latest h g = orders_in_range ts latest h g.1
  orders_in_range (yielded Reply (served frame) ∷ ts) latest h g = (answering_in_range latest frame h, orders_in_range ts latest h g.1)
  orders_in_range (yielded Reply (refused n) ∷ ts) latest h g = orders_in_range ts latest h g.1
  orders_in_range (silent ∷ ts) latest h g = (refl, orders_in_range ts latest h g)

  records_19 : (records : List LogRecord) → OfBytes records → Only19 (replayed_by lease records)
  unfolding replayed_by
  records_19 records h =
      go (board_from empty (orders lease records))
      (board_19 (orders lease records) empty sound_empty (orders_in_range (told records) none tt (small_told records [] tt h)))
    where
      go : (b : Answered (List Entry)) → Only19 b → Only19 (and_then b (λ t. served (listed (standing_in t))))
      go (served t) w = tt
      go (refused n) w = w

  pub only_19 : (file : List ℕ) (listing : List LogRecord) (n : Numbered) → Bytes file → records_of kinds file ≡ served listing
      → replayed file lease ≡ refused n → n ≡ number 19
  unfolding replayed
  only_19 file listing n bytes e f =
      let is : replayed file lease ≡ replayed_by lease (reverse listing) = rw (ok, e) in
      subst Only19 (sym is ∙ f) (records_19 (reverse listing) (of_bytes file listing bytes e))
