-- "I2C entries are not in the log and stay empty": only temporary calibrations on the serial line come out of a replay. Assumes nothing.
use Prim.Native.Nat.{ℕ, zero, suc}
use mathlib.Core.Path.{◌≡◌, refl, sym, ap, subst, ◌∙◌}
use mathlib.Core.Bool.{Bool, true, not}
use mathlib.Core.Logic.{◌⊎◌, inl, inr}
use mathlib.Core.List.{List, [], ◌∷◌, ◌++◌, map}
use mathlib.Core.Option.{Option, none, some}
use lib.Dec.{eqb}
use lib.ListN.{length, set, replicate}
use Rattle.refusal.specs.Refusals.{Answered, served, refused}
use Rattle.shdlc.specs.declared.Kind.TheVariants.{Request, Reply}
use Rattle.sfc6.specs.declared.Request.{Request as Asked}
use Rattle.sfc6.specs.declared.Request.TheVariants.{GetSetpoint, SetSetpoint, MeasuredValue, GetGain, SetGain, GetInitStep, SetInitStep, RawFlow, RawConductivity, Temperature, NumberOfCalibrations, Validity, FullScale, GetCalibration, SetCalibration, VolatileCalibration, GetAddress, SetAddress, GetBaud, SetBaud, ProductType}
use Rattle.sfc6.specs.Reading.{and_then, read_request}
use Rattle.replies.specs.Reader.{Got, read_reply}
use Rattle.board.specs.declared.entries.Bus.{Bus}
use Rattle.board.specs.declared.entries.Kind.{Kind}
use Rattle.board.specs.declared.entries.Kind.TheVariants.{Valve, Calibration}
use Rattle.board.specs.declared.entries.Node.{Node}
use Rattle.board.specs.declared.entries.Entry.{Entry}
use Rattle.board.specs.declared.orders.Order.{Order}
use Rattle.board.specs.declared.orders.Order.TheVariants.{Open, Close, Restart, Poll, Unnamed, Nothing}
use Rattle.board.specs.Entries.{bus_number, kind_number, entry_of, free, is_free, is_of, on_node, empty, place_of, holds, found, valid}
use Rattle.board.specs.Orders.{Outcome, order_in_range, opened, freed, tick, done, or_unchanged, change}
use Rattle.board.specs.Listing.{standing_in, to_list, by_address, listed}
use Rattle.board.proofs.Tests.{has_fields, kind_not_0}
use Rattle.board.proofs.Search.{found_is}
use Rattle.handover.specs.Wire.{accepted_by, order_of_reply}
use Rattle.wire_log.specs.Log.{LogRecord}
use Rattle.replay.specs.Claims.{SerialCalibration, AllSerialCalibrations}
use Rattle.replay.specs.Replay.{Told, yielded, silent, told, against, answering, orders_from, orders, or_refused, board_from, replayed_by}
use Rattle.replay.specs.Private.{OfLog}
use Rattle.replay.proofs.Noting.{by_test}

-- ---- the orders: what they open and close is such an entry
abbrev AllOfLog : List Order → Type 0
AllOfLog [] = Unit {0}
AllOfLog (o ∷ os) = OfLog o × AllOfLog os

accepted_log : (address : ℕ) (request : Asked) (lease : ℕ) → OfLog (accepted_by address request lease)
accepted_log address GetSetpoint lease = tt
accepted_log address (SetSetpoint x) lease = tt
accepted_log address MeasuredValue lease = tt
accepted_log address GetGain lease = tt
accepted_log address (SetGain x) lease = tt
accepted_log address GetInitStep lease = tt
accepted_log address (SetInitStep x) lease = tt
accepted_log address RawFlow lease = tt
accepted_log address RawConductivity lease = tt
accepted_log address Temperature lease = tt
accepted_log address NumberOfCalibrations lease = tt
accepted_log address (Validity index) lease = tt
accepted_log address FullScale lease = tt
accepted_log address GetCalibration lease = tt
accepted_log address (SetCalibration n) lease = (refl, refl)
accepted_log address (VolatileCalibration n) lease = (refl, refl)
accepted_log address GetAddress lease = tt
accepted_log address (SetAddress a) lease = tt
accepted_log address GetBaud lease = tt
accepted_log address (SetBaud rate) lease = tt
accepted_log address ProductType lease = tt

reply_log : (address : ℕ) (request : Asked) (a : Answered Got) (lease : ℕ) → OfLog (order_of_reply address request a lease)
reply_log address request (served got) lease = accepted_log address request lease
reply_log address request (refused n) lease = tt

against_log : (q : Answered (ℕ × Asked)) (reply : List ℕ) (lease : ℕ) → OfLog (against q reply lease)
against_log (served (address, request)) reply lease = reply_log address request (read_reply address request reply).0 lease
against_log (refused n) reply lease = tt

answering_log : (latest : Option (List ℕ)) (reply : List ℕ) (lease : ℕ) → OfLog (answering latest reply lease)
answering_log (some frame) reply lease = against_log (read_request frame) reply lease
answering_log none reply lease = tt

orders_log : (lease : ℕ) (ts : List Told) (latest : Option (List ℕ)) → AllOfLog (orders_from lease latest ts)
unfolding orders_from
orders_log lease [] latest = tt
orders_log lease (yielded Request (served frame) ∷ ts) latest = orders_log lease ts (some frame)
orders_log lease (yielded Request (refused n) ∷ ts) latest = orders_log lease ts latest
orders_log lease (yielded Reply (served frame) ∷ ts) latest = (answering_log latest frame lease, orders_log lease ts latest)
orders_log lease (yielded Reply (refused n) ∷ ts) latest = orders_log lease ts latest
orders_log lease (silent ∷ ts) latest = (tt, orders_log lease ts latest)

-- ---- the table: each place is free or has such an entry
abbrev Fine : Entry → Type 0
Fine e = (e.kind ≡ 0) ⊎ SerialCalibration e

abbrev AllFine : List Entry → Type 0
AllFine [] = Unit {0}
AllFine (e ∷ t) = Fine e × AllFine t

fine_set : (t : List Entry) (i : ℕ) (e : Entry) → AllFine t → Fine e → AllFine (set t i e)
fine_set [] i e h g = h
fine_set (x ∷ t) zero e h g = (g, h.1)
fine_set (x ∷ t) (suc i) e h g = (h.0, fine_set t i e h.1 g)

fine_map : (f : Entry → Entry) → ((e : Entry) → Fine e → Fine (f e)) → (t : List Entry) → AllFine t → AllFine (map f t)
fine_map f keeps [] h = h
fine_map f keeps (e ∷ t) h = (keeps e h.0, fine_map f keeps t h.1)

fine_freed : (f : Entry → Bool) (e : Entry) → Fine e → Fine (freed f e)
unfolding freed
fine_freed f e h = by_test Fine (f e) (inl refl) h

fine_tick : (e : Entry) → Fine e → Fine (tick e)
fine_tick e h = h

abbrev Leaves : Outcome → Type 0
Leaves o = AllFine o.1

done_fine : (o : Order) (t : List Entry) → OfLog o → AllFine t → Leaves (done o t)
unfolding opened
done_fine (Open node kind lease) t h g =
    let new : Fine (entry_of node kind lease) = inr (ap bus_number h.0, ap kind_number h.1) in
    by_test Leaves (holds (is_of node kind) t) (fine_set t (place_of (is_of node kind) t) (entry_of node kind lease) g new)
    (by_test Leaves (holds is_free t) (fine_set t (place_of is_free t) (entry_of node kind lease) g new) g)
done_fine (Close node kind) t h g = fine_map (freed (is_of node kind)) (fine_freed (is_of node kind)) t g
done_fine (Restart node) t h g = fine_map (freed (on_node node)) (fine_freed (on_node node)) t g
done_fine Poll t h g = fine_map tick fine_tick t g
done_fine Unnamed t h g = g
done_fine Nothing t h g = g

change_fine : (t : List Entry) (o : Order) → OfLog o → AllFine t → Leaves (change t o)
unfolding change
change_fine t o h g =
    let Kept : Answered Outcome → Type 0 = λ a. AllFine (or_unchanged a t).1 in
    by_test Kept (not (eqb (length t) 32)) g (by_test Kept (not (valid t)) g (by_test Kept (not (order_in_range o)) g (done_fine o t h g)))

abbrev FineBoard : Answered (List Entry) → Type 0
FineBoard (served t) = AllFine t
FineBoard (refused n) = Unit {0}

board_fine : (os : List Order) (t : List Entry) → AllOfLog os → AllFine t → FineBoard (board_from t os)
unfolding board_from
board_fine [] t h g = g
board_fine (o ∷ os) t h g = go (change t o) (change_fine t o h.0 g) (λ next k. board_fine os next h.1 k)
  where
    go : (c : Outcome) → AllFine c.1 → ((next : List Entry) → AllFine next → FineBoard (board_from next os))
        → FineBoard (and_then (or_refused c) (λ next. board_from next os))
    go (served u, next) k more = more next k
    go (refused n, next) k more = tt

-- ---- and so has its list
abbrev FineIf : Option Entry → Type 0
FineIf none = Unit {0}
FineIf (some e) = Fine e

fine_found : (f : Entry → Bool) (t : List Entry) → AllFine t → FineIf (found f t)
unfolding found
fine_found f [] h = tt
fine_found f (e ∷ t) h = by_test FineIf (f e) h.0 (fine_found f t h.1)

each_append : (xs ys : List Entry) → AllSerialCalibrations xs → AllSerialCalibrations ys → AllSerialCalibrations (xs ++ ys)
unfolding AllSerialCalibrations
each_append [] ys h g = g
each_append (x ∷ xs) ys h g = (h.0, each_append xs ys h.1 g)

module _ (t : List Entry) (h : AllFine t) where
  each-standing : (node : Node) (kind : Kind) → AllSerialCalibrations (to_list (standing_in t node kind))
  unfolding AllSerialCalibrations
  each-standing node kind = go (standing_in t node kind) (fine_found (is_of node kind) t h) refl
    where
      ours : (e : Entry) → Fine e → is_of node kind e ≡ true → SerialCalibration e
      ours e (inl zero') is = absurd (kind_not_0 kind (sym (has_fields (kind_number kind) (bus_number node.bus) node.address e is).0 ∙ zero'))
      ours e (inr o) is = o

      go : (x : Option Entry) → FineIf x → standing_in t node kind ≡ x → AllSerialCalibrations (to_list x)
      go none f e = tt
      go (some x) f e = (ours x f (found_is (is_of node kind) t x e), tt)

  each_address : (bus : Bus) (n address : ℕ) → AllSerialCalibrations (by_address (standing_in t) bus address n)
  unfolding by_address AllSerialCalibrations
  each_address bus zero address = tt
  each_address bus (suc n) address =
      let node : Node = record { bus = bus; address = address } in
      each_append (to_list (standing_in t node Valve) ++ to_list (standing_in t node Calibration)) (by_address (standing_in t) bus (suc address) n)
      (each_append (to_list (standing_in t node Valve)) (to_list (standing_in t node Calibration)) (each-standing node Valve) (each-standing node Calibration))
      (each_address bus n (suc address))

  each-listed : AllSerialCalibrations (listed (standing_in t))
  unfolding listed
  each-listed = each_append _ _ (each_address _ _ 0) (each_address _ _ 0)

fine_free : (n : ℕ) → AllFine (replicate n free)
fine_free zero = tt
fine_free (suc n) = (inl refl, fine_free n)

abbrev EachIf : Answered (List Entry) → Type 0
EachIf (served entries) = AllSerialCalibrations entries
EachIf (refused n) = Unit {0}

pub only_serial : (lease : ℕ) (records : List LogRecord) (entries : List Entry) → replayed_by lease records ≡ served entries → AllSerialCalibrations entries
unfolding replayed_by
only_serial lease records entries e =
    subst EachIf e (go (board_from empty (orders lease records)) (board_fine (orders lease records) empty (orders_log lease (told records) none) (fine_free 32)))
  where
    go : (b : Answered (List Entry)) → FineBoard b → EachIf (and_then b (λ t. served (listed (standing_in t))))
    go (served t) h = each-listed t h
    go (refused n) h = tt
