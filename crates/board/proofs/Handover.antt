-- 02 (i): the claim over every series of orders from the empty table. Assumes nothing.
use mathlib.Core.Path.{◌≡◌, refl, sym, ◌∙◌, ap, subst}
use Prim.Native.Nat.{ℕ, ◌+◌, ◌-◌, ◌<◌, ◌≤◌}
use native.Mathlib.Omega.{arith}
use mathlib.Core.Bool.{Bool, true, false, cond, not, ◌&&◌}
use mathlib.Core.List.{List, [], ◌∷◌, ◌++◌}
use mathlib.Core.Option.{Option, none, some}
use lib.Dec.{leb, eqb}
use lib.ListN.{length, set, length-set, length-map}
use borrow.Author.Tests.{eq-eqb, ne_eqb, le-ltb, leb-true, leb-false}
use Rattle.refusal.specs.Refusals.{number, Answered, served, refused}
use Rattle.board.specs.declared.entries.Bus.{Bus}
use Rattle.board.specs.declared.entries.Bus.TheVariants.{Serial, I2c}
use Rattle.board.specs.declared.entries.Kind.{Kind}
use Rattle.board.specs.declared.entries.Kind.TheVariants.{Valve, Calibration}
use Rattle.board.specs.declared.entries.Node.{Node}
use Rattle.board.specs.declared.entries.Entry.{Entry}
use Rattle.board.specs.declared.orders.Order.{Order}
use Rattle.board.specs.declared.orders.Order.TheVariants.{Open, Close, Restart, Poll, Unnamed, Nothing}
use Rattle.board.specs.Entries.{node_in_range, kind_number, bus_number, entry_of, is_free, has, is_of, on_node, is_kind, is_node, is_clear, entry_in_range, empty, place_of, holds, found, count, again, valid}
use Rattle.board.specs.Orders.{Outcome, order_in_range, opened, freed, tick, done, or_unchanged, change}
use Rattle.board.specs.Listing.{standing_in, listed, list_answer, laid, list}
use Rattle.board.specs.Series.{same, polled, left, is_due, entry_if, standing_after, held, is_none, is_new, answer_to, joined, carried_out, answers_to, table_after, answers, Unconcerned, polls_in, less_by, Handover}
use Rattle.board.proofs.Tests.{true_not_false, and_left, kind_not_0}
use Rattle.board.proofs.Search.{is_some, holds-found}
use Rattle.board.proofs.Kept.{change_lowest}
use Rattle.board.proofs.Validity.{valid-polled, valid-freed, valid_renewed, valid_placed}
use Rattle.board.proofs.Stands.{Tells, tells_renewed, tells_placed, tells_closed, tells_restarted, tells_polled, tells_nothing}
use Rattle.board.proofs.Sorting.{is_held, length-listed, all_held, not_all_held, one_place}

-- ---- a table that 1 and 2 do not refuse
abbrev pub Sound : List Entry → Type 0
Sound t = (length t ≡ 32) × (valid t ≡ true)

pub sound-change : (t : List Entry) (order : Order) → Sound t → change t order ≡ cond (order_in_range order) (done order t) (refused (number 12), t)
unfolding change
sound-change t order s = rw (eq-eqb (length t) 32 s.0, s.1) (go (order_in_range order))
  where
    go : (b : Bool) → or_unchanged (cond (not b) (refused (number 12)) (served (done order t))) t ≡ cond b (done order t) (refused (number 12), t)
    go true = refl
    go false = refl

-- the entry that an order in range opens
open_in_range : (node : Node) (kind : Kind) (lease : ℕ) → node_in_range node ≡ true → entry_in_range (entry_of node kind lease) ≡ true
unfolding entry_in_range is_kind is_node
open_in_range node Valve lease h = on_bus node.bus node.address h
  where
    on_bus : (bus : Bus) (address : ℕ) → node_in_range (record { bus = bus; address = address }) ≡ true → is_node (bus_number bus) address ≡ true
    on_bus Serial address g = rw g
    on_bus I2c address g = g
open_in_range node Calibration lease h = on_bus node.bus node.address h
  where
    on_bus : (bus : Bus) (address : ℕ) → node_in_range (record { bus = bus; address = address }) ≡ true → is_node (bus_number bus) address ≡ true
    on_bus Serial address g = rw g
    on_bus I2c address g = g

-- an order leaves such a table as such a one
sound-done : (t : List Entry) (order : Order) → Sound t → order_in_range order ≡ true → Sound (done order t).1
unfolding opened
sound-done t (Open node kind lease) s ok = go (holds (is_of node kind) t) refl (holds is_free t) refl
  where
    go : (b : Bool) → holds (is_of node kind) t ≡ b → (c : Bool) → holds is_free t ≡ c
        → Sound (cond {A = Outcome} b (served tt, set t (place_of (is_of node kind) t) (entry_of node kind lease)) (cond c (served tt, set t (place_of is_free t) (entry_of node kind lease)) (refused (number 19), t))).1
    go true u c w = (length-set t (place_of (is_of node kind) t) _ ∙ s.0, valid_renewed _ (open_in_range node kind lease (and_left (node_in_range node) _ ok)) t u s.1)
    go false u true w = (length-set t (place_of is_free t) _ ∙ s.0, valid_placed _ (open_in_range node kind lease (and_left (node_in_range node) _ ok)) t u w s.1)
    go false u false w = s
sound-done t (Close node kind) s ok = (length-map t (freed (is_of node kind)) ∙ s.0, valid-freed (is_of node kind) t s.1)
sound-done t (Restart node) s ok = (length-map t (freed (on_node node)) ∙ s.0, valid-freed (on_node node) t s.1)
sound-done t Poll s ok = (length-map t tick ∙ s.0, valid-polled t s.1)
sound-done t Unnamed s ok = s
sound-done t Nothing s ok = s

pub sound-kept : (t : List Entry) (order : Order) → Sound t → Sound (change t order).1
sound-kept t order s = subst (λ (o : Outcome). Sound o.1) (sym (sound-change t order s)) (go (order_in_range order) refl)
  where
    go : (b : Bool) → order_in_range order ≡ b → Sound (cond b (done order t) (refused (number 12), t)).1
    go true u = sound-done t order s u
    go false u = s

-- ---- a table, and the orders that left it
abbrev Left : List Entry → List Order → Type 0
Left t carried = Sound t × Tells t carried

module _ (t : List Entry) (carried : List Order) (is : Left t carried) where
  abbrev sound : Sound t
  sound = is.0

  -- as many places are held as entries stand
  held_places : length (listed (standing_in t)) ≡ held carried
  held_places = ap (λ (s : Node → Kind → Option Entry). length (listed s)) (λ i node kind. is.1 node kind i)

  held-count : count is_held t ≡ held carried
  held-count = sym (length-listed t sound.1) ∙ held_places

  full : holds is_free t ≡ false → eqb (held carried) 32 ≡ true
  full h = let n : count is_held t ≡ length t = all_held t h in eq-eqb (held carried) 32 (sym held-count ∙ n ∙ sound.0)

  not_full : holds is_free t ≡ true → eqb (held carried) 32 ≡ false
  not_full h =
      let n : count is_held t < length t = not_all_held t h in
      let l : length t ≡ 32 = sound.0 in
      let c : count is_held t ≡ held carried = held-count in
      ne_eqb (held carried) 32 (λ e. omega (arith, n, l, c, e))

  standing-new : (node : Node) (kind : Kind) → is_none (left carried node kind) ≡ not (holds (is_of node kind) t)
  standing-new node kind = go (left carried node kind) (holds-found (is_of node kind) t ∙ ap is_some (is.1 node kind))
    where
      go : (o : Option ℕ) → holds (is_of node kind) t ≡ is_some (entry_if node kind o) → is_none o ≡ not (holds (is_of node kind) t)
      go none h = rw h
      go (some n) h = rw h

  -- one order: its answer, and the table after it
  abbrev After : Order → Outcome → Type 0
  After order outcome = (outcome.0 ≡ answer_to carried order) × Left outcome.1 (joined (answer_to carried order) order carried)

  answered : (order : Order) (outcome : Outcome) (a : Answered (Unit {0})) → answer_to carried order ≡ a → outcome.0 ≡ a → Left outcome.1 (joined a order carried) → After order outcome
  answered order outcome a e f l = (f ∙ sym e, subst (λ (b : Answered (Unit {0})). Left outcome.1 (joined b order carried)) (sym e) l)

  refused_12 : (order : Order) → order_in_range order ≡ false → answer_to carried order ≡ refused (number 12)
  unfolding answer_to
  refused_12 order h = rw h

  plain_served : (order : Order) → order_in_range order ≡ true → is_new carried order ≡ false → answer_to carried order ≡ served tt
  unfolding answer_to
  plain_served order h n = rw (h, n)

  module _ (node : Node) (kind : Kind) (lease : ℕ) (ok : order_in_range (Open node kind lease) ≡ true) where
    abbrev new : Entry
    new = entry_of node kind lease

    in_range_lem : entry_in_range new ≡ true
    in_range_lem = open_in_range node kind lease (and_left (node_in_range node) _ ok)

    renews : holds (is_of node kind) t ≡ true → answer_to carried (Open node kind lease) ≡ served tt
    renews h = plain_served (Open node kind lease) ok (standing-new node kind ∙ ap not h)

    places : holds is_free t ≡ true → answer_to carried (Open node kind lease) ≡ served tt
    unfolding answer_to
    places h = rw (ok, not_full h) (go (is_none (left carried node kind)))
      where
        go : (b : Bool) → cond {A = Answered (Unit {0})} (b && false) (refused (number 19)) (served tt) ≡ served tt
        go true = refl
        go false = refl

    refuses : holds (is_of node kind) t ≡ false → holds is_free t ≡ false → answer_to carried (Open node kind lease) ≡ refused (number 19)
    unfolding answer_to
    refuses h g = rw (ok, standing-new node kind, h, full g)

    opens : After (Open node kind lease) (opened node kind lease t)
    unfolding opened
    opens = go (holds (is_of node kind) t) refl (holds is_free t) refl
      where
        go : (b : Bool) → holds (is_of node kind) t ≡ b → (c : Bool) → holds is_free t ≡ c
            → After (Open node kind lease) (cond b (served tt, set t (place_of (is_of node kind) t) new) (cond c (served tt, set t (place_of is_free t) new) (refused (number 19), t)))
        go true u c w =
            answered (Open node kind lease) (served tt, set t (place_of (is_of node kind) t) new) (served tt) (renews u) refl
            ((length-set t (place_of (is_of node kind) t) new ∙ sound.0, valid_renewed new in_range_lem t u sound.1), tells_renewed t carried is.1 node kind lease u)
        go false u true w =
            answered (Open node kind lease) (served tt, set t (place_of is_free t) new) (served tt) (places w) refl
            ((length-set t (place_of is_free t) new ∙ sound.0, valid_placed new in_range_lem t u w sound.1), tells_placed t carried is.1 node kind lease u w)
        go false u false w = answered (Open node kind lease) (refused (number 19), t) (refused (number 19)) (refuses u w) refl is

  carries : (order : Order) → order_in_range order ≡ true → After order (done order t)
  carries (Open node kind lease) ok = opens node kind lease ok
  carries (Close node kind) ok =
      answered (Close node kind) (done (Close node kind) t) (served tt) (plain_served (Close node kind) ok refl) refl
      ((length-map t (freed (is_of node kind)) ∙ sound.0, valid-freed (is_of node kind) t sound.1), tells_closed t carried is.1 node kind)
  carries (Restart node) ok =
      answered (Restart node) (done (Restart node) t) (served tt) (plain_served (Restart node) ok refl) refl
      ((length-map t (freed (on_node node)) ∙ sound.0, valid-freed (on_node node) t sound.1), tells_restarted t carried is.1 node)
  carries Poll ok =
      answered Poll (done Poll t) (served tt) (plain_served Poll ok refl) refl ((length-map t tick ∙ sound.0, valid-polled t sound.1), tells_polled t carried is.1)
  carries Unnamed ok = absurd (true_not_false (sym ok))
  carries Nothing ok = answered Nothing (done Nothing t) (served tt) (plain_served Nothing ok refl) refl (sound, tells_nothing t carried is.1)

  pub step : (order : Order) → After order (change t order)
  step order = subst (After order) (sym (sound-change t order sound)) (go (order_in_range order) refl)
    where
      go : (b : Bool) → order_in_range order ≡ b → After order (cond b (done order t) (refused (number 12), t))
      go true u = carries order u
      go false u = answered order (refused (number 12), t) (refused (number 12)) (refused_12 order u) refl is

-- ---- every series
series : (orders : List Order) (t : List Entry) (carried : List Order) → Left t carried → Left (table_after t orders) (carried_out carried orders)
unfolding table_after carried_out
series [] t carried is = is
series (order ∷ orders) t carried is = series orders (change t order).1 (joined (answer_to carried order) order carried) (step t carried is order).1

each : (orders : List Order) (t : List Entry) (carried : List Order) → Left t carried → answers t orders ≡ answers_to carried orders
unfolding answers answers_to
each [] t carried is = refl
each (order ∷ orders) t carried is =
    λ i. (step t carried is order).0 i ∷ each orders (change t order).1 (joined (answer_to carried order) order carried) (step t carried is order).1 i

pub sound_empty : Sound empty
unfolding valid entry_in_range is_clear again holds has
sound_empty = (refl, refl)

at-start : Left empty []
unfolding valid entry_in_range is_clear again found holds has left
at-start = (sound_empty, λ node kind. start node.bus node.address kind)
  where
    start : (bus : Bus) (address : ℕ) (kind : Kind) → found (is_of (record { bus = bus; address = address }) kind) empty ≡ none
    start bus address Valve = refl
    start bus address Calibration = refl

left_by_lem : (orders : List Order) → Left (table_after empty orders) (carried_out [] orders)
left_by_lem orders = series orders empty [] at-start

-- ---- the list
module _ (t : List Entry) (carried : List Order) (is : Left t carried) where
  lists : (room : List Entry) → held carried ≤ length room → list t room ≡ (served (held carried), laid (listed (standing_after carried)) room)
  unfolding list list_answer
  lists room h =
      let e : standing_in t ≡ standing_after carried = λ i node kind. is.1 node kind i in
      rw (e, eq-eqb (length t) 32 is.0.0, is.0.1, le-ltb (length room) (held carried) h)

-- ---- a lease
same_self : (node : Node) (kind : Kind) → same node kind node kind ≡ true
same_self node kind = rw (eq-eqb (kind_number kind) (kind_number kind) refl, eq-eqb (bus_number node.bus) (bus_number node.bus) refl, eq-eqb node.address node.address refl)

less_0 : (o : Option ℕ) → o ≡ less_by 0 o
less_0 none = refl
less_0 (some n) = ap some (omega arith)

less_0_more : (m : ℕ) (o : Option ℕ) → less_by m o ≡ less_by (0 + m) o
less_0_more m none = refl
less_0_more m (some n) = ap some (omega arith)

less_1_more : (m : ℕ) (o : Option ℕ) → polled (less_by m o) ≡ less_by (1 + m) o
less_1_more m none = refl
less_1_more m (some n) = ap some (omega arith)

module _ (older : List Order) (node : Node) (kind : Kind) where
  runs_on : (later : List Order) → Unconcerned later node kind → left (later ++ older) node kind ≡ less_by (polls_in later) (left older node kind)
  unfolding left
  runs_on [] u = less_0 (left older node kind)
  runs_on (Open other k n ∷ later) u = rw u.0 (runs_on later u.1 ∙ less_0_more (polls_in later) (left older node kind))
  runs_on (Close other k ∷ later) u = rw u.0 (runs_on later u.1 ∙ less_0_more (polls_in later) (left older node kind))
  runs_on (Restart other ∷ later) u = rw u.0 (runs_on later u.1 ∙ less_0_more (polls_in later) (left older node kind))
  runs_on (Poll ∷ later) u = ap polled (runs_on later u.1) ∙ less_1_more (polls_in later) (left older node kind)
  runs_on (Unnamed ∷ later) u = runs_on later u.1 ∙ less_0_more (polls_in later) (left older node kind)
  runs_on (Nothing ∷ later) u = runs_on later u.1 ∙ less_0_more (polls_in later) (left older node kind)

module _ (carried : List Order) (node : Node) (kind : Kind) (lease : ℕ) where
  just_opened : left (Open node kind lease ∷ carried) node kind ≡ some lease
  unfolding left
  just_opened = rw (same_self node kind)

  runs : (later : List Order) → Unconcerned later node kind → left (later ++ Open node kind lease ∷ carried) node kind ≡ some (lease - polls_in later)
  runs later u = runs_on (Open node kind lease ∷ carried) node kind later u ∙ ap (less_by (polls_in later)) just_opened

  falls_due : (m : ℕ) → eqb (lease - m) 0 ≡ leb lease m
  falls_due m = go (leb lease m) refl
    where
      go : (b : Bool) → leb lease m ≡ b → eqb (lease - m) 0 ≡ b
      go true h = let l : lease ≤ m = leb-true lease m h in eq-eqb (lease - m) 0 (omega (arith, l))
      go false h = let l : m < lease = leb-false lease m h in ne_eqb (lease - m) 0 (λ e. omega (arith, l, e))

pub handover : Handover
handover = record {
  each-answer = λ orders. each orders empty [] at-start;
  stands = λ orders. (left_by_lem orders).1;
  one_place = λ orders node kind. one_place _ _ _ (kind_not_0 kind) (table_after empty orders) (left_by_lem orders).0.1;
  nothing_else = λ orders. held-count (table_after empty orders) (carried_out [] orders) (left_by_lem orders);
  lowest_first = change_lowest;
  the_list = λ orders room h. lists (table_after empty orders) (carried_out [] orders) (left_by_lem orders) room h;
  since = λ older later node kind u. runs_on older node kind later u;
  the_lease = λ carried later node kind lease u. runs carried node kind lease later u;
  due = λ carried later node kind lease u. ap is_due (runs carried node kind lease later u) ∙ falls_due carried node kind lease (polls_in later);
}
