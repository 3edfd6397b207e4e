-- 02 (i): what every series of orders from the empty table answers and leaves, told from the orders alone: no table, no place. Only where a
-- new entry goes is told of a table.
use Rattle.std.specs.Prelude.{ℕ, ◌+◌, ◌-◌, ◌≤◌, ◌<◌, ◌≡◌, Bool, true, false, cond, not, ◌&&◌, List, [], ◌∷◌, ◌++◌, leb, eqb, length, get_or}
use Rattle.std.proofs.Math.Option.{Option, none, some}
use Rattle.refusal.specs.Refusals.{number, Answered, served, refused, in_order}
use Rattle.board.specs.declared.entries.Kind.{Kind}
use Rattle.board.specs.declared.entries.Node.{Node}
use Rattle.board.specs.declared.entries.Entry.{Entry}
use Rattle.board.specs.declared.orders.Order.{Order}
use Rattle.board.specs.declared.orders.Order.TheVariants.{Open, Close, Restart, Poll, Unnamed, Nothing}
use Rattle.board.specs.Entries.{bus_number, kind_number, entry_of, free, is_free, is_of, empty, found, count}
use Rattle.board.specs.Orders.{order_in_range, change}
use Rattle.board.specs.Listing.{Standing, listed, laid, list}

-- the same node, the same node and kind
abbrev pub same_node : Node → Node → Bool
same_node x y = eqb (bus_number x.bus) (bus_number y.bus) && eqb x.address y.address

abbrev pub same : Node → Kind → Node → Kind → Bool
same x kind y other = eqb (kind_number kind) (kind_number other) && same_node x y

-- ---- orders that were carried out, the newest first
-- one poll: it takes one from a lease above 0
abbrev pub polled : Option ℕ → Option ℕ
polled none = none
polled (some n) = some (n - 1)

-- the polls left of a node's valve or calibration, where it is open: the last order that concerns it says so, and each poll since
-- takes one
unfoldable pub left : List Order → Node → Kind → Option ℕ
left [] node kind = none
left (Open other k lease ∷ older) node kind = cond (same other k node kind) (some lease) (left older node kind)
left (Close other k ∷ older) node kind = cond (same other k node kind) none (left older node kind)
left (Restart other ∷ older) node kind = cond (same_node other node) none (left older node kind)
left (Poll ∷ older) node kind = polled (left older node kind)
left (Unnamed ∷ older) node kind = left older node kind
left (Nothing ∷ older) node kind = left older node kind

-- "an entry still open is due at exactly its last poll (0 left) and stays due until closed or renewed"
abbrev pub is_due : Option ℕ → Bool
is_due none = false
is_due (some n) = eqb n 0

-- what stands on the board: the entries opened and not yet closed
abbrev pub entry_if : Node → Kind → Option ℕ → Option Entry
entry_if node kind none = none
entry_if node kind (some n) = some (entry_of node kind n)

abbrev pub standing_after : List Order → Standing
standing_after carried node kind = entry_if node kind (left carried node kind)

-- the places that they hold
abbrev pub held : List Order → ℕ
held carried = length (listed (standing_after carried))

-- ---- any orders
-- "when a new entry is wanted"
abbrev pub is_none : Option ℕ → Bool
is_none none = true
is_none (some n) = false

abbrev pub is_new : List Order → Order → Bool
is_new carried (Open node kind lease) = is_none (left carried node kind)
is_new carried (Close node kind) = false
is_new carried (Restart node) = false
is_new carried Poll = false
is_new carried Unnamed = false
is_new carried Nothing = false

-- the answer to an order after those carried out: 12, then 19; never 1 or 2
unfoldable pub answer_to : List Order → Order → Answered (Unit {0})
answer_to carried order =
    in_order ((not (order_in_range order), number 12) ∷ (is_new carried order && eqb (held carried) 32, number 19) ∷ []) tt

-- those carried out, after one more order: a refused one is not
abbrev pub joined : Answered (Unit {0}) → Order → List Order → List Order
joined (served u) order carried = order ∷ carried
joined (refused n) order carried = carried

-- a series, the oldest order first: which of its orders are carried out, and what each is answered
unfoldable pub carried_out : List Order → List Order → List Order
carried_out carried [] = carried
carried_out carried (order ∷ orders) = carried_out (joined (answer_to carried order) order carried) orders

unfoldable pub answers_to : List Order → List Order → List (Answered (Unit {0}))
answers_to carried [] = []
answers_to carried (order ∷ orders) = answer_to carried order ∷ answers_to (joined (answer_to carried order) order carried) orders

-- ---- the same series through the table, by the contracts of the code
unfoldable pub table_after : List Entry → List Order → List Entry
table_after t [] = t
table_after t (order ∷ orders) = table_after (change t order).1 orders

unfoldable pub answers : List Entry → List Order → List (Answered (Unit {0}))
answers t [] = []
answers t (order ∷ orders) = (change t order).0 ∷ answers (change t order).1 orders

-- ---- the parts of the claim
-- an order that opens, renews or closes the entry of a node and kind
abbrev pub concerns : Order → Node → Kind → Bool
concerns (Open other k lease) node kind = same other k node kind
concerns (Close other k) node kind = same other k node kind
concerns (Restart other) node kind = same_node other node
concerns Poll node kind = false
concerns Unnamed node kind = false
concerns Nothing node kind = false

abbrev pub Unconcerned : List Order → Node → Kind → Type 0
Unconcerned [] node kind = Unit {0}
Unconcerned (order ∷ orders) node kind = (concerns order node kind ≡ false) × Unconcerned orders node kind

abbrev pub is_poll : Order → ℕ
is_poll (Open node kind lease) = 0
is_poll (Close node kind) = 0
is_poll (Restart node) = 0
is_poll Poll = 1
is_poll Unnamed = 0
is_poll Nothing = 0

abbrev pub polls_in : List Order → ℕ
polls_in [] = 0
polls_in (order ∷ orders) = is_poll order + polls_in orders

-- the polls left, less those since
abbrev pub less_by : ℕ → Option ℕ → Option ℕ
less_by polls none = none
less_by polls (some n) = some (n - polls)

-- The claim, over every series of orders from the empty table. The proof is `handover` of proofs/Handover.antt.
pub record Handover : Type 0 where
  -- each order is answered as the orders before it say: 12, 19 or done; so 1 and 2 never come
  pub each-answer : (orders : List Order) → answers empty orders ≡ answers_to [] orders
  -- what stands in the table is what was opened and not yet closed, with the polls left
  pub stands : (orders : List Order) (node : Node) (kind : Kind)
      → found (is_of node kind) (table_after empty orders) ≡ standing_after (carried_out [] orders) node kind
  -- "takes no second place"
  pub one_place : (orders : List Order) (node : Node) (kind : Kind) → count (is_of node kind) (table_after empty orders) ≤ 1
  -- and nothing else stands there
  pub nothing_else : (orders : List Order) → count (λ e. not (is_free e)) (table_after empty orders) ≡ held (carried_out [] orders)
  -- "A freed place is used again, the lowest first": where an order takes a free place, no lower place was free
  pub lowest_first : (t : List Entry) (order : Order) (place lower : ℕ) → is_free (get_or t place free) ≡ true
      → is_free (get_or (change t order).1 place free) ≡ false → lower < place → is_free (get_or t lower free) ≡ false
  -- the list, in enough room
  pub the_list : (orders : List Order) (room : List Entry) → held (carried_out [] orders) ≤ length room
      → list (table_after empty orders) room
      ≡ (served (held (carried_out [] orders)), laid (listed (standing_after (carried_out [] orders))) room)
  -- orders that do not concern an entry change nothing of it but the polls left: the last one that does has the word
  pub since : (older later : List Order) (node : Node) (kind : Kind) → Unconcerned later node kind
      → left (later ++ older) node kind ≡ less_by (polls_in later) (left older node kind)
  -- so a lease runs by the polls since it was opened or renewed; the entry is due from the last of them on, and not before
  pub the_lease : (carried later : List Order) (node : Node) (kind : Kind) (lease : ℕ) → Unconcerned later node kind
      → left (later ++ Open node kind lease ∷ carried) node kind ≡ some (lease - polls_in later)
  pub due : (carried later : List Order) (node : Node) (kind : Kind) (lease : ℕ) → Unconcerned later node kind
      → is_due (left (later ++ Open node kind lease ∷ carried) node kind) ≡ leb lease (polls_in later)
