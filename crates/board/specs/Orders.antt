-- 02 (i): the orders on the board, what each answers and what table it leaves.
use Rattle.std.specs.Prelude.{ℕ, ◌-◌, Bool, true, false, cond, not, ◌&&◌, List, [], ◌∷◌, map, leb, eqb, length, set}
use Rattle.refusal.specs.Refusals.{number, number_in, Answered, served, refused, in_order}
use Rattle.board.specs.declared.entries.Kind.{Kind}
use Rattle.board.specs.declared.entries.Node.{Node}
use Rattle.board.specs.declared.entries.Entry.{Entry}
use Rattle.board.specs.declared.orders.Order.{Order}
use Rattle.board.specs.declared.orders.Order.TheVariants.{Open, Close, Restart, Poll, Unnamed, Nothing}
use Rattle.board.specs.Entries.{node_in_range, entry_of, free, is_free, is_of, on_node, place_of, holds, valid}

-- the answer to an order, and the table after it
abbrev pub Outcome : Type 0
Outcome = Answered (Unit {0}) × List Entry

-- "with a lease of 1 to 65,535 polls"
abbrev pub lease_in_range : ℕ → Bool
lease_in_range lease = leb 1 lease && leb lease 65535

-- "12 for a lease or address outside its range"; numbers from C that name no bus, kind, request or command are 12 as well
abbrev pub order_in_range : Order → Bool
order_in_range (Open node kind lease) = node_in_range node && lease_in_range lease
order_in_range (Close node kind) = node_in_range node
order_in_range (Restart node) = node_in_range node
order_in_range Poll = true
order_in_range Unnamed = false
order_in_range Nothing = true

-- "Opening an entry already there renews its lease and takes no second place. A freed place is used again, the lowest first";
-- "19 when a new entry is wanted and all 32 places are held"
unfoldable pub opened : Node → Kind → ℕ → List Entry → Outcome
opened node kind lease t =
    cond (holds (is_of node kind) t) (served tt, set t (place_of (is_of node kind) t) (entry_of node kind lease))
    (cond (holds is_free t) (served tt, set t (place_of is_free t) (entry_of node kind lease)) (refused (number 19), t))

-- a place is freed where something holds of its entry
unfoldable pub freed : (Entry → Bool) → Entry → Entry
freed f e = cond (f e) free e

-- "Each poll takes one from every lease above 0"; a difference of naturals is never below 0
abbrev pub tick : Entry → Entry
tick e = record { kind = e.kind; bus = e.bus; address = e.address; spare = e.spare; left = e.left - 1 }

-- an order carried out; "closing what isn't there does nothing", and "a restart [closes] both"
abbrev pub done : Order → List Entry → Outcome
done (Open node kind lease) t = opened node kind lease t
done (Close node kind) t = (served tt, map (freed (is_of node kind)) t)
done (Restart node) t = (served tt, map (freed (on_node node)) t)
done Poll t = (served tt, map tick t)
done Unnamed t = (served tt, t)
done Nothing t = (served tt, t)

-- what passes is carried out, and a refusal changes nothing
abbrev pub or_unchanged : Answered Outcome → List Entry → Outcome
or_unchanged (served outcome) t = outcome
or_unchanged (refused n) t = (refused n, t)

-- "Refusals, in order: 1 for a table not of 32 places; 2 for one with an entry out of range or the same node and kind twice; 12 for a
-- lease or address outside its range; 19 when a new entry is wanted and all 32 places are held": 19 comes from `opened`
unfoldable pub change : List Entry → Order → Outcome
change t order =
    or_unchanged (in_order ((not (eqb (length t) 32), number 1) ∷ (not (valid t), number 2) ∷ (not (order_in_range order), number 12) ∷ []) (done order t)) t

-- ---- the code's answers
-- as C gets it: the refusal's number, 0 for none
abbrev pub number_if : Answered (Unit {0}) → ℕ
number_if (served u) = 0
number_if (refused n) = number_in n

abbrev pub numbered : Outcome → ℕ × List Entry
numbered outcome = (number_if outcome.0, outcome.1)
