-- 02 (i): a node, an entry as C lends it, and a table of places.
use Rattle.std.specs.Prelude.{ℕ, suc, Bool, true, false, cond, not, ◌&&◌, ◌||◌, List, [], ◌∷◌, leb, eqb, replicate}
use Rattle.std.proofs.Math.Option.{Option, none, some}
use Rattle.board.specs.declared.entries.Bus.{Bus}
use Rattle.board.specs.declared.entries.Bus.TheVariants.{Serial, I2c}
use Rattle.board.specs.declared.entries.Kind.{Kind}
use Rattle.board.specs.declared.entries.Kind.TheVariants.{Valve, Calibration}
use Rattle.board.specs.declared.entries.Node.{Node}
use Rattle.board.specs.declared.entries.Entry.{Entry}

-- "A node is a bus (serial or I2C) and an address (0 to 254, 0 to 127)": the last address of a bus
abbrev pub last_address : Bus → ℕ
last_address Serial = 254
last_address I2c = 127

abbrev pub node_in_range : Node → Bool
node_in_range node = leb node.address (last_address node.bus)

-- ---- an entry, by its four numbers; a fifth, spare, is nobody's and is never looked at
-- the numbers that stand for a bus and a kind
abbrev pub bus_number : Bus → ℕ
bus_number Serial = 0
bus_number I2c = 1

abbrev pub kind_number : Kind → ℕ
kind_number Valve = 1
kind_number Calibration = 2

-- the entry of a node and kind, with its polls left
abbrev pub entry_of : Node → Kind → ℕ → Entry
entry_of node kind left = record { kind = kind_number kind; bus = bus_number node.bus; address = node.address; spare = 0; left = left }

-- a place that was never held, or is freed: all its numbers are 0
abbrev pub free : Entry
free = record { kind = 0; bus = 0; address = 0; spare = 0; left = 0 }

abbrev pub is_free : Entry → Bool
is_free e = eqb e.kind 0

-- whether an entry has these numbers
unfoldable pub has : ℕ → ℕ → ℕ → Entry → Bool
has kind bus address e = eqb e.kind kind && (eqb e.bus bus && eqb e.address address)

-- whether an entry is that of a node and kind; whether it is one of the node's
abbrev pub is_of : Node → Kind → Entry → Bool
is_of node kind = has (kind_number kind) (bus_number node.bus) node.address

unfoldable pub on_node : Node → Entry → Bool
on_node node e = is_of node Valve e || is_of node Calibration e

-- "an entry out of range": a place is free, or its kind, its bus and its address on that bus are such as a node's entry has
unfoldable pub is_kind : ℕ → Bool
is_kind n = eqb n (kind_number Valve) || eqb n (kind_number Calibration)

unfoldable pub is_node : ℕ → ℕ → Bool
is_node bus address =
    eqb bus (bus_number Serial) && leb address (last_address Serial) || eqb bus (bus_number I2c) && leb address (last_address I2c)

unfoldable pub is_clear : Entry → Bool
is_clear e = eqb e.bus 0 && (eqb e.address 0 && eqb e.left 0)

unfoldable pub entry_in_range : Entry → Bool
entry_in_range e = cond (is_free e) (is_clear e) (is_kind e.kind && is_node e.bus e.address)

-- ---- a table of places
-- the table at the start: 32 free places
abbrev pub empty : List Entry
empty = replicate 32 free

-- the first place of which something holds, counted from 0; the number of places where there is none
unfoldable pub place_of : (Entry → Bool) → List Entry → ℕ
place_of f [] = 0
place_of f (e ∷ t) = cond {A = ℕ} (f e) 0 (suc (place_of f t))

-- whether something holds of a place
unfoldable pub holds : (Entry → Bool) → List Entry → Bool
holds f [] = false
holds f (e ∷ t) = f e || holds f t

-- the first entry of which something holds
unfoldable pub found : (Entry → Bool) → List Entry → Option Entry
found f [] = none
found f (e ∷ t) = cond (f e) (some e) (found f t)

-- the places of which something holds
unfoldable pub count : (Entry → Bool) → List Entry → ℕ
count f [] = 0
count f (e ∷ t) = cond {A = ℕ} (f e) (suc (count f t)) (count f t)

-- "the same node and kind twice": an entry stands again further on
unfoldable pub again : Entry → List Entry → Bool
again e t = not (is_free e) && holds (has e.kind e.bus e.address) t

-- a table that 2 does not refuse: no "entry out of range or the same node and kind twice"
unfoldable pub valid : List Entry → Bool
valid [] = true
valid (e ∷ t) = entry_in_range e && (not (again e t) && valid t)
