-- The orders by numbers, as C gives them: bus 0 is serial and 1 is I2C, kind 1 is a valve and 2 a temporary calibration.
use Rattle.std.specs.Prelude.{ℕ, Bool, cond, ◌&&◌, ◌||◌, eqb, Result, Ok, Err}
use Rattle.refusal.specs.declared.Refusal.{Refusal}
use Rattle.refusal.specs.declared.Refusal.TheVariants.{OutOfRange}
use Rattle.board.specs.declared.entries.Bus.{Bus}
use Rattle.board.specs.declared.entries.Bus.TheVariants.{Serial, I2c}
use Rattle.board.specs.declared.entries.Kind.{Kind}
use Rattle.board.specs.declared.entries.Kind.TheVariants.{Valve, Calibration}
use Rattle.board.specs.declared.entries.Node.{Node}
use Rattle.board.specs.declared.orders.Order.{Order}
use Rattle.board.specs.declared.orders.Order.TheVariants.{Open, Close, Restart, Unnamed}
use Rattle.board.specs.Entries.{bus_number, kind_number, is_kind}

unfoldable pub is_bus : ℕ → Bool
is_bus n = eqb n (bus_number Serial) || eqb n (bus_number I2c)

-- the bus and the kind that a number stands for, where it stands for one
unfoldable pub bus_of : ℕ → Bus
bus_of n = cond (eqb n (bus_number Serial)) Serial I2c

unfoldable pub kind_of : ℕ → Kind
kind_of n = cond (eqb n (kind_number Valve)) Valve Calibration

-- the code's answer to a number: the bus or kind, or 12
unfoldable pub bus_by : ℕ → Result Bus Refusal
bus_by n = cond (is_bus n) (Ok (bus_of n)) (Err OutOfRange)

unfoldable pub kind_by : ℕ → Result Kind Refusal
kind_by n = cond (is_kind n) (Ok (kind_of n)) (Err OutOfRange)

abbrev pub node_of : ℕ → ℕ → Node
node_of bus address = record { bus = bus_of bus; address = address }

-- a number that stands for no bus or no kind makes an order that is refused with 12
abbrev pub open_by : ℕ → ℕ → ℕ → ℕ → Order
open_by bus address kind lease = cond (is_bus bus && is_kind kind) (Open (node_of bus address) (kind_of kind) lease) Unnamed

abbrev pub close_by : ℕ → ℕ → ℕ → Order
close_by bus address kind = cond (is_bus bus && is_kind kind) (Close (node_of bus address) (kind_of kind)) Unnamed

abbrev pub restart_by : ℕ → ℕ → Order
restart_by bus address = cond (is_bus bus) (Restart (node_of bus address)) Unnamed
