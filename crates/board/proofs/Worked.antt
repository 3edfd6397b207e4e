-- Worked examples of the definitions, by computing. Assumes nothing.
use mathlib.Core.Path.{◌≡◌, refl}
use mathlib.Core.List.{List, [], ◌∷◌}
use Rattle.refusal.specs.Refusals.{number, served, refused}
use Rattle.board.specs.declared.entries.Bus.TheVariants.{Serial, I2c}
use Rattle.board.specs.declared.entries.Kind.TheVariants.{Valve, Calibration}
use Rattle.board.specs.declared.entries.Node.{Node}
use Rattle.board.specs.declared.orders.Order.{Order}
use Rattle.board.specs.declared.orders.Order.TheVariants.{Open, Close, Restart, Poll}
use Rattle.board.specs.Entries.{entry_of, free, has, on_node, is_kind, is_node, is_clear, entry_in_range, empty, place_of, holds, found, again, valid}
use Rattle.board.specs.Orders.{opened, freed, change}
use Rattle.board.specs.Listing.{standing_in, by_address, listed}
use Rattle.board.specs.Series.{left, answer_to, carried_out, standing_after, table_after, answers}

abbrev serial5 : Node
serial5 = record { bus = Serial; address = 5 }

abbrev board3 : Node
board3 = record { bus = I2c; address = 3 }

-- a calibration for two polls, a valve for one, two polls: the valve is due after one, the calibration after both
abbrev night : List Order
night = Open serial5 Calibration 2 ∷ Open board3 Valve 1 ∷ Poll ∷ Open serial5 Valve 7 ∷ Close serial5 Calibration ∷ Open serial5 Calibration 2 ∷ Poll ∷ Poll ∷ []

-- the place of the closed entry is used again; the valve on I2C stays in the second
night-table : table_after empty night
    ≡ entry_of serial5 Calibration 0 ∷ entry_of board3 Valve 0 ∷ entry_of serial5 Valve 5 ∷ free ∷ free ∷ free ∷ free ∷ free ∷ free ∷ free ∷ free ∷ free ∷ free ∷ free ∷ free ∷ free ∷ free ∷ free ∷ free ∷ free ∷ free ∷ free ∷ free ∷ free ∷ free ∷ free ∷ free ∷ free ∷ free ∷ free ∷ free ∷ free ∷ []
unfolding table_after change opened freed valid entry_in_range is_clear is_kind is_node again has on_node place_of holds
night-table = refl

-- the list: serial first, the valve before the calibration
night-list : listed (standing_in (table_after empty night)) ≡ entry_of serial5 Valve 5 ∷ entry_of serial5 Calibration 0 ∷ entry_of board3 Valve 0 ∷ []
unfolding table_after change opened freed valid entry_in_range is_clear is_kind is_node again has on_node place_of holds listed by_address found
night-list = refl

-- the same from the orders alone
night-standing : listed (standing_after (carried_out [] night)) ≡ entry_of serial5 Valve 5 ∷ entry_of serial5 Calibration 0 ∷ entry_of board3 Valve 0 ∷ []
unfolding carried_out answer_to left listed by_address
night-standing = refl

-- address 255 is none, and a lease of 0 neither
night_refused : answers empty (Open (record { bus = Serial; address = 255 }) Valve 1 ∷ Open (record { bus = I2c; address = 128 }) Valve 1 ∷ Open serial5 Valve 0 ∷ Restart serial5 ∷ [])
    ≡ refused (number 12) ∷ refused (number 12) ∷ refused (number 12) ∷ served tt ∷ []
unfolding answers change opened freed valid entry_in_range is_clear is_kind is_node again has on_node place_of holds
night_refused = refl
