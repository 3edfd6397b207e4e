-- `lines::digits_in_bytes` meets its contract: what was written at the start of the array. Assumes nothing.
use Prim.Native.Nat.{ℕ, ◌+◌, ◌≤◌}
use native.Mathlib.Omega.{arith}
use mathlib.Core.Path.{◌≡◌}
use mathlib.Core.List.{List}
use lib.ListN.{length, take}
use Rattle.refusal.specs.Room.{overlay}
use Rattle.refusal.proofs.Room.{take-overlay, overlay-holds}
use Rattle.lines.proofs.Decimal.{decimal_u32}
use Rattle.lines.proofs.digits_in_bytes.Goals as goal

-- a text at the start of a room, read again
again : (text room after : List ℕ) (n : ℕ) → (n ≡ 0 + length text) × (after ≡ overlay room 0 text)
    → (take n after ≡ text) × (n ≡ length text) × (n ≤ length after)
again text room after n e =
    let same : n ≡ length text = omega (arith, e.0) in
    (rw (same, e.1) (take-overlay room text), same, rw (same, e.1) (overlay-holds room text))

pub put_decimal-count-requires : goal.put_decimal-count-requires
put_decimal-count-requires c = omega (arith, decimal_u32 c.args.n (omega arith))

pub returns : goal.returns
returns c = again _ _ _ _ c.put_decimal-count.ensures
