-- The loop's invariant: the entries passed are made.
use Rattle.std.proofs.Common.{◌≡◌, ℕ, ◌<◌, length, get_or}
use Rattle.i2c.specs.Crc.{bit_steps}
use Rattle.i2c.proofs.crc.Table+8.doubled.Given as goal

abbrev pub invariant-loop-i : goal.invariant-loop-i
invariant-loop-i l = (length l.entries ≡ 256) × ((x : ℕ) → x < l.i → get_or l.entries x 0 ≡ bit_steps 16 x)
