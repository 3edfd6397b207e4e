-- Both operands of the division are exact: single precision holds the difference and the scale without rounding. Assumes nothing.
use mathlib.Core.Path.{◌≡◌}
use mathlib.Core.Bool.{true, false}
use Prim.Native.Nat.{◌^◌, ◌<◌}
use native.Mathlib.Omega.{arith}
use lib.Dec.{leb-suc-zero}
use lib.IntN.{ℤ, pos, negsuc, nat_abs, ◌-ℤ◌}
use lib.Signed.{mag, lt_z}
use lib.Ieee.{binary32, of_int}
use lib.Ieee.Back.{round_whole}
use lib.Ieee.Exact.{HasValue}
use Rattle.reading.specs.Reading.{good_scale}
use Rattle.reading.proofs.SignedLaws.{sub_size}
use Rattle.reading.proofs.Scale.{good_size}

-- the float of an integer has its sign and, over 1, its size
abbrev pub Exact : ℤ → Type 0
Exact z = HasValue (of_int binary32 z) (lt_z z (pos 0)) (nat_abs z) 1

small_exact : (z : ℤ) → nat_abs z < 2 ^ 16 → Exact z
unfolding of_int
small_exact (pos n) h = rw (leb-suc-zero n) (round_whole binary32 false n (omega arith))
small_exact (negsuc n) h = round_whole binary32 true (nat_abs (negsuc n)) (omega arith)

pub operands_exact : (raw offset scale : ℤ) → mag raw < 2 ^ 15 → mag offset < 2 ^ 15 → good_scale scale ≡ true → Exact (raw -ℤ offset) × Exact scale
operands_exact raw offset scale r o g =
    (small_exact (raw -ℤ offset) (sub_size raw offset (2 ^ 15) r o), small_exact scale (omega (arith, (good_size scale g).1)))
