-- 01, Frames on the wire: "The checksum is 255 minus (the sum of all body bytes before it, modulo 256)."
use Rattle.std.specs.Prelude.{ℕ, ◌+◌, ◌-◌, ◌%◌, List, [], ◌∷◌}

unfoldable pub sum : List ℕ → ℕ
sum [] = 0
sum (b ∷ bytes) = b + sum bytes

unfoldable pub checksum_of : List ℕ → ℕ
checksum_of bytes = 255 - sum bytes % 256
