-- The lease that an argument of the program replay says in decimal digits.
use Rattle.std.specs.Prelude.{ℕ, ◌+◌, ◌-◌, ◌*◌, min, Bool, true, cond, ◌&&◌, List, [], ◌∷◌, leb}

-- 0 to 9 in ASCII
unfoldable pub is_digit : ℕ → Bool
is_digit b = leb 48 b && leb b 57

unfoldable pub all_digits : List ℕ → Bool
all_digits [] = true
all_digits (b ∷ text) = is_digit b && all_digits text

-- the number that digits say, after those that said n
unfoldable pub value_from : ℕ → List ℕ → ℕ
value_from n [] = n
value_from n (b ∷ text) = value_from (n * 10 + (b - 48)) text

-- 65,536 for every number above 65,535, and 0 for a text with another byte in it. An empty text says 0.
unfoldable pub lease_of : List ℕ → ℕ
lease_of text = cond {A = ℕ} (all_digits text) (min 65536 (value_from 0 text)) 0
