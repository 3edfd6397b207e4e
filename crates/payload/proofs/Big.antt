-- Big-endian numbers, over any count of bytes. Assumes nothing.
use mathlib.Core.Path.{◌≡◌, refl, sym, ap, ◌∙◌}
use mathlib.Core.List.{List, [], ◌∷◌, ◌++◌}
use Prim.Native.Nat.{ℕ, zero, suc, ◌+◌, ◌*◌, ◌/◌, ◌%◌, ◌^◌, ◌≤◌, ◌<◌}
use native.Mathlib.Nat.{pow-succ', pow-zero, div-one, zero-mul, zero-add, add-mul, mul_assoc, add_assoc, one-le-pow, mod-one, mod-lt, mod-eq_of_lt, mul-add-div_right, mul-add-mod_self_right}
use native.Mathlib.Omega.{arith}
use lib.Arith.{digits_lt, digits_div, mod-mul}
use lib.ListN.{length, get_or, take, drop, length-append, length-drop}
use lib.Pow.{pow-add}
use lib.Seq.{take-add, drop-drop, drop-cons, length-take-le, get_or-drop}
use Rattle.std.specs.Int.{bytes_high_first}
use Rattle.payload.specs.Field.{big, big_endian, Bytes}

power_pos : (count : ℕ) → 0 < 256 ^ count
power_pos count = one-le-pow count 256 (omega arith)

pub length-big_endian : (count n : ℕ) → length (big_endian count n) ≡ count
unfolding big_endian
length-big_endian zero n = refl
length-big_endian (suc count) n = ap suc (length-big_endian count n)

pub big_endian_bytes : (count n : ℕ) → Bytes (big_endian count n)
unfolding big_endian
big_endian_bytes zero n i = omega arith
big_endian_bytes (suc count) n zero = mod-lt _ (omega arith)
big_endian_bytes (suc count) n (suc i) = big_endian_bytes count n i

-- a part of bytes is bytes
pub take-bytes : (count : ℕ) (bytes : List ℕ) → Bytes bytes → Bytes (take count bytes)
take-bytes zero bytes h i = omega arith
take-bytes (suc count) [] h i = omega arith
take-bytes (suc count) (b ∷ bytes) h zero = h 0
take-bytes (suc count) (b ∷ bytes) h (suc i) = take-bytes count bytes (λ j. h (suc j)) i

pub drop-bytes : (count : ℕ) (bytes : List ℕ) → Bytes bytes → Bytes (drop count bytes)
drop-bytes count bytes h i = rw (get_or-drop count bytes i 0) (h (count + i))

-- written and read: what of the number the bytes have room for
pub big_of_big_endian_mod : (count n : ℕ) → big (big_endian count n) ≡ n % 256 ^ count
unfolding big big_endian
big_of_big_endian_mod zero n = rw pow-zero (sym (mod-one n))
big_of_big_endian_mod (suc count) n =
    rw (length-big_endian count n, big_of_big_endian_mod count n, pow-succ' 256 count) (sym (mod-mul n (omega arith) (power_pos count)))

pub big_of_big_endian : (count n : ℕ) → n < 256 ^ count → big (big_endian count n) ≡ n
big_of_big_endian count n h = big_of_big_endian_mod count n ∙ mod-eq_of_lt h

pub big_lt : (bytes : List ℕ) → Bytes bytes → big bytes < 256 ^ length bytes
unfolding big
big_lt [] h = rw pow-zero (omega arith)
big_lt (b ∷ bytes) h = rw (pow-succ' 256 (length bytes)) (digits_lt (h 0) (big_lt bytes (λ i. h (suc i))))

-- what lies above the bytes is not written
low : (count q n : ℕ) → big_endian count (q * 256 ^ count + n) ≡ big_endian count n
unfolding big_endian
low zero q n = refl
low (suc count) q n =
    let e : q * 256 ^ suc count + n ≡ q * 256 * 256 ^ count + n = simp (pow-succ' 256 count, mul_assoc) in
    let d : (q * 256 * 256 ^ count + n) / 256 ^ count % 256 ≡ n / 256 ^ count % 256 =
    rw (mul-add-div_right (power_pos count) (q * 256) n) (mul-add-mod_self_right q 256 (n / 256 ^ count)) in
    rw (e, d, low count (q * 256) n)

-- read and written
pub big_endian_of_big : (bytes : List ℕ) → Bytes bytes → big_endian (length bytes) (big bytes) ≡ bytes
unfolding big big_endian
big_endian_of_big [] h = refl
big_endian_of_big (b ∷ bytes) h =
    let rest : Bytes bytes = λ i. h (suc i) in
    rw (digits_div b (big_lt bytes rest), mod-eq_of_lt (h 0), low (length bytes) b (big bytes), big_endian_of_big bytes rest)

-- one list after another
pub big-append : (xs ys : List ℕ) → big (xs ++ ys) ≡ big xs * 256 ^ length ys + big ys
unfolding big
big-append [] ys = simp (zero-mul, zero-add)
big-append (x ∷ xs) ys = rw (length-append xs ys, big-append xs ys) (simp (pow-add, add-mul, mul_assoc, add_assoc))

-- a number at a place is made of the number of its first bytes and that of the rest
pub big_split : (l : List ℕ) (place a b : ℕ) → place + (a + b) ≤ length l
    → big (take (a + b) (drop place l)) ≡ big (take a (drop place l)) * 256 ^ b + big (take b (drop (place + a) l))
big_split l place a b h =
    let long : b ≤ length (drop (place + a) l) = simp length-drop (omega arith) in
    rw (take-add a b (drop place l), big-append (take a (drop place l)) (take b (drop a (drop place l))), drop-drop a place l, length-take-le b (drop (place + a) l) long)

pub big-one : (l : List ℕ) (place : ℕ) → place < length l → big (take 1 (drop place l)) ≡ get_or l place 0
unfolding big
big-one l place h = rw (drop-cons l place 0 h) (omega arith)

-- the number that the library makes of one, two and four bytes at the front of a list, and the bytes that it makes of a number
pub big_1 : (l : List ℕ) → 1 ≤ length l → get_or l 0 0 ≡ big (take 1 l)
big_1 l h = sym (big-one l 0 h)

pub big_2 : (l : List ℕ) → 2 ≤ length l → get_or l 0 0 * 256 + get_or l 1 0 ≡ big (take 2 l)
big_2 l h =
    let whole = big_split l 0 1 1 h in
    let first = big-one l 0 (omega arith) in
    let second = big-one l 1 (omega arith) in
    omega (arith, whole, first, second)

pub big_4 : (l : List ℕ) → 4 ≤ length l
    → get_or l 0 0 * 256 ^ 3 + get_or l 1 0 * 256 ^ 2 + get_or l 2 0 * 256 + get_or l 3 0 ≡ big (take 4 l)
big_4 l h =
    let whole = big_split l 0 2 2 h in
    let front = big_split l 0 1 1 (omega arith) in
    let back = big_split l 2 1 1 (omega arith) in
    let first = big-one l 0 (omega arith) in
    let second = big-one l 1 (omega arith) in
    let third = big-one l 2 (omega arith) in
    let fourth = big-one l 3 (omega arith) in
    omega (arith, whole, front, back, first, second, third, fourth)

pub big_endian_is : (count n : ℕ) → bytes_high_first count n ≡ big_endian count n
unfolding big_endian
big_endian_is zero n = refl
big_endian_is (suc zero) n = simp (pow-zero, div-one)
big_endian_is (suc (suc count)) n = ap (λ (l : List ℕ). n / 256 ^ suc count % 256 ∷ l) (big_endian_is (suc count) n)
