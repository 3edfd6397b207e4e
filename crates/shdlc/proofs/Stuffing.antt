-- Laws of stuffing: its length, its parts, what it leaves as it is, and that unstuffing gives back what was stuffed. Assumes nothing.
use mathlib.Core.Path.{◌≡◌, refl, sym, ap, subst, ◌∙◌}
use mathlib.Core.Bool.{Bool, true, false, cond, ◌||◌}
use mathlib.Core.List.{List, [], ◌∷◌, ◌++◌, append_assoc, append-nil}
use mathlib.Core.Option.{Option, none, some}
use Prim.Native.Nat.{ℕ, ◌+◌, ◌*◌, ◌≤◌, ◌<◌}
use native.Mathlib.Omega.{arith}
use lib.Bits.{bit_or, bit_xor}
use lib.Dec.{eqb}
use borrow.Author.Tests.{eqb-true}
use lib.ListN.{length, get_or, drop, length-append}
use Rattle.refusal.specs.Refusals.{served}
use Rattle.shdlc.specs.Stuffing.{escapes, right_of, sent, stuff_byte, stuff, prepend, unstuff_from, unstuff}
use Rattle.refusal.proofs.Rest.{rest_here}
use Rattle.refusal.proofs.Values.{same_at}

-- how a byte is sent, from a test of it
module _ (b : ℕ) {test : Bool} (e : stuff_byte b ≡ cond test (0x7D ∷ bit_xor b 0x20 ∷ []) (b ∷ [])) where
  pub sent_escaped : test ≡ true → stuff_byte b ≡ 0x7D ∷ bit_xor b 0x20 ∷ []
  sent_escaped h = e ∙ ap (λ (t : Bool). cond t (0x7D ∷ bit_xor b 0x20 ∷ []) (b ∷ [])) h

  pub sent_plain : test ≡ false → stuff_byte b ≡ b ∷ []
  sent_plain h = e ∙ ap (λ (t : Bool). cond t (0x7D ∷ bit_xor b 0x20 ∷ []) (b ∷ [])) h

-- how many bytes it takes, from such a test
pub byte_size : (b : ℕ) (test : Bool) → stuff_byte b ≡ cond test (0x7D ∷ bit_xor b 0x20 ∷ []) (b ∷ []) → length (stuff_byte b) ≡ cond {A = ℕ} test 2 1
byte_size b true e = ap length e
byte_size b false e = ap length e

sent_short : (b : ℕ) (row : Option ℕ) → (1 ≤ length (sent b row)) × (length (sent b row) ≤ 2)
sent_short b none = (omega arith, omega arith)
sent_short b (some e) = (omega arith, omega arith)

pub byte_short : (b : ℕ) → (1 ≤ length (stuff_byte b)) × (length (stuff_byte b) ≤ 2)
unfolding stuff_byte
byte_short b = sent_short b (right_of escapes b)

pub stuff_short : (bytes : List ℕ) → length (stuff bytes) ≤ 2 * length bytes
unfolding stuff
stuff_short [] = omega arith
stuff_short (b ∷ bytes) = rw length-append (omega (arith, (byte_short b).1, stuff_short bytes))

pub stuff_long : (bytes : List ℕ) → length bytes ≤ length (stuff bytes)
unfolding stuff
stuff_long [] = omega arith
stuff_long (b ∷ bytes) = rw length-append (omega (arith, (byte_short b).0, stuff_long bytes))

pub stuff_nothing : stuff [] ≡ []
unfolding stuff
stuff_nothing = refl

pub stuff-append : (xs ys : List ℕ) → stuff (xs ++ ys) ≡ stuff xs ++ stuff ys
unfolding stuff
stuff-append [] ys = refl
stuff-append (x ∷ xs) ys = ap (λ (l : List ℕ). stuff_byte x ++ l) (stuff-append xs ys) ∙ sym (append_assoc (stuff_byte x) (stuff xs) (stuff ys))

pub stuff-one : (b : ℕ) → stuff (b ∷ []) ≡ stuff_byte b
unfolding stuff
stuff-one b = append-nil (stuff_byte b)

-- the byte at a place, and the bytes after it
pub stuff_here : (l : List ℕ) (i : ℕ) → i < length l → stuff (drop i l) ≡ stuff_byte (get_or l i 0) ++ stuff (drop (i + 1) l)
unfolding stuff
stuff_here l i h = rw (rest_here l i h)

pub length_here : (l : List ℕ) (i : ℕ) → i < length l → length (stuff (drop i l)) ≡ length (stuff_byte (get_or l i 0)) + length (stuff (drop (i + 1) l))
length_here l i h = rw (stuff_here l i h, length-append)

-- what holds of the four bytes that are stuffed, and of every other, holds of each byte
pub each_byte : (P : ℕ → Type 0) → P 0x7E → P 0x7D → P 0x11 → P 0x13
    → ((b : ℕ) → eqb b 0x7E ≡ false → eqb b 0x7D ≡ false → eqb b 0x11 ≡ false → eqb b 0x13 ≡ false → P b) → (b : ℕ) → P b
each_byte P delimiter escape xon xoff plain b = go (eqb b 0x7E) (eqb b 0x7D) (eqb b 0x11) (eqb b 0x13) refl refl refl refl
  where
    is : (k : ℕ) → eqb b k ≡ true → P k → P b
    is k e h = subst P (sym (eqb-true b k e)) h

    go : (x y z w : Bool) → eqb b 0x7E ≡ x → eqb b 0x7D ≡ y → eqb b 0x11 ≡ z → eqb b 0x13 ≡ w → P b
    go true y z w p q r s = is 0x7E p delimiter
    go false true z w p q r s = is 0x7D q escape
    go false false true w p q r s = is 0x11 r xon
    go false false false true p q r s = is 0x13 s xoff
    go false false false false p q r s = plain b p q r s

-- how a byte is sent can be told from how many bytes it takes
sent_as : (b : ℕ) → stuff_byte b ≡ cond (eqb (length (stuff_byte b)) 2) (0x7D ∷ bit_xor b 0x20 ∷ []) (b ∷ [])
unfolding stuff_byte
sent_as =
    each_byte (λ b. stuff_byte b ≡ cond (eqb (length (stuff_byte b)) 2) (0x7D ∷ bit_xor b 0x20 ∷ []) (b ∷ [])) refl refl refl refl
    (λ b p q r s. simp (p, q, r, s))

sent_by : (b : ℕ) (test : Bool) → length (stuff_byte b) ≡ cond {A = ℕ} test 2 1 → stuff_byte b ≡ cond test (0x7D ∷ bit_xor b 0x20 ∷ []) (b ∷ [])
sent_by b true e = sent_as b ∙ rw e
sent_by b false e = sent_as b ∙ rw e

-- the four bytes that are stuffed, as two ranges: 11 and 13 differ only in the bit 2
size_by_ranges : (b : ℕ) → b < 256 → length (stuff_byte b) ≡ cond {A = ℕ} (eqb (bit_or b 2) 0x13 || (eqb b 0x7D || eqb b 0x7E)) 2 1
unfolding stuff_byte
size_by_ranges =
    same_at 256 (λ b. length (stuff_byte b)) (λ b. cond {A = ℕ} (eqb (bit_or b 2) 0x13 || (eqb b 0x7D || eqb b 0x7E)) 2 1) refl

pub sent_by_ranges : (b : ℕ) → b < 256
    → stuff_byte b ≡ cond (eqb (bit_or b 2) 0x13 || (eqb b 0x7D || eqb b 0x7E)) (0x7D ∷ bit_xor b 0x20 ∷ []) (b ∷ [])
sent_by_ranges b h = sent_by b (eqb (bit_or b 2) 0x13 || (eqb b 0x7D || eqb b 0x7E)) (size_by_ranges b h)

-- a byte that is sent comes back, and the bytes after it stand where it ends
byte_back : (place : ℕ) (bytes : List ℕ) (b : ℕ)
    → unstuff_from place (stuff_byte b ++ bytes) ≡ prepend b (unstuff_from (place + length (stuff_byte b)) bytes)
unfolding stuff_byte unstuff_from
byte_back place bytes =
    each_byte (λ b. unstuff_from place (stuff_byte b ++ bytes) ≡ prepend b (unstuff_from (place + length (stuff_byte b)) bytes)) refl refl refl refl
    (λ b p q r s. simp (p, q, r, s))

unstuff-from : (bytes : List ℕ) (place : ℕ) → unstuff_from place (stuff bytes) ≡ served bytes
unfolding stuff unstuff_from prepend
unstuff-from [] place = refl
unstuff-from (b ∷ bytes) place = byte_back place (stuff bytes) b ∙ ap (prepend b) (unstuff-from bytes (place + length (stuff_byte b)))

pub unstuff-stuff : (bytes : List ℕ) → unstuff (stuff bytes) ≡ served bytes
unstuff-stuff bytes = unstuff-from bytes 0
