-- The noise of a stream that goes on, and the claim of specs/Noise.antt. Assumes nothing.
use Prim.Native.Nat.{ℕ, ◌+◌}
use native.Mathlib.Nat.{add-zero, zero-add, add_assoc}
use native.Mathlib.Omega.{arith}
use mathlib.Core.Path.{◌≡◌, refl, sym, ap, ◌∙◌}
use mathlib.Core.Bool.{Bool, true, false}
use mathlib.Core.List.{List, [], ◌∷◌, ◌++◌, map}
use lib.Dec.{eqb}
use lib.ListN.{length}
use Rattle.shdlc.specs.Stream.{Event, byte, mark, Place, outside, inside, next_byte, next, noise_in, noise_from, noise}
use Rattle.shdlc.specs.ReadBack.{Unbroken}
use Rattle.shdlc.specs.Noise.{NoiseBytes}
use Rattle.shdlc.proofs.Stream.{place_from}

-- a 7E is no noise, and a mark is no byte
pub delimiter : (place : Place) (b : ℕ) → eqb b 0x7E ≡ true → noise_in place (byte b) ≡ 0
unfolding noise_in
delimiter outside b e = rw e
delimiter (inside s) b e = refl

pub no_byte : (place : Place) → noise_in place mark ≡ 0
unfolding noise_in
no_byte outside = refl
no_byte (inside s) = refl

noise-append : (es fs : List Event) (place : Place) → noise_from place (es ++ fs) ≡ noise_from place es + noise_from (place_from place es) fs
unfolding noise_from place_from
noise-append [] fs place = sym (zero-add (noise_from place fs))
noise-append (e ∷ es) fs place =
    ap (λ (n : ℕ). noise_in place e + n) (noise-append es fs (next place e))
    ∙ sym (add_assoc (noise_in place e) (noise_from (next place e) es) (noise_from (place_from (next place e) es) fs))

-- bytes behind a 7E
stays_inside : (t : Bool) (b : ℕ) (s : List ℕ) (es : List Event) → ((stretch : List ℕ) → noise_from (inside stretch) es ≡ 0)
    → noise_from (next_byte t b (inside s)) es ≡ 0
unfolding next_byte
stays_inside true b s es h = h []
stays_inside false b s es h = h (s ++ (b ∷ []))

inside_none : (bytes stretch : List ℕ) → noise_from (inside stretch) (map byte bytes) ≡ 0
unfolding noise_from noise_in next
inside_none [] stretch = refl
inside_none (b ∷ bytes) stretch = ap (λ (n : ℕ). 0 + n) (stays_inside (eqb b 0x7E) b stretch (map byte bytes) (inside_none bytes))

from_7E : (place : Place) (bytes : List ℕ) → noise_from place (byte 0x7E ∷ map byte bytes) ≡ 0
unfolding noise_from next next_byte
from_7E place bytes = ap (λ (n : ℕ). n + noise_from (inside []) (map byte bytes)) (delimiter place 0x7E refl) ∙ ap (λ (n : ℕ). 0 + n) (inside_none bytes [])

-- bytes without a 7E outside a stretch
outside_all : (bytes : List ℕ) → Unbroken bytes → noise_from outside (map byte bytes) ≡ length bytes
unfolding noise_from noise_in next next_byte
outside_all [] h = refl
outside_all (b ∷ bytes) h = rw h.0 (omega (arith, outside_all bytes h.1))

from-mark : (place : Place) (bytes : List ℕ) → Unbroken bytes → noise_from place (mark ∷ map byte bytes) ≡ length bytes
unfolding noise_from next
from-mark place bytes h =
    ap (λ (n : ℕ). n + noise_from outside (map byte bytes)) (no_byte place)
    ∙ zero-add (noise_from outside (map byte bytes))
    ∙ outside_all bytes h

pub noise-bytes : NoiseBytes
unfolding noise
noise-bytes =
    record {
      at_the_start = outside_all;
      after_a_mark = λ stream bytes h.
          noise-append stream (mark ∷ map byte bytes) outside
          ∙ ap (λ (n : ℕ). noise_from outside stream + n) (from-mark (place_from outside stream) bytes h);
      after_a_7E = λ stream bytes.
          noise-append stream (byte 0x7E ∷ map byte bytes) outside
          ∙ ap (λ (n : ℕ). noise_from outside stream + n) (from_7E (place_from outside stream) bytes)
          ∙ add-zero (noise_from outside stream);
    }
