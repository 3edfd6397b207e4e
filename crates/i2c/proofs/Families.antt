-- A word of one family is never a good word of the other: bytes that are read with one start value are refused with the other, 17 at
-- the first word. Assumes nothing.
use mathlib.Core.Path.{◌≡◌, refl, sym, ap, ◌∙◌}
use mathlib.Core.Bool.{Bool, true, false, cond}
use mathlib.Core.List.{List, [], ◌∷◌}
use Prim.Native.Nat.{ℕ, ◌<◌}
use native.Mathlib.Omega.{arith}
use lib.Dec.{eqb}
use lib.ListN.{get_or}
use borrow.Author.Tests.{eqb-true, ne_eqb}
use Rattle.refusal.specs.Refusals.{number, ◌carrying◌, served}
use Rattle.refusal.proofs.Order.{refused_not_served}
use Rattle.i2c.specs.Answer.{Outcome, refuse}
use Rattle.i2c.specs.Crc.{crc_of}
use Rattle.i2c.specs.Word.{start_of, Check, all_good, wrong_at, check_word, later, or_else, first_wrong, no_words, read_checked, read_words}
use Rattle.i2c.specs.declared.word.Family.{Family}
use Rattle.i2c.specs.declared.word.Family.TheVariants.{Liquid, Sfc6}
use Rattle.i2c.proofs.CrcLaws.{start-one}

abbrev pub other : Family → Family
other Liquid = Sfc6
other Sfc6 = Liquid

-- the two CRCs of one word differ
differ : (f : Family) (h l : ℕ) → h < 256 → l < 256 → crc_of (start_of f) (h ∷ l ∷ []) ≡ crc_of (start_of (other f)) (h ∷ l ∷ []) → ⊥
differ Liquid h l hh hl e = let z : ◌≡◌ {A = ℕ} 0x00 0xFF = start-one 0x00 0xFF h l (omega arith) (omega arith) hh hl e in omega arith
differ Sfc6 h l hh hl e = let z : ◌≡◌ {A = ℕ} 0xFF 0x00 = start-one 0xFF 0x00 h l (omega arith) (omega arith) hh hl e in omega arith

-- a served reading: there are whole words, and all are good
whole : (s : ℕ) (bs lent : List ℕ) (n : ℕ) (last : List ℕ) → read_words s bs lent ≡ (served n, last) → (no_words bs ≡ false) × (first_wrong s bs ≡ all_good)
unfolding read_words read_checked
whole s bs lent n last = go (no_words bs) refl (first_wrong s bs) refl
  where
    go : (t : Bool) → no_words bs ≡ t → (k : Check) → first_wrong s bs ≡ k → cond t (refuse (number 16) lent) (read_checked k bs lent) ≡ (served n, last)
        → (no_words bs ≡ false) × (first_wrong s bs ≡ all_good)
    go true p k q e = absurd (refused_not_served (ap (λ (o : Outcome). o.0) e))
    go false p (wrong_at j) q e = absurd (refused_not_served (ap (λ (o : Outcome). o.0) e))
    go false p all_good q e = (p, q)

-- the first word, good with one start value, is wrong with the other
first-wrong : (f : Family) (bs : List ℕ) → ((i : ℕ) → get_or bs i 0 < 256) → no_words bs ≡ false → first_wrong (start_of f) bs ≡ all_good
    → first_wrong (start_of (other f)) bs ≡ wrong_at 0
unfolding first_wrong check_word no_words
first-wrong f [] b p q = cc
first-wrong f (h ∷ []) b p q = cc
first-wrong f (h ∷ l ∷ []) b p q = cc
first-wrong f (h ∷ l ∷ c ∷ rest) b p q = go (eqb (crc_of (start_of f) (h ∷ l ∷ [])) c) refl q
  where
    go : (t : Bool) → eqb (crc_of (start_of f) (h ∷ l ∷ [])) c ≡ t → or_else (cond t all_good (wrong_at 0)) (later (first_wrong (start_of f) rest)) ≡ all_good
        → first_wrong (start_of (other f)) (h ∷ l ∷ c ∷ rest) ≡ wrong_at 0
    go true e k =
        let g : crc_of (start_of f) (h ∷ l ∷ []) ≡ c = eqb-true (crc_of (start_of f) (h ∷ l ∷ [])) c e in
        rw (ne_eqb (crc_of (start_of (other f)) (h ∷ l ∷ [])) c (λ u. differ f h l (b 0) (b 1) (g ∙ sym u)))
    go false e k = cc

pub other_family : (f : Family) (bs lent room : List ℕ) (n : ℕ) (last : List ℕ) → ((i : ℕ) → get_or bs i 0 < 256)
    → read_words (start_of f) bs lent ≡ (served n, last) → read_words (start_of (other f)) bs room ≡ refuse (17 carrying 0) room
unfolding read_words read_checked
other_family f bs lent room n last b e =
    let w = whole (start_of f) bs lent n last e in
    rw (w.0, first-wrong f bs b w.0 w.1)
