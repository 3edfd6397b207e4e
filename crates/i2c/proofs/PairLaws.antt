-- The table of two steps, and the CRC along a list two bytes at a time. Assumes nothing.
use mathlib.Core.Path.{◌≡◌, refl, sym, ap, ap₂, ◌∙◌, subst}
use mathlib.Core.List.{List, [], ◌∷◌}
use Prim.Native.Nat.{ℕ, zero, suc, ◌+◌, ◌*◌, ◌/◌, ◌<◌, ◌≤◌}
use native.Mathlib.Nat.{lt_irrefl}
use native.Mathlib.Omega.{arith}
use lib.Bits.{bit_xor, xor_lt}
use lib.ListN.{length, get_or, drop, set}
use Rattle.std.proofs.lemmas.List.{get_or-drop}
use lib.Seq.{get_or-set_same, get_or-set_other}
use borrow.Author.Count.{below_more}
use Rattle.std.specs.List.{fold}
use Rattle.std.specs.Simd.{first_chunks}
use Rattle.i2c.specs.Crc.{bit_steps, byte_step, crc_of}
use Rattle.i2c.specs.Engines.{table_crc_of, Steps}
use Rattle.i2c.proofs.Linear.{steps_lt, steps_xor}
use Rattle.i2c.proofs.Engines.{engines_agree}

module _ (table : List ℕ) (right : Steps 8 table) where
  pub entry_lt : (x : ℕ) → x < 256 → get_or table x 0 < 256
  unfolding Steps
  entry_lt x h = rw (right x h) (steps_lt 8 x h)

  -- the entry of an entry
  pub twice : (x : ℕ) → x < 256 → get_or table (get_or table x 0) 0 ≡ bit_steps 16 x
  unfolding Steps bit_steps
  twice x h = right (get_or table x 0) (entry_lt x h) ∙ ap (bit_steps 8) (right x h)

  -- the steps of two bytes are linear: those of the second are added to those of the first
  pub pair-steps : (two : List ℕ) → Steps 16 two → (c a b : ℕ) → c < 256 → a < 256 → b < 256
      → bit_xor (get_or two (bit_xor c a) 0) (get_or table b 0) ≡ crc_of c (a ∷ b ∷ [])
  unfolding Steps crc_of byte_step bit_steps
  pair-steps two both c a b hc ha hb =
      let x : bit_xor c a < 256 = xor_lt 8 c a hc ha in
      ap₂ bit_xor (both (bit_xor c a) x) (right b hb) ∙ sym (steps_xor 8 (bit_steps 8 (bit_xor c a)) b (steps_lt 8 (bit_xor c a) x) hb)

-- the entries below i are made, and that at i too
pub made_more : (two : List ℕ) (i v : ℕ) → length two ≡ 256 → i < 256 → v ≡ bit_steps 16 i → ((x : ℕ) → x < i → get_or two x 0 ≡ bit_steps 16 x)
    → (x : ℕ) → x < i + 1 → get_or (set two i v) x 0 ≡ bit_steps 16 x
made_more two i v l h e all =
    below_more (λ (x : ℕ). get_or (set two i v) x 0 ≡ bit_steps 16 x) i
    (λ x m. get_or-set_other two i x v 0 (λ q. lt_irrefl i (subst (λ (k : ℕ). k < i) q m)) ∙ all x m)
    (get_or-set_same two i v 0 (omega (arith, l, h)) ∙ e)

-- two bytes at a time, and what is left
abbrev pub pair_of : ℕ → List ℕ → ℕ
pair_of c pair = crc_of c (get_or pair 0 0 ∷ get_or pair 1 0 ∷ [])

pairs_fold : (k c : ℕ) (bs : List ℕ) → k * 2 ≤ length bs → crc_of (fold pair_of c (first_chunks 2 k bs)) (drop (k * 2) bs) ≡ crc_of c bs
unfolding crc_of
pairs_fold zero c bs h = refl
pairs_fold (suc k) c [] h = absurd (omega arith)
pairs_fold (suc k) c (a ∷ []) h = absurd (omega arith)
pairs_fold (suc k) c (a ∷ b ∷ bs) h =
    let e : suc k * 2 ≡ suc (suc (k * 2)) = omega arith in
    rw e (pairs_fold k (byte_step (byte_step c a) b) bs (omega arith))

pub by_pairs : (table : List ℕ) → Steps 8 table → (c x r : ℕ) (bs rest : List ℕ) (pairs : List (List ℕ)) → x < 256 → ((i : ℕ) → get_or bs i 0 < 256)
    → pairs ≡ first_chunks 2 (length bs / 2) bs → rest ≡ drop (length bs / 2 * 2) bs → x ≡ fold pair_of c pairs → r ≡ table_crc_of table x rest → r ≡ crc_of c bs
by_pairs table right c x r bs rest pairs hx hb e f g h =
    let n : ℕ = length bs / 2 * 2 in
    let p : table_crc_of table x rest ≡ crc_of x rest = engines_agree table right x rest hx (λ i. rw (f, get_or-drop) (hb (n + i))) in
    let q : crc_of x rest ≡ crc_of c bs = rw (f, g, e) (pairs_fold (length bs / 2) c bs (omega arith)) in
    h ∙ p ∙ q

pub ruleset pair_is = (pair-steps)
