-- The table's rule at each entry, and that an engine with a table gives what the bits give. Assumes nothing.
use mathlib.Core.Path.{◌≡◌, refl, ap, ◌∙◌}
use mathlib.Core.List.{List, [], ◌∷◌}
use Prim.Native.Nat.{ℕ, suc, ◌<◌}
use lib.Bits.{bit_xor, xor_lt}
use lib.ListN.{get_or}
use Rattle.refusal.proofs.Values.{values, same_at}
use Rattle.std.specs.List.{fold}
use Rattle.i2c.specs.Crc.{bit_steps, byte_step, crc_of}
use Rattle.i2c.specs.Engines.{Steps, table_step, table_crc_of, EnginesAgree}
use Rattle.i2c.proofs.CrcLaws.{byte_lt}

-- the rule of a table, of which all values are computed and compared once, at each entry
pub rule : (table : List ℕ) → values (λ x. get_or table x 0) 256 ≡ values (bit_steps 8) 256 → Steps 8 table
unfolding Steps
rule table = same_at 256 (λ x. get_or table x 0) (bit_steps 8)

-- a byte
pub steps_agree : (table : List ℕ) → Steps 8 table → (c b : ℕ) → c < 256 → b < 256 → table_step table c b ≡ byte_step c b
unfolding Steps table_step byte_step
steps_agree table right c b hc hb = right (bit_xor c b) (xor_lt 8 c b hc hb)

pub engines_agree : EnginesAgree
unfolding table_crc_of crc_of
engines_agree table right start [] hs hb = refl
engines_agree table right start (b ∷ bs) hs hb =
    ap (λ (c : ℕ). table_crc_of table c bs) (steps_agree table right start b hs (hb 0))
    ∙ engines_agree table right (byte_step start b) bs (byte_lt start b hs (hb 0)) (λ i. hb (suc i))

-- the two bytes of a word, one step after the other
pub pair_agrees : (table : List ℕ) → Steps 8 table → (start h l u v : ℕ) → start < 256 → h < 256 → l < 256 → u ≡ table_step table start h → v ≡ table_step table u l
    → v ≡ crc_of start (h ∷ l ∷ [])
unfolding crc_of
pair_agrees table right start h l u v hs hh hl e f =
    let a : u ≡ byte_step start h = e ∙ steps_agree table right start h hs hh in
    f ∙ ap (λ (c : ℕ). table_step table c l) a ∙ steps_agree table right (byte_step start h) l (byte_lt start h hs hh) hl

pub table_fold : (table : List ℕ) (c : ℕ) (bs : List ℕ) → fold (table_step table) c bs ≡ table_crc_of table c bs
unfolding table_crc_of
table_fold table c [] = refl
table_fold table c (b ∷ bs) = table_fold table (table_step table c b) bs
