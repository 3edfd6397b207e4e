-- Byte strings compared by blocks. Assumes nothing.
use mathlib.Core.Path.{◌≡◌, refl, sym, ap, ◌∙◌}
use mathlib.Core.Bool.{Bool, true, false, ◌&&◌, true≢false}
use mathlib.Core.List.{List, [], ◌∷◌, ◌++◌, append_assoc}
use Prim.Native.Nat.{ℕ, ◌-◌, ◌≤◌}
use native.Mathlib.Omega.{arith}
use lib.Bits.{bit_or, bit_xor, xor_self, xor_add_and, and_le_l, and_le_r}
use lib.Dec.{eqb}
use lib.ListN.{length, length-drop, take, drop, take-append-drop, length-append}
use lib.Seq.{take_all, take_at, drop_at, take-append-le}
use borrow.Author.Tests.{eq-eqb, ne_eqb, eqb-true, eqb-false}
use Rattle.std.proofs.lemmas.Nat.{le_or_l, le_or_r}
use Rattle.std.specs.List.{fold, zip}
use Rattle.compare.specs.Compare.{same_bytes}
use Rattle.compare.proofs.ByteLaws.{same_equal, equal_same}

module _ (xs ys : List ℕ) where
  not_same : (xs ≡ ys → ⊥) → false ≡ same_bytes xs ys
  not_same h = go (same_bytes xs ys) refl
    where
      go : (t : Bool) → same_bytes xs ys ≡ t → false ≡ same_bytes xs ys
      go true e = absurd (h (equal_same xs ys e))
      go false e = sym e

  pub other_length : (length xs ≡ length ys → ⊥) → false ≡ same_bytes xs ys
  other_length h = not_same (λ e. h (ap (λ (l : List ℕ). length l) e))

  not_equal : same_bytes xs ys ≡ false → xs ≡ ys → ⊥
  not_equal h e = true≢false (sym (same_equal xs ys e) ∙ h)

-- what a turn of the fold over a block does with the bits that were found to differ
abbrev pub found_by : ℕ → ℕ × ℕ → ℕ
found_by found p = bit_or found (bit_xor p.0 p.1)

no-bits : (found x y : ℕ) → bit_or found (bit_xor x y) ≡ 0 → (found ≡ 0) × (x ≡ y)
no-bits found x y h =
    let l = le_or_l found (bit_xor x y) in
    let r = le_or_r found (bit_xor x y) in
    (omega (arith, h), omega (arith, h, xor_add_and x y, and_le_l x y, and_le_r x y))

one-more : (found x y : ℕ) → eqb (found_by found (x, y)) 0 ≡ (eqb found 0 && eqb x y)
one-more found x y = go (eqb found 0) (eqb x y) refl refl
  where
    go : (s t : Bool) → eqb found 0 ≡ s → eqb x y ≡ t → eqb (bit_or found (bit_xor x y)) 0 ≡ (s && t)
    go true true e f = eq-eqb _ 0 ((λ i. bit_or (eqb-true found 0 e i) (bit_xor (eqb-true x y f i) y)) ∙ xor_self y)
    go true false e f = ne_eqb _ 0 (λ z. eqb-false x y f (no-bits found x y z).1)
    go false t e f = ne_eqb _ 0 (λ z. eqb-false found 0 e (no-bits found x y z).0)

and-assoc : (s t u : Bool) → ((s && t) && u) ≡ (s && (t && u))
and-assoc true t u = refl
and-assoc false t u = refl

folded : (xs ys : List ℕ) (found : ℕ) → length xs ≡ length ys → eqb (fold found_by found (zip xs ys)) 0 ≡ (eqb found 0 && same_bytes xs ys)
unfolding same_bytes
folded [] [] found h = go (eqb found 0)
  where
    go : (t : Bool) → t ≡ (t && true)
    go true = refl
    go false = refl
folded [] (y ∷ ys) found h = absurd (omega arith)
folded (x ∷ xs) [] found h = absurd (omega arith)
folded (x ∷ xs) (y ∷ ys) found h =
    folded xs ys (found_by found (x, y)) (omega arith)
    ∙ ap (λ (t : Bool). t && same_bytes xs ys) (one-more found x y)
    ∙ and-assoc (eqb found 0) (eqb x y) (same_bytes xs ys)

pub block_by : (xs ys : List ℕ) → length xs ≡ length ys → {found : ℕ} → found ≡ fold found_by 0 (zip xs ys) → eqb found 0 ≡ same_bytes xs ys
block_by xs ys h e = ap (λ (n : ℕ). eqb n 0) e ∙ folded xs ys 0 h

-- blocks: what stands before the blocks that are left is the same in both
module _ (xs ys : List ℕ) where
  abbrev pub Left : List ℕ → List ℕ → Type 0
  Left vs ws = (before : List ℕ) × (xs ≡ before ++ vs) × (ys ≡ before ++ ws)

  pub left_all : (vs ws : List ℕ) → vs ≡ xs → ws ≡ ys → Left vs ws
  left_all vs ws h k = ([], sym h, sym k)

  module _ (vs ws : List ℕ) (left : Left vs ws) where
    -- a block at the front of each
    module _ (w : ℕ) (a b vs' ws' : List ℕ) (x : vs ≡ a ++ vs') (y : ws ≡ b ++ ws') (j : length a ≡ w) (k : length b ≡ w) where
      pub block_not : same_bytes a b ≡ false → false ≡ same_bytes xs ys
      block_not h = not_same xs ys (λ e. not_equal a b h (front e))
        where
          front : xs ≡ ys → a ≡ b
          front e =
              sym (take_at a vs' w j) ∙ ap (take w) (sym x) ∙ ap (take w) (sym (drop_at left.0 vs _ refl))
              ∙ ap (λ (l : List ℕ). take w (drop (length left.0) l)) (sym left.1 ∙ e ∙ left.2)
              ∙ ap (take w) (drop_at left.0 ws _ refl) ∙ ap (take w) y ∙ take_at b ws' w k

      pub block_more : same_bytes a b ≡ true → Left vs' ws'
      block_more h = (
        left.0 ++ a,
        left.1 ∙ ap (λ (l : List ℕ). left.0 ++ l) x ∙ sym (append_assoc left.0 a vs'),
        left.2 ∙ ap (λ (l : List ℕ). left.0 ++ l) (y ∙ ap (λ (l : List ℕ). l ++ ws') (sym (equal_same a b h))) ∙ sym (append_assoc left.0 a ws'),
      )

    pub left_long : length xs ≡ length ys → length vs ≡ length ws
    left_long h =
        omega (arith, h, ap (λ (l : List ℕ). length l) left.1, ap (λ (l : List ℕ). length l) left.2, length-append left.0 vs, length-append left.0 ws)

    -- the last block begins in what is the same
    pub block_last : (m : ℕ) → m ≤ length xs - length vs → same_bytes (drop m xs) (drop m ys) ≡ same_bytes xs ys
    block_last m h = go (same_bytes (drop m xs) (drop m ys)) refl
      where
        within : m ≤ length left.0
        within = omega (arith, h, ap (λ (l : List ℕ). length l) left.1, length-append left.0 vs)

        fronts : take m xs ≡ take m ys
        fronts =
            ap (take m) left.1 ∙ take-append-le m left.0 vs within
            ∙ sym (take-append-le m left.0 ws within) ∙ ap (take m) (sym left.2)

        go : (t : Bool) → same_bytes (drop m xs) (drop m ys) ≡ t → t ≡ same_bytes xs ys
        go true f =
            sym (same_equal xs ys
            (sym (take-append-drop m xs) ∙ (λ i. fronts i ++ equal_same (drop m xs) (drop m ys) f i) ∙ take-append-drop m ys))
        go false f = not_same xs ys (λ g. not_equal _ _ f (ap (drop m) g))

-- from a place to the end
pub to_end : (m : ℕ) (l : List ℕ) → take (length l - m) (drop m l) ≡ drop m l
to_end m l = take_all (length l - m) (drop m l) (omega (arith, length-drop m l))
