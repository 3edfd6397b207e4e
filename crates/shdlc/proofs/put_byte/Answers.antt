use mathlib.Core.Path.{◌≡◌, refl, ap, ◌∙◌}
use mathlib.Core.List.{List, [], ◌∷◌}
use Prim.Native.Nat.{ℕ, ◌+◌, ◌≤◌, ◌<◌}
use native.Mathlib.Omega.{arith}
use lib.Bits.{bit_xor}
use lib.ListN.{length, set}
use lib.Seq.{set-set}
use Rattle.refusal.specs.Room.{overlay}
use Rattle.refusal.proofs.Room.{set-overlay, set-two}
use Rattle.shdlc.specs.Stuffing.{stuff_byte}
use Rattle.shdlc.proofs.Stuffing.{sent_escaped, sent_plain, byte_short}
use Rattle.shdlc.proofs.put_byte.Goals as goal

module _ (out : List ℕ) (place b : ℕ) where
  -- a byte takes one place at least
  room : place + length (stuff_byte b) ≤ length out → place < length out
  room h = omega (arith, (byte_short b).0)

  fits-two : stuff_byte b ≡ 0x7D ∷ bit_xor b 0x20 ∷ [] → place + length (stuff_byte b) ≤ length out → place + 1 < length out
  fits-two e h = omega (arith, ap length e)

  escaped-laid : stuff_byte b ≡ 0x7D ∷ bit_xor b 0x20 ∷ [] → place + length (stuff_byte b) ≤ length out
      → (place + 1 + 1 ≡ place + length (stuff_byte b))
      × (set (set (set out place b) place 0x7D) (place + 1) (bit_xor b 0x20) ≡ overlay out place (stuff_byte b))
  escaped-laid e h =
      rw e (
        omega arith,
        ap (λ (l : List ℕ). set l (place + 1) (bit_xor b 0x20)) (set-set out place b 0x7D) ∙ set-two _ _ _ _ (fits-two e h),
      )

  plain-laid : stuff_byte b ≡ b ∷ [] → place + length (stuff_byte b) ≤ length out
      → (place + 1 ≡ place + length (stuff_byte b)) × (set out place b ≡ overlay out place (stuff_byte b))
  plain-laid e h = let r = room h in rw e (refl, set-overlay _ _ _ r)

pub bounds-out-place : goal.bounds-out-place
bounds-out-place c = room c.args.out.now c.args.place c.args.b c.requires

pub returns-then-is_escaped : goal.returns-then-is_escaped
returns-then-is_escaped c = escaped-laid c.args.out.now c.args.place c.args.b (sent_escaped _ c.is_escaped.ensures c.if-is_escaped.true) c.requires

pub returns : goal.returns
returns c = plain-laid c.args.out.now c.args.place c.args.b (sent_plain _ c.is_escaped.ensures c.if-is_escaped.false) c.requires
