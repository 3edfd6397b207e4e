-- The frame is laid down part by part.
use mathlib.Core.Path.{◌≡◌}
use mathlib.Core.List.{List, ◌++◌}
use Prim.Native.Nat.{ℕ, ◌+◌, ◌≤◌}
use native.Mathlib.Omega.{arith}
use lib.ListN.{length, set, length-set}
use Rattle.refusal.specs.Room.{overlay}
use Rattle.shdlc.specs.Stuffing.{stuff}
use Rattle.shdlc.specs.Frame.{frame_of}
use Rattle.shdlc.proofs.Frame.{parts_checksum, parts-laid, parts-length, no_frame, fits_room, first_fits, end_fits, frame-laid}
use Rattle.shdlc.proofs.lay_parts.Goals as goal

-- the three parts fit behind the first 7E
module _ (first second third room : List ℕ) (fits : length (frame_of (first ++ (second ++ third))) ≤ length room) where
  size : 1 + length (stuff first) + length (stuff second) + length (stuff third) ≤ length room
  size = omega (arith, parts-length first second third)

  -- the room after the three parts
  laid : (o₁ o₂ o₃ : List ℕ) (p q r : ℕ)
      → (p ≡ 1 + length (stuff first)) × (o₁ ≡ overlay (set room 0 0x7E) 1 (stuff first))
      → (q ≡ p + length (stuff second)) × (o₂ ≡ overlay o₁ p (stuff second))
      → (r ≡ q + length (stuff third)) × (o₃ ≡ overlay o₂ q (stuff third))
      → (r ≡ 1 + length (stuff (first ++ (second ++ third)))) × (o₃ ≡ overlay (set room 0 0x7E) 1 (stuff (first ++ (second ++ third))))
  laid o₁ o₂ o₃ p q r e f g =
      let h : 1 ≤ length (set room 0 0x7E) = omega (arith, size, length-set room 0 0x7E) in
      parts-laid first second third (set room 0 0x7E) o₁ o₂ o₃ p q r h e f g

pub returns-then-is_short : goal.returns-then-is_short
returns-then-is_short c = no_frame _ _ c.is_short.ensures c.if-is_short.true

pub bounds-out-0 : goal.bounds-out-0
bounds-out-0 c =
    first_fits (c.args.first.now ++ (c.args.second.now ++ c.args.third.now)) c.args.out.now
    (fits_room _ _ c.is_short.ensures c.if-is_short.false)

pub put_stuffed-a-requires : goal.put_stuffed-a-requires
put_stuffed-a-requires c =
    let s = size c.args.first.now c.args.second.now c.args.third.now c.args.out.now (fits_room _ _ c.is_short.ensures c.if-is_short.false) in
    omega (arith, s, length-set c.args.out.now 0 0x7E)

pub put_text-b-requires : goal.put_text-b-requires
put_text-b-requires c =
    let s = size c.args.first.now c.args.second.now c.args.third.now c.args.out.now (fits_room _ _ c.is_short.ensures c.if-is_short.false) in
    omega (arith, s, length-set c.args.out.now 0 0x7E)

pub put_stuffed-c-requires : goal.put_stuffed-c-requires
put_stuffed-c-requires c =
    let s = size c.args.first.now c.args.second.now c.args.third.now c.args.out.now (fits_room _ _ c.is_short.ensures c.if-is_short.false) in
    omega (arith, s, length-set c.args.out.now 0 0x7E)

pub finish-requires : goal.finish-requires
finish-requires c =
    let e = c.put_stuffed-a.ensures in
    let f = c.put_text-b.ensures in
    let g = c.put_stuffed-c.ensures in
    let body : List ℕ = c.args.first.now ++ (c.args.second.now ++ c.args.third.now) in
    let fits = fits_room body c.args.out.now c.is_short.ensures c.if-is_short.false in
    let sums = parts_checksum c.args.first.now c.args.second.now c.args.third.now _ _ _ e.1 f.1 g.1 in
    let kept : length c.put_stuffed-c.new.out ≡ length c.args.out.now = omega (arith, length-set c.args.out.now 0 0x7E) in
    end_fits body c.args.out.now fits _ _ _ sums
    (laid c.args.first.now c.args.second.now c.args.third.now c.args.out.now fits _ _ _ _ _ _ (e.0, e.2) (f.0, f.2) (g.0, g.2)) kept

pub returns : goal.returns
returns c =
    let e = c.put_stuffed-a.ensures in
    let f = c.put_text-b.ensures in
    let g = c.put_stuffed-c.ensures in
    let body : List ℕ = c.args.first.now ++ (c.args.second.now ++ c.args.third.now) in
    let fits = fits_room body c.args.out.now c.is_short.ensures c.if-is_short.false in
    let sums = parts_checksum c.args.first.now c.args.second.now c.args.third.now _ _ _ e.1 f.1 g.1 in
    frame-laid body c.args.out.now fits _ _ _ sums
    (laid c.args.first.now c.args.second.now c.args.third.now c.args.out.now fits _ _ _ _ _ _ (e.0, e.2) (f.0, f.2) (g.0, g.2)) _ _ c.finish.ensures
