use mathlib.Core.Path.{sym, ◌∙◌}
use Prim.Native.Nat.{◌≤◌, ◌<◌}
use native.Mathlib.Omega.{arith}
use lib.ListN.{length}
use Rattle.refusal.proofs.Room.{overlay_nothing, overlay-more}
use Rattle.shdlc.specs.Checksum.{sum}
use Rattle.refusal.proofs.Rest.{rest_here, rest_end}
use Rattle.shdlc.proofs.Body.{sum_step}
use Rattle.shdlc.proofs.Stuffing.{stuff_nothing, stuff_here, length_here}
use Rattle.shdlc.proofs.Laid.put_stuffed.Goals as goal

pub put_byte-place-requires : goal.put_byte-place-requires
put_byte-place-requires c = omega (arith, length_here c.args.bytes.now c.loop-b.b-index (omega arith))

pub loop-b-preserved : goal.loop-b-preserved
unfolding sum
loop-b-preserved c =
    let l = c.args.bytes.now in
    let b = c.loop-b in
    let h : b.b-index < length l = omega arith in
    let k : b.place ≤ length b.out = omega arith in
    let e = c.put_byte-place.ensures in
    let inv = rw (rest_here l b.b-index h) at b.invariant.3 in (
      omega (arith, length_here l b.b-index h),
      rw (e.0, e.1) (overlay-more b.out b.place _ _ k ∙ rw (← stuff_here l b.b-index h) b.invariant.1),
      omega arith,
      sum_step _ _ _ ∙ inv,
    )

pub returns : goal.returns
unfolding sum
returns c =
    let inv = rw (rest_end _ _ c.loop-b-test.false, stuff_nothing) at c.loop-b.invariant in
    (omega arith, omega arith, sym (overlay_nothing _ _) ∙ inv.1)
