-- The tests say what the scale is.
use Rattle.std.proofs.Common.{w32}
use mir.ValLaws.{to_z-of_z}
use Rattle.reading.proofs.Scale.{scale_low, scale_high, scale_good}
use Rattle.reading.proofs.checked.Goals.{then-scale-lt1-via-then-scale-lt1, then-scale-lt1-via-else-scale-lt1+then-scale-gt32767}
use Rattle.reading.proofs.checked.Goals as goal

pub returns : goal.returns
returns c =
    let e = to_z-of_z w32 c.args.scale c.ranges.scale in
    rw (e, scale_good c.args.scale (rw e at c.if-scale-lt1.false) (rw e at c.if-scale-gt32767.false))

pub returns-then-scale-lt1 : goal.returns-then-scale-lt1
returns-then-scale-lt1 c =
    let z = c.args.scale in
    let e = to_z-of_z w32 z c.ranges.scale in
    elim c.then-scale-lt1.branch [
      | then-scale-lt1-via-then-scale-lt1 w ↦ rw (scale_low z (rw e at w.if-scale-lt1.true))
      | then-scale-lt1-via-else-scale-lt1+then-scale-gt32767 w ↦ rw (scale_high z (rw e at w.if-scale-lt1.false) (rw e at w.if-scale-gt32767.true))
    ]
