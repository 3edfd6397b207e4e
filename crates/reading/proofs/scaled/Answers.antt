-- The checked scale is good, or the refusal is 18.
use Rattle.std.proofs.Common.{w16, w32}
use Rattle.std.proofs.lemmas.Result.{err_from_is_err_and}
use mir.ValLaws.{to_z-of_z}
use Rattle.reading.specs.Reading.{in_thousandths}
use Rattle.reading.proofs.Scale.{good_size, scale_refused, scale_served}
use Rattle.reading.proofs.scaled.Goals as goal

pub returns-in_err-scale : goal.returns-in_err-scale
unfolding in_thousandths
returns-in_err-scale c =
    let e = to_z-of_z w32 c.args.scale c.ranges.scale in
    let p = err_from_is_err_and c.from_residual.result c.from_residual.ensures.1 in
    let s = scale_refused c.args.scale _ (rw e at c.in_err-scale.ensures) in
    rw (p.1, p.2, s.0, s.1)

pub over_scale-requires : goal.over_scale-requires
over_scale-requires c =
    let d = c.difference in
    let e = to_z-of_z w32 c.args.scale c.ranges.scale in
    let s = scale_served c.args.scale _ (rw e at c.in_ok-scale.ensures) in
    let g = good_size c.args.scale s.0 in
    rw (to_z-of_z w32 d.result (record { sfits = d.type_inv }), c.from.ensures, s.1) (d.ensures.1, g.0, g.1)

pub returns : goal.returns
unfolding in_thousandths
returns c =
    let d = c.difference in
    let e = to_z-of_z w32 c.args.scale c.ranges.scale in
    let s = scale_served c.args.scale _ (rw e at c.in_ok-scale.ensures) in
    let q = rw (to_z-of_z w32 d.result (record { sfits = d.type_inv }), d.ensures.0, to_z-of_z w16 c.args.raw c.ranges.raw, to_z-of_z w16 c.args.offset c.ranges.offset, c.from.ensures, s.1) at c.over_scale.ensures in
    rw (to_z-of_z w32 c.over_scale.result (record { sfits = c.over_scale.type_inv }), q, s.0)
