-- The checked scale is good, or the refusal is 18.
use Rattle.std.proofs.Common.{w16, w32}
use Rattle.std.proofs.lemmas.Result.{err_from_is_err_and}
use mir.ValLaws.{to_z-of_z}
use Rattle.reading.specs.Reading.{quantity}
use Rattle.reading.proofs.Scale.{good_pos, scale_refused, scale_served}
use Rattle.reading.proofs.scaled_float.Goals as goal

pub returns-in_err-scale : goal.returns-in_err-scale
unfolding quantity
returns-in_err-scale c =
    let e = to_z-of_z w32 c.args.scale c.ranges.scale in
    let p = err_from_is_err_and c.from_residual.result c.from_residual.ensures.1 in
    let s = scale_refused c.args.scale _ (rw e at c.in_err-scale.ensures) in
    rw (p.1, p.2, s.0, s.1)

pub returns : goal.returns
unfolding quantity
returns c =
    let d = c.difference-d in
    let e = to_z-of_z w32 c.args.scale c.ranges.scale in
    let s = scale_served c.args.scale _ (rw e at c.in_ok-scale.ensures) in
    let p = rw (to_z-of_z w16 c.args.raw c.ranges.raw, to_z-of_z w16 c.args.offset c.ranges.offset) at d.ensures.0 in
    rw (to_z-of_z w32 d.result (record { sfits = d.type_inv }), p, c.from.ensures, s.1, good_pos c.args.scale s.0, s.0)
