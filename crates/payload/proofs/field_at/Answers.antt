-- `payload::field_at`: the bytes from the place on begin with the number, or the field ends past the end.
use Rattle.std.proofs.Common.{ℕ, ap, sym, arith, ◌∙◌}
use Rattle.refusal.specs.Refusals.{Answered, answered_as}
use Rattle.payload.specs.Field.{bytes_in}
use Rattle.payload.proofs.At.{width_pos, rest_is, taken_refused, taken_as}
use Rattle.payload.proofs.field_at.Goals as goal

pub returns-in_default : goal.returns-in_default
returns-in_default g c =
    let out = c.in_default.ensures.lookup.0 in
    let wide = width_pos g.T.Field.WIDTH in
    ap (λ (o : Answered ℕ × ℕ). o.0) (sym (taken_refused c.args.payload.now c.args.place (bytes_in g.T.Field.WIDTH) (omega (arith, out, wide))))

pub returns : goal.returns
returns g c =
    let there = c.in-Some.ensures.lookup.0 in
    let read = taken_as c.args.payload.now c.args.place (bytes_in g.T.Field.WIDTH) g.T.Field.number {l = c.in-Some.bytes.now} c.first_in.result
    (rest_is c.args.payload.now c.args.place there.2) there.0 c.first_in.ensures in
    ap (answered_as g.T.Field.number) c.ok_or.ensures.value ∙ read
