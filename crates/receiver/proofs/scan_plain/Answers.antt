use mathlib.Core.Path.{sym, ◌∙◌}
use Rattle.receiver.specs.declared.Mode.TheVariants.{Escaped, BareControl}
use Rattle.receiver.proofs.Modes.{act_escape, act_control, act_plain}
use Rattle.receiver.proofs.OneByte.{delimits, becomes, keeps}
use Rattle.receiver.proofs.Place.{came_as_lem}
use Rattle.receiver.proofs.scan_plain.Goals as goal

pub returns-then-b-eq126 : goal.returns-then-b-eq126
returns-then-b-eq126 c = delimits c.args.r _ _ c.requires c.if-b-eq126.true

pub returns-then-b-eq125 : goal.returns-then-b-eq125
returns-then-b-eq125 c = becomes c.args.r _ _ c.if-b-eq126.false Escaped c.passed.ensures (act_escape _ _ c.requires c.if-b-eq125.true)

pub returns-then-is_control : goal.returns-then-is_control
returns-then-is_control c =
    becomes c.args.r _ _ c.if-b-eq126.false BareControl c.passed-then-is_control.ensures
    (act_control _ _ c.requires c.if-b-eq125.false (sym c.is_control.ensures ∙ c.if-is_control.true))

pub push-requires : goal.push-requires
push-requires c =
    came_as_lem c.args.r.mode _ _ c.if-b-eq126.false c.requires
    (act_plain _ _ c.requires c.if-b-eq125.false (sym c.is_control.ensures ∙ c.if-is_control.false))

pub returns : goal.returns
returns c =
    keeps c.args.r _ _ c.if-b-eq126.false _ c.push.ensures
    (act_plain _ _ c.requires c.if-b-eq125.false (sym c.is_control.ensures ∙ c.if-is_control.false))
