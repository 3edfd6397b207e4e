use mathlib.Core.Path.{ap}
use Rattle.receiver.specs.declared.Mode.{Mode}
use Rattle.receiver.specs.declared.Mode.TheVariants.{BadEscape}
use Rattle.receiver.specs.Record.{pending_in}
use Rattle.receiver.proofs.Modes.{act_escaped, act_bad, act_noise, act_faulty, pending_faulty}
use Rattle.receiver.proofs.OneByte.{closes, opens, becomes, discards, keeps}
use Rattle.receiver.proofs.Place.{came_as_lem}
use Rattle.receiver.proofs.scan_one.Goals as goal

pub returns-then-b-eq126 : goal.returns-then-b-eq126
returns-then-b-eq126 c = opens c.args.r _ _ c.passed.ensures c.if-b-eq126.true (ap (λ (m : Mode). pending_in m c.args.r.len) c.in-Outside.is)

pub returns-else-b-eq126 : goal.returns-else-b-eq126
returns-else-b-eq126 c = discards c.args.r _ _ c.if-b-eq126.false c.passed-in-Outside.ensures c.counted.ensures (act_noise _ _ c.in-Outside.is)

pub returns-then-b-eq126-2 : goal.returns-then-b-eq126-2
returns-then-b-eq126-2 c = closes c.args.r _ _ c.ended.ensures c.if-b-eq126-2.true (ap (λ (m : Mode). pending_in m c.args.r.len) c.in-Escaped.is)

pub push-requires : goal.push-requires
push-requires c =
    came_as_lem _ _ _ c.if-b-eq126-2.false c.in-Escaped.is (act_escaped _ _ _ c.in-Escaped.is c.is_escaped.ensures c.if-is_escaped.true)

pub returns-then-is_escaped : goal.returns-then-is_escaped
returns-then-is_escaped c =
    keeps c.args.r _ _ c.if-b-eq126-2.false _ c.push.ensures (act_escaped _ _ _ c.in-Escaped.is c.is_escaped.ensures c.if-is_escaped.true)

pub returns-else-is_escaped : goal.returns-else-is_escaped
returns-else-is_escaped c =
    becomes c.args.r _ _ c.if-b-eq126-2.false BadEscape c.passed-in-Escaped.ensures (act_bad _ _ _ c.in-Escaped.is c.is_escaped.ensures c.if-is_escaped.false)

pub returns-then-b-eq126-3 : goal.returns-then-b-eq126-3
returns-then-b-eq126-3 c = closes c.args.r _ _ c.ended-then-b-eq126-3.ensures c.if-b-eq126-3.true (pending_faulty _ _ c.in-BadEscape.is)

pub returns-else-b-eq126-3 : goal.returns-else-b-eq126-3
returns-else-b-eq126-3 c = becomes c.args.r _ _ c.if-b-eq126-3.false _ c.passed-in-BadEscape.ensures (act_faulty _ _ c.in-BadEscape.is)
