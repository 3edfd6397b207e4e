use Rattle.std.proofs.Common.{◌∙◌, sym, ◌<◌, arith}
use Rattle.board.specs.Entries.{is_kind}
use Rattle.board.specs.Private.{node_place}
use Rattle.board.proofs.Tests.{and_right}
use Rattle.board.proofs.Seen.{place_bound}
use Rattle.board.proofs.survey.mark.Goals as goal

pub bounds-seen-n : goal.bounds-seen-n
bounds-seen-n c =
    let b : node_place c.args.e < 384 = place_bound c.args.e (and_right (is_kind c.args.e.kind) _ (sym c.is_entry.ensures ∙ c.if-not-is_entry.false)) in
    omega (arith, b, c.node_place-n.ensures.0)

pub bounds-seen-n-2 : goal.bounds-seen-n-2
bounds-seen-n-2 c =
    let b : node_place c.args.e < 384 = place_bound c.args.e (and_right (is_kind c.args.e.kind) _ (sym c.is_entry.ensures ∙ c.if-not-is_entry.false)) in
    omega (arith, b, c.node_place-n.ensures.0)
