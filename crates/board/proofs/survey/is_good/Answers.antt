use Rattle.std.proofs.Common.{◌∙◌, ap, sym, List, map, reverse}
use Rattle.std.proofs.lemmas.List.{map_push}
use Rattle.std.proofs.lemmas.Iterator.Adapters.{YieldsList-from_rev_slice}
use Rattle.std.proofs.lemmas.Iterator.Consumers.{YieldsList-end}
use Rattle.board.specs.declared.entries.Entry.{Entry}
use Rattle.board.proofs.Seen.{marked, marked_start, marked_more, marked-end}
use Rattle.board.proofs.survey.is_good.Goals as goal

pub loop-e-init : goal.loop-e-init
loop-e-init c = marked_start

pub loop-e-preserved : goal.loop-e-preserved
loop-e-preserved c =
    marked_more (map (λ e. e.now) c.loop-e.yielded) c.in-Some.e.now c.loop-e.invariant c.mark-good.ensures
    ∙ ap (λ (l : List Entry). marked (reverse l)) (sym (map_push (λ e. e.now) c.loop-e.yielded c.in-Some.e))

pub returns : goal.returns
returns c =
    let t = YieldsList-end (YieldsList-from_rev_slice c.args.t.now (cc)) c.loop-e.yielded _ c.loop-e.yielded_by _ _ c.in-None.is c.next.ensures.steps in
    marked-end c.args.t.now _ t.0 c.loop-e.invariant
