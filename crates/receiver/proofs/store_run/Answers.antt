use Rattle.std.proofs.Common.{◌<◌, arith, sym, ◌∙◌, length-take, length-set}
use Rattle.std.proofs.Math.Seq.{get_or-take}
use Rattle.receiver.proofs.Turns.{run_more}
use Rattle.receiver.proofs.store_run.Goals as goal

pub loop-i-preserved : goal.loop-i-preserved
loop-i-preserved c =
    let l = c.loop-i in
    let piece = c.args.piece.now in
    let end = c.min-end.result in
    let size = length-take end piece in
    let h : l.i < end = omega arith in (
      simp length-set l.invariant.0,
      run_more c.args.store.now c.args.len piece l.store l.i _ (get_or-take end piece l.i 0 h) (omega arith) (omega arith)
          (sym c.is_special.ensures ∙ c.if-is_special.false) l.invariant.1,
    )
