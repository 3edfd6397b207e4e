use Rattle.std.proofs.Common.{◌+◌, arith, rules, subst}
use Rattle.std.specs.Io.KnownBytes.{Appends}
use Rattle.std.proofs.KnownBytes.{Appends-nil, Appends-trans}
use Rattle.wire_log.specs.Log.{kinds}
use Rattle.wire_log.specs.Text.{log_text}
use Rattle.wire_log.proofs.Printed.{text_short}
use Rattle.wire_log.proofs.PartAfterPart.{part_is, text_so_far}
use Rattle.shift_log.proofs.print.Goals as goal

pub loop-n-init : goal.loop-n-init
loop-n-init g c =
    let text = log_text kinds c.args.file.now in
    let (long, within, kept, shown, over) = part_is text 0 _ c.text-n.ensures (omega arith) (omega arith) (search rules) in
    (long, within, kept, shown, over, text_short kinds c.args.file.now (λ i. (c.type_inv.file i).fits), Appends-nil (g.W.Write.contents c.args.to.now))

pub loop-n-preserved : goal.loop-n-preserved
loop-n-preserved g c =
    let text = log_text kinds c.args.file.now in
    let (was-long, was-within, was-kept, was-shown, was-over, short, appended) = c.loop-n.invariant in
    let (long, within, kept, shown, over) = part_is text (c.loop-n.from + c.loop-n.n) _ c.text-n-in-loop-n.ensures (omega arith) was-kept was-long in
    (long, within, kept, shown, over, short, subst (Appends _ _) (text_so_far text c.loop-n.from c.loop-n.n was-shown) (Appends-trans _ _ _ _ _ appended c.in_ok-write_all.ensures))
