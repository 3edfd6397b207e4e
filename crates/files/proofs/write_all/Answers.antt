use Rattle.std.proofs.Common.{subst}
use Rattle.std.specs.Io.KnownBytes.{Appends}
use Rattle.std.proofs.KnownBytes.{Appends-trans}
use Rattle.files.proofs.Parts.{left_over}
use Rattle.files.proofs.write_all.Goals as goal

pub loop-rest-preserved : goal.loop-rest-preserved
loop-rest-preserved g c =
    let left = left_over c.args.text.now c.loop-rest.rest.now c.in_ok-n.n c.loop-rest.invariant.0 c.loop-rest.invariant.1 c.in_ok-n.ensures.bound in
    (left.0, left.1, subst (Appends _ _) left.2 (Appends-trans _ _ _ _ _ c.loop-rest.invariant.2 c.in_ok-n.ensures.bytes))
