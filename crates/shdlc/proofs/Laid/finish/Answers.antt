use mathlib.Core.Path.{refl}
use mathlib.Core.List.{[], ◌∷◌}
use Prim.Native.Nat.{◌≤◌, ◌<◌}
use native.Mathlib.Omega.{arith}
use lib.ListN.{length}
use Rattle.refusal.proofs.Room.{write_then, set-overlay}
use Rattle.shdlc.proofs.Laid.finish.Goals as goal

pub returns : goal.returns
returns c =
    let h : c.args.self.place ≤ length c.args.out.now = omega arith in
    let inside : c.put_byte-last.result < length c.put_byte-last.new.out = omega arith in
    write_then _ _ _ _ (0x7E ∷ []) _ _ _ h c.put_byte-last.ensures (refl, set-overlay _ _ _ inside)
