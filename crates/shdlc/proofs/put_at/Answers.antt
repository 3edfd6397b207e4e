use Prim.Native.Nat.{ℕ, ◌+◌, ◌≤◌}
use native.Mathlib.Omega.{arith}
use mathlib.Core.List.{List}
use lib.ListN.{length}
use Rattle.shdlc.specs.Stuffing.{stuff_byte}
use Rattle.shdlc.proofs.Stuffing.{byte_short}
use Rattle.shdlc.proofs.Frame.{roomy_holds, put_served}
use Rattle.shdlc.proofs.put_at.Goals as goal

-- two bytes hold any byte
two-fit : (out : List ℕ) (place b : ℕ) → place + 2 ≤ length out → place + length (stuff_byte b) ≤ length out
two-fit out place b h = omega (arith, (byte_short b).1)

pub put_byte-requires : goal.put_byte-requires
put_byte-requires c = two-fit c.args.out.now c.args.place c.args.b (roomy_holds _ _ _ c.has_two.ensures c.if-has_two.true)

pub returns-then-has_two : goal.returns-then-has_two
returns-then-has_two c =
    put_served _ _ _ (two-fit c.args.out.now c.args.place c.args.b (roomy_holds _ _ _ c.has_two.ensures c.if-has_two.true)) c.put_byte.ensures
