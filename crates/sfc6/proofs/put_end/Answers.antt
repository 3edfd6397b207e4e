-- `sfc6::put_end` meets its contract. Assumes nothing.
use native.Mathlib.Omega.{arith}
use Rattle.refusal.proofs.Room.{write_then}
use Rattle.sfc6.proofs.Laid.{set_wrote}
use Rattle.sfc6.proofs.put_end.Goals as goal

pub returns : goal.returns
returns c = write_then _ _ _ _ _ _ _ _ (omega (arith, c.requires)) c.put_byte-last.ensures.laid (set_wrote _ _ _ (omega arith))
