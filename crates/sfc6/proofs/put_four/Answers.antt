-- `sfc6::put_four` meets its contract. Assumes nothing.
use native.Mathlib.Omega.{arith}
use Rattle.sfc6.proofs.Laid.{four_bytes, four_wrote}
use Rattle.sfc6.proofs.put_four.Goals as goal

pub returns : goal.returns
returns c =
    let a = c.args in
    let wrote = four_wrote a.out.now _ _ _ _ a.place _ _ _ _ _ _ _ _ (omega arith) c.put_byte-place.ensures.laid c.put_byte-place-2.ensures.laid
    c.put_byte-place-3.ensures.laid c.put_byte.ensures.laid in
    rw (four_bytes a.n) (rw c.to_be_bytes.ensures at wrote)
