-- `sfc6::put_number` meets its contract: each size by itself. Assumes nothing.
use Rattle.shdlc.specs.Stuffing.{stuff}
use Rattle.shdlc.proofs.Stuffing.{stuff-one}
use Rattle.payload.specs.Field.{big_endian}
use Rattle.sfc6.proofs.Laid.{none_wrote, one_byte_lem}
use Rattle.sfc6.proofs.put_number.Goals as goal

pub returns-in-Nothing : goal.returns-in-Nothing
unfolding stuff big_endian
returns-in-Nothing c = rw c.in-Nothing.is (none_wrote _ _)

pub returns-in-Byte : goal.returns-in-Byte
returns-in-Byte c = rw (c.in-Byte.is, one_byte_lem c.args.n, stuff-one) c.put_byte.ensures.laid
