-- `sfc6::put_byte` meets its contract: there is room. Assumes nothing.
use Rattle.std.proofs.Common.{rules}
use Rattle.shdlc.proofs.Stuffing.{byte_short}
use Rattle.sfc6.proofs.Laid.{put_wrote}
use Rattle.sfc6.proofs.put_byte.Goals as goal

pub unwrap-requires : goal.unwrap-requires
unwrap-requires c = let is = put_wrote _ _ _ _ c.requires c.put_at.ensures in search rules

pub returns-clause-laid : goal.returns-clause-laid
returns-clause-laid c = let is = put_wrote _ _ _ _ c.requires c.put_at.ensures in search rules

pub returns-clause-short : goal.returns-clause-short
returns-clause-short c =
    let is = put_wrote _ _ _ _ c.requires c.put_at.ensures in
    let short = byte_short c.args.b in
    search rules
