use Rattle.std.proofs.Common.{arith}
use Rattle.replay.proofs.Whole.{made_ok, made-fresh, fresh_in_range}
use Rattle.replay.proofs.run.Side.new.Goals as goal

pub unwrap-receiver-requires : goal.unwrap-receiver-requires
unwrap-receiver-requires c = made_ok c.args.kind c.fresh.result _ c.fresh.new.store (omega arith) (omega arith) c.fresh.ensures

pub returns : goal.returns
returns c = made-fresh c.args.kind c.fresh.result _ c.fresh.new.store (omega arith) (omega arith) c.fresh.ensures c.unwrap-receiver.ensures

pub invariant_of-result : goal.invariant_of-result
invariant_of-result c = fresh_in_range c.args.kind _ (made-fresh c.args.kind c.fresh.result _ c.fresh.new.store (omega arith) (omega arith) c.fresh.ensures c.unwrap-receiver.ensures)
