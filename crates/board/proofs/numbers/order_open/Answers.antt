use Rattle.std.proofs.Common.{refl}
use Rattle.board.specs.declared.orders.Order.TheVariants.{Open, Unnamed}
use Rattle.board.proofs.Numbered.{by_both}
use Rattle.board.proofs.numbers.order_open.Goals as goal

pub returns-in-Ok-Ok : goal.returns-in-Ok-Ok
returns-in-Ok-Ok c = by_both Unnamed (λ bus kind. Open (record { bus = bus; address = c.args.address }) kind c.args.lease) c.args.bus c.args.kind c.try_from.ensures c.try_from-2.ensures c.in-Ok-Ok.is-0 c.in-Ok-Ok.is-1

pub returns-in_default : goal.returns-in_default
returns-in_default c = by_both Unnamed (λ bus kind. Open (record { bus = bus; address = c.args.address }) kind c.args.lease) c.args.bus c.args.kind c.try_from.ensures c.try_from-2.ensures c.in_default.is-0 c.in_default.is-1

pub returns-in_default-2 : goal.returns-in_default-2
returns-in_default-2 c = by_both Unnamed (λ bus kind. Open (record { bus = bus; address = c.args.address }) kind c.args.lease) c.args.bus c.args.kind c.try_from.ensures c.try_from-2.ensures c.in_default.is-0 refl
