use Rattle.board.specs.declared.orders.Order.TheVariants.{Restart, Unnamed}
use Rattle.board.proofs.Numbered.{by_bus}
use Rattle.board.proofs.numbers.order_restart.Goals as goal

pub returns-in-Ok : goal.returns-in-Ok
returns-in-Ok c = by_bus Unnamed (λ bus. Restart (record { bus = bus; address = c.args.address })) c.args.bus c.try_from.ensures c.in-Ok.is

pub returns-in-Err : goal.returns-in-Err
returns-in-Err c = by_bus Unnamed (λ bus. Restart (record { bus = bus; address = c.args.address })) c.args.bus c.try_from.ensures c.in-Err.is
