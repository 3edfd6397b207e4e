-- `sfc6::first_named` meets its contract. Assumes nothing.
use Rattle.std.proofs.Common.{rules}
use Rattle.sfc6.specs.Reading.{named}
use Rattle.sfc6.proofs.first_named.Goals as goal

pub returns : goal.returns
returns c = c.find.ensures (named c.args.command c.args.payload.now) (λ k b h post. search rules)
