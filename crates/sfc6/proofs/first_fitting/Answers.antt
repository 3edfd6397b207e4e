-- `sfc6::first_fitting` meets its contract. Assumes nothing.
use Rattle.std.proofs.Common.{rules}
use Rattle.sfc6.specs.Reading.{fitting}
use Rattle.sfc6.proofs.first_fitting.Goals as goal

pub returns : goal.returns
returns c = c.find.ensures (fitting c.args.command c.args.payload.now) (λ k b h post. search rules)
