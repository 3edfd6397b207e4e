-- `sfc6::request_at` meets its contract. Assumes nothing.
use native.Mathlib.Omega.{arith}
use Rattle.sfc6.proofs.Table.{request-last}
use Rattle.sfc6.proofs.request_at.Goals as goal

pub returns-in_default : goal.returns-in_default
returns-in_default c = request-last c.args.place _ (omega arith)
