use Rattle.std.proofs.Common.{ℕ, ◌/◌, ◌≤◌, arith}
use Rattle.replay.proofs.Halving.{runs_halves}
use Rattle.replay.proofs.run.Run.+replay_newest.Goals as goal

half : (n : ℕ) → n / 2 ≤ n
half n = omega arith

pub returns-then-n : goal.returns-then-n
returns-then-n t c =
    runs_halves _ _ c.args.self.now c.replay_block-then-n-2.new.self c.args.n _ _ c.replay_block-then-n.new.self (half c.args.n) c.requires.0 c.back_over-middle.ensures c.replay_block-then-n.ensures c.replay_block-then-n-2.ensures

pub returns : goal.returns
returns t c = runs_halves _ _ c.args.self.now c.replay_newest-2.new.self c.args.n _ _ c.replay_newest.new.self (half c.args.n) c.requires.0 c.back_over-middle.ensures c.replay_newest.ensures c.replay_newest-2.ensures
