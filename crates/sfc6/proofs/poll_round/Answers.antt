-- `sfc6::poll_round` meets its contract. The invariant: the round of the nodes left, from here on, is the whole round. Assumes nothing.
use mathlib.Core.Path.{◌≡◌, refl, ◌∙◌}
use native.Mathlib.Omega.{arith}
use lib.ListN.{length}
use Rattle.sfc6.specs.Rounds.{round, poll_round}
use Rattle.sfc6.proofs.Rounds.{frame_fits, round-laid, round_stopped, round-over}
use Rattle.sfc6.proofs.poll_round.Goals as goal

pub overflow_add-end : goal.overflow_add-end
overflow_add-end c =
    omega (arith, c.loop-frames.invariant.3, frame_fits _ c.loop-frames.buffer c.loop-frames.end _ _ _ c.append_request.ensures c.in-Ok.size c.in-Ok.is)

pub loop-frames-preserved : goal.loop-frames-preserved
loop-frames-preserved c = (
  omega arith,
  round-laid _ _ _ _ _ _ c.append_request.ensures _ _ c.loop-frames-test.true refl _ c.in-Ok.is ∙ c.loop-frames.invariant.1,
  omega arith,
  omega (arith, c.loop-frames.invariant.3, frame_fits _ c.loop-frames.buffer c.loop-frames.end _ _ _ c.append_request.ensures c.in-Ok.size c.in-Ok.is),
)

pub returns-in-Err : goal.returns-in-Err
unfolding poll_round round
returns-in-Err c =
    round_stopped _ _ _ _ _ _ c.append_request.ensures _ _ c.loop-frames-test.true refl _ c.in-Err.is ∙ c.loop-frames.invariant.1

pub returns : goal.returns
unfolding poll_round round
returns c =
    let all : length c.args.nodes.now ≡ c.loop-frames.frames = omega arith in
    rw all (round-over _ _ _ _ _ c.loop-frames-test.false ∙ c.loop-frames.invariant.1)
