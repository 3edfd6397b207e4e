use Rattle.replay.proofs.run.Run.+replay_newest.Given as goal

abbrev pub decreases-replay_newest : goal.decreases-replay_newest
decreases-replay_newest l = l.n
