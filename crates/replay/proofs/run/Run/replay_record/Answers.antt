use Rattle.std.proofs.Common.{ap}
use Rattle.wire_log.specs.Kinds.{number_of_kind}
use Rattle.replay.proofs.RunningOn.{runs_requests, runs_replies, runs_marks}
use Rattle.replay.proofs.run.Run.replay_record.Goals as goal

pub returns-in-Request : goal.returns-in-Request
returns-in-Request c = (runs_requests _ _ _ _ _ _ _ _ (ap number_of_kind c.in-Request.is) c.hear.ensures.0, c.hear.ensures.1)

pub returns-in-Reply : goal.returns-in-Reply
returns-in-Reply c = (runs_replies _ _ _ _ _ _ _ _ (ap number_of_kind c.in-Reply.is) c.hear-in-Reply.ensures.0, c.hear-in-Reply.ensures.1)

pub returns-in-Silence : goal.returns-in-Silence
returns-in-Silence c = (runs_marks _ _ _ _ _ _ _ _ _ (ap number_of_kind c.in-Silence.is) c.mark.ensures c.mark-in-Silence.ensures c.note_poll.ensures.1, c.note_poll.ensures.0)
