-- `replay_log::print`: the text is within the array.
use Rattle.std.proofs.Common.{sym}
use lib.Seq.{length-take-le}
use Rattle.board_lines.proofs.Writing.{answer_within}
use Rattle.replay_log.proofs.print.Goals as goal

pub slice_bounds-out-end : goal.slice_bounds-out-end
slice_bounds-out-end g c = answer_within _ _ c.text-n.ensures

pub slice_bounds-write_all-end : goal.slice_bounds-write_all-end
slice_bounds-write_all-end g c = sym (length-take-le _ _ (answer_within _ _ c.text-n.ensures))
