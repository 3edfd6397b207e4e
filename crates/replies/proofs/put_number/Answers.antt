-- There is room, and the number fits.
use Rattle.std.proofs.Common.{◌∙◌, ap, ℕ, List}
use Rattle.std.specs.Prelude.{Ok}
use Rattle.refusal.specs.Refusals.{Answered}
use Rattle.refusal.proofs.OneToOne.{answered-one_to_one}
use Rattle.payload.proofs.At.{put_there, put_served}
use Rattle.replies.proofs.Carried.{width_there, number_put}
use Rattle.replies.proofs.put_number.Goals as goal

pub unwrap-requires : goal.unwrap-requires
unwrap-requires c =
    let is = answered-one_to_one _ (Ok _) (ap (λ (o : Answered ℕ × List ℕ). o.0) (c.put.ensures ∙ put_served _ _ _ _ c.requires.0 (width_there c.args.width _ c.requires.1))) in
    rw is

pub returns : goal.returns
returns c =
    number_put c.args.width _ _ _ _
    (put_there _ _ _ _ c.requires.0 (width_there c.args.width _ c.requires.1) _ _ c.put.ensures _ c.unwrap.ensures)
