-- The place of the first 00.
use Rattle.std.proofs.Common.{rules, tests, ◌∙◌}
use Rattle.std.proofs.lemmas.Iterator.{YieldsList-from_slice}
use Rattle.std.proofs.lemmas.Iterator.Search.{position_from_yields_List}
use Rattle.replies.proofs.Text.{is_zero, text_length}
use Rattle.replies.proofs.text_len.Goals as goal

pub returns : goal.returns
returns c =
    let p = position_from_yields_List is_zero _ _ _ c.position.ensures.ran (YieldsList-from_slice c.args.bytes.now (cc)) (λ x b q h. search (rules, tests)) in
    c.unwrap_or.ensures ∙ text_length _ _ p
