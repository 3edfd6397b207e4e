-- `mfc::receivers::mfc_feed` meets its contract. Assumes nothing.
use Rattle.std.proofs.Common.{rules, sym, ◌∙◌}
use Rattle.mfc.proofs.Heads.{loaded_long, loaded_noise}
use Rattle.mfc.proofs.Lent.{feed_bad, feed_held, stored_long, stored-noise}
use Rattle.mfc.proofs.receivers.mfc_feed.Goals as goal

pub returns-in-Err : goal.returns-in-Err
returns-in-Err c = feed_bad _ c.in-Err.ensures _ _ _ c.told.ensures

pub slice_bounds-feed-end : goal.slice_bounds-feed-end
slice_bounds-feed-end c = loaded_long _ c.in-Ok.ensures

pub put_after-requires : goal.put_after-requires
put_after-requires c =
    let l = c.args.«record».now in
    let long = loaded_long _ c.in-Ok.ensures in (
      stored_long l c.feed-fed.new.store long,
      loaded_noise _ c.in-Ok.ensures ∙ sym (stored-noise l c.feed-fed.new.store long),
    )

pub returns : goal.returns
returns c =
    feed_held _ c.in-Ok.ensures _ _ _ c.feed-fed.result (λ i. search rules) (loaded_long _ c.in-Ok.ensures)
    c.feed-fed.auto.store c.feed-fed.ensures c.put_after.ensures c.told-answer.ensures
