-- `mfc::receivers::make_fresh` meets its contract. Assumes nothing.
use Rattle.std.proofs.Common.{sym, ◌∙◌}
use Rattle.mfc.proofs.Lent.{fresh_short, fresh_kind, fresh-made, fresh_never}
use Rattle.mfc.proofs.receivers.make_fresh.Goals as goal

pub returns-then-room-lt-RECORD_SIZE : goal.returns-then-room-lt-RECORD_SIZE
returns-then-room-lt-RECORD_SIZE c = fresh_short _ _ c.if-room-lt-RECORD_SIZE.true

pub returns-in_default : goal.returns-in_default
returns-in_default c = fresh_kind _ _ c.if-room-lt-RECORD_SIZE.false (sym c.in_default.is ∙ c.try_from.ensures)

pub returns-in_err-fresh : goal.returns-in_err-fresh
returns-in_err-fresh c = let a = c.args in
    absurd (fresh_never a.kind a.room.now c.if-room-lt-RECORD_SIZE.false (sym c.in-Ok.is ∙ c.try_from.ensures) c.fresh.result c.fresh.ensures c.in_err-fresh.was)

pub returns : goal.returns
returns c = fresh-made _ _ c.if-room-lt-RECORD_SIZE.false (sym c.in-Ok.is ∙ c.try_from.ensures) c.fresh.result c.fresh.ensures c.in_ok-fresh.was c.put_head.ensures
