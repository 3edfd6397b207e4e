-- `wire_log::writer::empty` meets its contract: eight zeros. Assumes nothing.
use Rattle.wire_log.proofs.Adding.{empty_refused, empty-laid}
use Rattle.wire_log.proofs.writer.empty.Goals as goal

pub returns-then-buffer-lt8 : goal.returns-then-buffer-lt8
returns-then-buffer-lt8 c = empty_refused _ c.if-buffer-lt8.true

pub returns : goal.returns
returns c = empty-laid _ c.if-buffer-lt8.false (c.fill.ensures.after (λ y h. h))
