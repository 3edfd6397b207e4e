-- `wire_log::text::text` meets its contract: at each return what the check said. Assumes nothing.
use mathlib.Core.Path.{ap, ◌∙◌}
use mathlib.Core.List.{List}
use Prim.Native.Nat.{ℕ}
use Rattle.wire_log.specs.Log.{kinds}
use Rattle.wire_log.specs.Text.{window}
use Rattle.wire_log.proofs.Printed.{text_refused}
use Rattle.wire_log.proofs.text.text.Goals as goal

pub returns-in-Err : goal.returns-in-Err
returns-in-Err c =
    let a = c.args in
    c.put_refused.ensures ∙ ap (λ (l : List ℕ). window l a.from a.out.now) (text_refused kinds a.file.now c.in-Err.ensures)
