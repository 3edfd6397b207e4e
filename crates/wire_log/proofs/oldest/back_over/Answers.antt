-- `wire_log::oldest::back_over` meets its contract. Assumes nothing.
use Rattle.std.proofs.Common.{ℕ, take, ap, ◌∙◌}
use native.Mathlib.Nat.{sub-zero}
use Rattle.wire_log.specs.Log.{kinds}
use Rattle.wire_log.proofs.Rests.{left_out_of}
use Rattle.wire_log.proofs.oldest.back_over.Goals as goal

pub returns-in-Some : goal.returns-in-Some
returns-in-Some c =
    let got = c.in-Some.ensures.lookup.0 in
    left_out_of kinds _ _ _ _ _ got.1 (got.2 ∙ ap (λ (n : ℕ). take n c.args.file.now) (sub-zero c.args.place)) c.older.ensures.front c.older.ensures.left
