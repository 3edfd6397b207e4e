-- `sfc6::write_request` meets its contract. Assumes nothing.
use mathlib.Core.Path.{ap, ◌∙◌}
use mathlib.Core.List.{List}
use Prim.Native.Nat.{ℕ}
use Rattle.std.proofs.Common.{rules}
use Rattle.refusal.specs.Room.{emit}
use Rattle.shdlc.specs.Frame.{frame_of}
use Rattle.sfc6.proofs.Plain.{request-body}
use Rattle.sfc6.proofs.Writing.{frame_by_check, write_refused, write_laid}
use Rattle.sfc6.proofs.write_request.Goals as goal

pub returns-in_err-check_request : goal.returns-in_err-check_request
returns-in_err-check_request c =
    let a = c.args in
    let check = frame_by_check a.address a.request c.check_request.result c.check_request.ensures in
    let refused = write_refused a.address a.request a.out.now _ _ check c.in_err-check_request.was in
    search rules

pub returns : goal.returns
returns c =
    let a = c.args in
    let body = request-body a.address a.request c.place_of.ensures.0 c.value_of.ensures in
    write_laid _ _ _ _ _ (frame_by_check a.address a.request c.check_request.result c.check_request.ensures) c.in_ok-check_request.was
    (c.lay_numbered.ensures ∙ ap (λ (b : List ℕ). emit (frame_of b) a.out.now) body)
