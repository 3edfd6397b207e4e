-- `wire_log::oldest::newest` meets its contract. Assumes nothing.
use native.Mathlib.Nat.{sub-zero}
use Rattle.std.proofs.Common.{◌≡◌, ◌<◌, inl, inr, ℕ, length, take, ap, ◌∙◌, arith}
use Rattle.wire_log.specs.Log.{kinds}
use Rattle.wire_log.specs.Private.{last_in}
use Rattle.wire_log.proofs.Fronts.{last_front}
use Rattle.wire_log.proofs.Halves.{newest_past, newest_at}
use Rattle.wire_log.proofs.oldest.newest.Goals as goal

pub returns-in_err-get : goal.returns-in_err-get
returns-in_err-get c =
    let past : length c.args.file.now < c.args.place = elim c.in_err-get.ensures.lookup.0 [ inl h ↦ absurd (omega arith) | inr h ↦ h ] in
    rw c.from_residual.ensures (record { row = newest_past _ _ _ past; some = λ h. absurd (omega (arith, h, past)); inside = tt })

pub returns : goal.returns
returns c =
    let got = c.in_ok-get.ensures.lookup.0 in
    let front : c.in_ok-get.field-0.now ≡ take c.args.place c.args.file.now = got.2 ∙ ap (λ (n : ℕ). take n c.args.file.now) (sub-zero c.args.place) in
    let at = newest_at kinds c.args.file.now c.args.place c.last.result got.1
    (c.last.ensures ∙ ap (last_in kinds) front ∙ last_front kinds _ _ got.1) in
    rw c.ok.ensures.value (record { row = at.0; some = λ h. at.1; inside = at.2 })
