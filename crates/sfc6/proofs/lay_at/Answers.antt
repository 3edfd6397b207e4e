-- `sfc6::lay_at` meets its contract: the frame is laid down part by part. Assumes nothing.
use native.Mathlib.Omega.{arith}
use mathlib.Core.Path.{ap, ◌∙◌}
use mathlib.Core.List.{List}
use Prim.Native.Nat.{ℕ}
use lib.ListN.{length}
use Rattle.refusal.specs.Room.{overlay}
use Rattle.shdlc.specs.Frame.{frame_of}
use Rattle.sfc6.proofs.Plain.{form_plain}
use Rattle.sfc6.proofs.Laid.{front_short, sub_short, sized_short, command_wrote, frame_short, form_body}
use Rattle.sfc6.proofs.lay_at.Goals as goal

pub put_sub-middle-requires : goal.put_sub-middle-requires
put_sub-middle-requires c =
    omega (arith, front_short c.args.address c.form_at-form.result.0 c.data_size-count.result, c.put_front-front.ensures.0, c.requires.1)

pub put_number-end-requires : goal.put_number-end-requires
put_number-end-requires c =
    let f = c.form_at-form.result in
    omega (arith, front_short c.args.address f.0 c.data_size-count.result, sub_short f.1, c.put_front-front.ensures.0, c.put_sub-middle.ensures.0, c.requires.1)

pub put_end-requires : goal.put_end-requires
put_end-requires c =
    let f = c.form_at-form.result in
    omega (
      arith,
      front_short c.args.address f.0 c.data_size-count.result,
      sub_short f.1,
      sized_short f.2 c.args.n,
      c.put_front-front.ensures.0,
      c.put_sub-middle.ensures.0,
      c.put_number-end.ensures.0,
      c.requires.1,
    )

pub returns : goal.returns
returns c =
    let a = c.args in
    let f = c.form_at-form.result in
    let is = c.form_at-form.ensures in
    let easy = form_plain a.place is.0 is.1 in
    let began = rw c.data_size-count.ensures.0 at c.put_front-front.ensures in
    let all = command_wrote a.address f.0 f.1 f.2 a.n easy _ _ _ _ _ _ _ _ _ _ began c.put_sub-middle.ensures c.put_number-end.ensures
    c.put_end.ensures
    (omega (arith, c.from.ensures, c.from-2.ensures, c.from-3.ensures, c.from-4.ensures, c.unwrap_or.ensures, c.data_size-count.ensures.0, c.sum_of_number.ensures)) in
    let body = form_body a.address a.place a.n is.0 is.1 is.2 in
    let short = frame_short a.address f.0 f.1 f.2 a.n easy in
    (omega (arith, all.0, short), all.0 ∙ ap (λ (x : List ℕ). length (frame_of x)) body, all.1 ∙ ap (λ (x : List ℕ). overlay a.out.now 0 (frame_of x)) body)
