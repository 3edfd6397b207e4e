-- `wire_log::text::put_from` meets its contract. Assumes nothing.
use Rattle.std.proofs.Common.{◌≡◌, ◌-◌, ◌+◌, ℕ, List, min, length, take, drop, sym, ap, ◌∙◌, arith, length-take}
use Rattle.wire_log.proofs.Rows.{take_to}
use Rattle.wire_log.proofs.Windows.{full_length, full_same, skipped_whole}
use Rattle.wire_log.proofs.Written.{copied_to, rest_from}
use Rattle.wire_log.proofs.text.put_from.Goals as goal
use Rattle.wire_log.proofs.text.put_from.Goals.{then-out-place-via-then-out-place, then-out-place-via-else-out-place+then-bytes-skip}

pub returns-then-out-place : goal.returns-then-out-place
returns-then-out-place c =
    let g = c.args in
    let rest = drop g.skip g.bytes.now in
    elim c.then-out-place.branch [
      | then-out-place-via-then-out-place w ↦
          (omega (arith, full_length g.out.now rest g.place w.if-out-place.true), sym (full_same g.out.now rest g.place w.if-out-place.true))
      | then-out-place-via-else-out-place+then-bytes-skip w ↦ skipped_whole g.bytes.now g.out.now g.skip g.place w.if-bytes-skip.true
    ]

pub returns : goal.returns
returns c =
    let g = c.args in
    let n = c.min-n.result in
    let rest : take (length g.bytes.now - g.skip) (drop g.skip g.bytes.now) ≡ drop g.skip g.bytes.now = rest_from g.skip g.bytes.now in
    let size : n ≡ min (length g.out.now - g.place) (length (drop g.skip g.bytes.now)) = omega (arith, c.min-n.ensures, ap (λ (l : List ℕ). length l) rest) in
    let part : c.copy_from_slice.new.self ≡ take (length g.out.now - g.place) (drop g.skip g.bytes.now) =
    c.copy_from_slice.ensures.after ∙ ap (take n) rest ∙ take_to n (length g.out.now - g.place) (drop g.skip g.bytes.now) size in
    let long : n ≡ length (take (length g.out.now - g.place) (drop g.skip g.bytes.now)) = size ∙ sym (length-take (length g.out.now - g.place) (drop g.skip g.bytes.now)) in
    (ap (λ (k : ℕ). g.place + k) long, copied_to _ _ _ part (ap (λ (k : ℕ). g.place + k) long))
