-- `refusal::laying::copy` meets its contract. Assumes nothing.
use mathlib.Core.Path.{refl}
use mathlib.Core.Bool.{Bool, true, false}
use native.Mathlib.Nat.{zero-add}
use borrow.Author.Tests.{ltb-true, ltb-false}
use lib.Dec.{ltb}
use Rattle.std.proofs.Common.{◌≡◌, ◌≤◌, min, ◌+◌, ◌<◌, ◌++◌, ◌∙◌, ℕ, List, length, take, drop, ap, sym, arith, length-take, length-set, slice_set, slice_index_or}
use lib.Seq.{take_all}
use Rattle.refusal.specs.Room.{overlay}
use Rattle.refusal.proofs.Room.{write_here, write_end, overlay_all}
use Rattle.refusal.proofs.laying.copy.Goals as goal

-- as many bytes as the room has places for, and how they lie over it
taken : (all out : List ℕ) (n : ℕ) → n ≡ min (length all) (length out) → take (length out) all ≡ take n all
taken all out n e = go (ltb (length all) (length out)) refl
  where
    go : (t : Bool) → ltb (length all) (length out) ≡ t → take (length out) all ≡ take n all
    go true h =
        let less = ltb-true (length all) (length out) h in
        take_all (length out) all (omega arith) ∙ sym (take_all n all (omega (arith, e)))
    go false h =
        let more = ltb-false (length all) (length out) h in
        let is : length out ≡ n = omega (arith, e) in
        ap (λ (k : ℕ). take k all) is

over : (out bytes : List ℕ) (n : ℕ) → length bytes ≡ n → overlay out 0 bytes ≡ bytes ++ drop n out
unfolding overlay
over out bytes n e = ap (λ (k : ℕ). bytes ++ drop k out) (zero-add (length bytes) ∙ e)

pub loop-i-preserved : goal.loop-i-preserved
loop-i-preserved c =
    let l = c.loop-i in
    let n = c.min-n.result in
    let room = take n c.args.out.now in
    let bytes = take (length room) c.args.bytes.now in
    let size : length room ≡ n = omega (arith, length-take n c.args.out.now, c.min-n.ensures) in
    let same : take n c.args.bytes.now ≡ bytes = ap (λ (k : ℕ). take k c.args.bytes.now) (sym size) in
    let h : l.i < length bytes = omega (arith, ap length same, c.loop-i-test.true) in (
      simp length-set l.invariant.0,
      ap (λ (x : List ℕ). overlay (slice_set l.room l.i (slice_index_or x l.i 0)) (l.i + 1) (drop (l.i + 1) bytes)) same
          ∙ write_here l.room bytes l.i l.i h (omega (arith, l.invariant.0, size, length-take n c.args.bytes.now, c.loop-i-test.true)) ∙ l.invariant.1,
    )

pub returns-clause-over : goal.returns-clause-over
returns-clause-over c =
    let l = c.loop-i in
    let n = c.min-n.result in
    let out = c.args.out.now in
    let all = c.args.bytes.now in
    let room = take n out in
    let bytes = take (length room) all in
    let size : length room ≡ n = omega (arith, length-take n out, c.min-n.ensures) in
    let same : take n all ≡ bytes = ap (λ (k : ℕ). take k all) (sym size) in
    let long : length bytes ≡ n = omega (arith, ap length same, length-take n all, c.min-n.ensures) in
    let past : length bytes ≤ l.i = omega (arith, ap length same, c.loop-i-test.false) in
    let written : l.room ≡ bytes = sym (write_end l.room bytes l.i l.i past) ∙ l.invariant.1 ∙ overlay_all room bytes (omega (arith, long, size)) in
    let most : take (length out) all ≡ bytes = taken all out n c.min-n.ensures ∙ same in
    ap (λ (x : List ℕ). x ++ drop n out) written ∙ sym (ap (λ (x : List ℕ). overlay out 0 x) most ∙ over out bytes n long)

pub returns-clause-whole : goal.returns-clause-whole
returns-clause-whole c =
    λ h.
    returns-clause-over c
    ∙ ap (λ (x : List ℕ). overlay c.args.out.now 0 x) (take_all (length c.args.out.now) c.args.bytes.now (omega (arith, h)))
    ∙ overlay_all c.args.out.now c.args.bytes.now (sym h)
