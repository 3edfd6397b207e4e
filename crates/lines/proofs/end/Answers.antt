-- `lines::end` meets its contract: the line is made in a local, and copied where it fits. Assumes nothing.
use Prim.Native.Nat.{ℕ, ◌+◌, ◌-◌, ◌≤◌}
use native.Mathlib.Omega.{arith}
use mathlib.Core.Path.{◌≡◌, sym, ap, ◌∙◌}
use mathlib.Core.List.{List}
use lib.ListN.{length, take}
use lib.Seq.{length-take-le}
use Rattle.refusal.specs.Refusals.{served}
use Rattle.refusal.specs.Room.{overlay, emit}
use Rattle.refusal.proofs.Room.{emit_refused, emit_served, take-overlay, overlay-holds}
use Rattle.lines.specs.Text.{end_line}
use Rattle.lines.specs.Program.{limit}
use Rattle.lines.proofs.end.Goals as goal

-- the text, read again from the local
again : (line room text : List ℕ) (n : ℕ) → (n ≡ length line) × (text ≡ overlay room 0 line) → take n text ≡ line
again line room text n e = rw (e.0, e.1) (take-overlay room line)

holds : (line room text : List ℕ) (n : ℕ) → (n ≡ length line) × (text ≡ overlay room 0 line) → n ≤ length text
holds line room text n e = rw (e.0, e.1) (overlay-holds room line)

-- a line that fits
fits : (line room text out after : List ℕ) (n r : ℕ) → (n ≡ length line) × (text ≡ overlay room 0 line) → n ≤ length out
    → (r ≡ 0 + length (take n text)) × (after ≡ overlay out 0 (take n text)) → (served r, after) ≡ emit line out
fits line room text out after n r e h f =
    let same = again line room text n e in
    let count : r ≡ length line = omega (arith, f.0, ap length same) in
    rw (emit_served line out (omega (arith, e.0)), f.1 ∙ ap (overlay out 0) same, count)

pub returns-then-out-n : goal.returns-then-out-n
returns-then-out-n c = sym (emit_refused (end_line (limit - c.args.l.left)) c.args.out.now (omega (arith, c.put_end-n.ensures.0)))

pub slice_bounds-text-end : goal.slice_bounds-text-end
slice_bounds-text-end c = holds (end_line (limit - c.args.l.left)) _ _ _ c.put_end-n.ensures

pub slice_bounds-put-end : goal.slice_bounds-put-end
slice_bounds-put-end c = sym (length-take-le _ _ (holds (end_line (limit - c.args.l.left)) _ _ _ c.put_end-n.ensures))

pub returns : goal.returns
returns c =
    fits (end_line (limit - c.args.l.left)) _ c.put_end-n.new.out c.args.out.now _ _ _ c.put_end-n.ensures c.if-out-n.false c.put.ensures
