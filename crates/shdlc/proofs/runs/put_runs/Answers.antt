use mathlib.Core.Path.{◌≡◌, sym, ap, ◌∙◌}
use mathlib.Core.List.{List, [], ◌∷◌, ◌++◌}
use Prim.Native.Nat.{ℕ, ◌+◌, ◌-◌, ◌≤◌, ◌<◌}
use native.Mathlib.Omega.{arith}
use lib.Bits.{bit_xor}
use lib.ListN.{length, get_or, take, drop, set, length-set, length-drop}
use lib.Seq.{drop-drop, take_all}
use Rattle.refusal.specs.Room.{overlay}
use Rattle.refusal.proofs.Room.{overlay_nothing, overlay-more, set-two}
use Rattle.refusal.proofs.Rest.{rest_end}
use Rattle.shdlc.specs.Stuffing.{stuff_byte, stuff}
use Rattle.shdlc.specs.Runs.{run_of}
use Rattle.shdlc.proofs.Stuffing.{sent_escaped, sent_plain, stuff_nothing, stuff_here, stuff_long, length_here}
use Rattle.shdlc.proofs.RunLaws.{run_short, run_starts, run_length, run_laid}
use Rattle.shdlc.proofs.runs.put_runs.Goals as goal

-- a byte at a place that is sent after a 7D
module _ (out l : List ℕ) (o i : ℕ) (h : i < length l) (escaped : stuff_byte (get_or l i 0) ≡ 0x7D ∷ bit_xor (get_or l i 0) 0x20 ∷ [])
    (fits : o + length (stuff (drop i l)) ≤ length out) where
  here : length (stuff (drop i l)) ≡ 2 + length (stuff (drop (i + 1) l))
  here = length_here l i h ∙ ap (λ (w : List ℕ). length w + length (stuff (drop (i + 1) l))) escaped

  two : o + 1 < length out
  two = omega (arith, here)

  pair-laid : overlay (set (set out o 0x7D) (o + 1) (bit_xor (get_or l i 0) 0x20)) (o + 1 + 1) (stuff (drop (i + 1) l))
      ≡ overlay out o (stuff (drop i l))
  pair-laid =
      let after : List ℕ = stuff (drop (i + 1) l) in
      let pair : List ℕ = 0x7D ∷ bit_xor (get_or l i 0) 0x20 ∷ [] in
      let next : o + 1 + 1 ≡ o + 2 = omega arith in
      let k : o ≤ length out = omega arith in
      let whole : stuff (drop i l) ≡ pair ++ after = stuff_here l i h ∙ ap (λ (w : List ℕ). w ++ after) escaped in
      rw (next, set-two out o 0x7D (bit_xor (get_or l i 0) 0x20) two) (overlay-more out o pair after k ∙ ap (overlay out o) (sym whole))

-- a run at a place, written with some of the bytes behind it
module _ (out l : List ℕ) (o i : ℕ) (within : i ≤ length l) (fits : o + length (stuff (drop i l)) ≤ length out) where
  whole-rest : take (length l - i) (drop i l) ≡ drop i l
  whole-rest = take_all (length l - i) (drop i l) (rw (length-drop i l) (omega arith))

  run-laid : (n m : ℕ) → n ≡ run_of (drop i l) → n ≤ m → m ≤ length (drop i l)
      → overlay (overlay out o (take m (drop i l))) (o + n) (stuff (drop (i + n) l)) ≡ overlay out o (stuff (drop i l))
  run-laid n m e h k =
      let rest : List ℕ = drop i l in
      let written : List ℕ = overlay out o (take m rest) in
      ap (λ (w : List ℕ). overlay written (o + n) (stuff w)) (sym (drop-drop n i l))
      ∙ ap (λ (j : ℕ). overlay written (o + j) (stuff (drop j rest))) e
      ∙ run_laid out o rest m (omega arith) k fits

pub bounds-out-o : goal.bounds-out-o
bounds-out-o c =
    let l = c.loop-i in
    let t = two l.out c.args.bytes.now l.o l.i (omega arith) (sent_escaped _ c.is_escaped.ensures c.if-is_escaped.true) (omega arith) in
    omega (arith, t)

pub bounds-out-next : goal.bounds-out-next
bounds-out-next c =
    let l = c.loop-i in
    let t = two l.out c.args.bytes.now l.o l.i (omega arith) (sent_escaped _ c.is_escaped.ensures c.if-is_escaped.true) (omega arith) in
    simp length-set t

pub loop-i-preserved-then-is_escaped : goal.loop-i-preserved-then-is_escaped
loop-i-preserved-then-is_escaped c =
    let l = c.loop-i in
    let b = c.args.bytes.now in
    let e = sent_escaped _ c.is_escaped.ensures c.if-is_escaped.true in
    let h = here l.out b l.o l.i (omega arith) e (omega arith) in (
      omega arith,
      omega (arith, h),
      pair-laid l.out b l.o l.i (omega arith) e (omega arith) ∙ l.invariant.2,
      simp length-set l.invariant.3,
    )

pub copy_run-requires : goal.copy_run-requires
copy_run-requires c =
    let l = c.loop-i in
    let b = c.args.bytes.now in
    let s = whole-rest l.out b l.o l.i (omega arith) (omega arith) in
    let run = c.run_of-n.ensures ∙ ap run_of s in
    let short = run_short (drop l.i b) in
    let long = stuff_long (drop l.i b) in
    rw s (omega (arith, run), omega arith)

pub loop-i-smaller : goal.loop-i-smaller
loop-i-smaller c =
    let l = c.loop-i in
    let b = c.args.bytes.now in
    let s = whole-rest l.out b l.o l.i (omega arith) (omega arith) in
    let run = c.run_of-n.ensures ∙ ap run_of s in
    let some = run_starts b l.i (omega arith) (sent_plain _ c.is_escaped.ensures c.if-is_escaped.false) in
    omega (arith, run, some)

pub loop-i-preserved : goal.loop-i-preserved
loop-i-preserved c =
    let l = c.loop-i in
    let b = c.args.bytes.now in
    let n = c.run_of-n.result in
    let s = whole-rest l.out b l.o l.i (omega arith) (omega arith) in
    let run : n ≡ run_of (drop l.i b) = c.run_of-n.ensures ∙ ap run_of s in
    let short = run_short (drop l.i b) in
    let left = length-drop l.i b in
    let e = rw s at c.copy_run.ensures in (
      omega (arith, run),
      rw (run, ← drop-drop (run_of (drop l.i b)) l.i b) (omega (arith, run_length (drop l.i b))),
      ap (λ (w : List ℕ). overlay w (l.o + n) (stuff (drop (l.i + n) b))) e.2
          ∙ run-laid l.out b l.o l.i (omega arith) (omega arith) n c.copy_run.result run e.0 e.1 ∙ l.invariant.2,
      omega arith,
    )

pub returns : goal.returns
returns c =
    let inv = rw (rest_end _ _ c.loop-i-test.false, stuff_nothing) at c.loop-i.invariant in
    (omega arith, sym (overlay_nothing _ _) ∙ inv.2)
