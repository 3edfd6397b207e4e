-- `wire_log::text::put_lines` meets its contract. Assumes nothing.
use Rattle.std.proofs.Common.{◌≡◌, ◌∷◌, ◌<◌, ◌≤◌, ◌+◌, ◌-◌, ◌*◌, ℕ, List, length, take, drop, sym, subst, ap, ◌∙◌, arith, le_refl}
use lib.Seq.{take_all}
use Rattle.refusal.specs.Refusals.{served}
use Rattle.payload.specs.Field.{Bytes}
use Rattle.payload.proofs.Big.{take-bytes}
use Rattle.wire_log.specs.Log.{LogRecord, recorded, kinds}
use Rattle.wire_log.specs.Check.{records_before, counting, records_of}
use Rattle.wire_log.specs.Kinds.{number_of_kind}
use Rattle.wire_log.specs.Listing.{rowed}
use Rattle.wire_log.specs.Text.{word_of, line_of, lines_of, log_text}
use Rattle.wire_log.specs.Private.{last_in, records_in, shown}
use Rattle.wire_log.proofs.Turns.{passed}
use Rattle.wire_log.proofs.Fronts.{records_to_front}
use Rattle.wire_log.proofs.Rests.{short, fronts, turned, before_is, fewer, none_found, cut_in}
use Rattle.wire_log.proofs.Windows.{Laying, laying_full, window_is}
use Rattle.wire_log.proofs.Lines.{word_short}
use Rattle.wire_log.proofs.Printed.{lines_start, lines_more, lines_over, found-line}
use Rattle.wire_log.proofs.text.put_lines.Goals as goal

pub slice_bounds-rest-count : goal.slice_bounds-rest-count
slice_bounds-rest-count c = (passed kinds _ _ c.requires).long

-- the records before the closing bytes
records_here : (file : List ℕ) → shown (records_in kinds (take (length file - 8) file)) ≡ shown (records_before kinds file (length file - 8))
records_here file = ap shown (records_to_front kinds file (length file - 8) (omega arith))

pub loop-init : goal.loop-init
loop-init c =
    let p = passed kinds c.args.file.now c.args.count c.requires in
    let all : List ℕ = take (length c.args.file.now - 8) c.args.file.now in (
      sym (take_all (length all) all (le_refl (length all))),
      omega (arith, p.many, ap (λ (l : List LogRecord). length l) (records_here c.args.file.now ∙ p.before)),
      subst (λ (l : List LogRecord). Laying (lines_of l) c.args.out.now 0 (take (length c.args.out.now) (drop c.args.from (log_text kinds c.args.file.now))) c.args.out.now 0 c.args.from)
          (sym (records_here c.args.file.now)) (lines_start kinds c.args.file.now c.args.count c.requires c.args.out.now c.args.from),
    )

-- what is found where lines are left to be laid
record Here (rest : List ℕ) (kind start size : ℕ) : Type 0 where
  ends : start + (size + 3) ≡ length rest
  few : length rest ≤ 65000
  newest : shown (records_in kinds rest) ≡ recorded kind (take (start + size - start) (drop start rest)) ∷ shown (records_in kinds (take start rest))
  one : length (shown (records_in kinds rest)) ≡ length (shown (records_in kinds (take start rest))) + 1
  line : length (word_of kind) + (3 * size + 1) ≡ length (line_of (recorded kind (take (start + size - start) (drop start rest))))

here : (file : List ℕ) (count : ℕ) (rest : List ℕ) (left : ℕ) {kind start size : ℕ} → Bytes file → served count ≡ counting (records_of kinds file)
    → rest ≡ take (length rest) (take (length file - 8) file)
    → left ≡ length (shown (records_in kinds rest)) → 0 < left → served (rowed kind start size) ≡ last_in kinds rest → Here rest kind start size
here file count rest left {kind} {start} {size} bytes checked front many some found =
    let inside : Bytes rest = subst Bytes (sym front) (take-bytes (length rest) (take (length file - 8) file) (take-bytes (length file - 8) file bytes)) in
    let t = turned kinds rest inside (omega arith) found in
    let whole : start + size - start ≡ size = omega arith in
    record {
      ends = t.ends;
      few = omega (arith, short kinds file rest (length file - 8) (omega arith) front, (passed kinds file count checked).short);
      newest = t.newest ∙ (λ i. recorded kind (take (sym whole i) (drop start rest)) ∷ sym (before_is kinds rest found) i);
      one = fewer kinds rest found t;
      line = found-line kind start size rest (omega (arith, t.ends)) ∙ ap (λ (n : ℕ). length (line_of (recorded kind (take n (drop start rest))))) (sym whole);
    }

pub overflow_add-start : goal.overflow_add-start
overflow_add-start c =
    let h = here c.args.file.now c.args.count c.loop.rest.now _ (λ i. (c.type_inv.file i).fits) c.requires c.loop.invariant.0 c.loop.invariant.1 (omega (arith, c.loop-test.true)) c.in-Ok.ensures in
    omega (arith, h.ends, h.few)

pub slice_bounds-put_line-end : goal.slice_bounds-put_line-end
slice_bounds-put_line-end c =
    let h = here c.args.file.now c.args.count c.loop.rest.now _ (λ i. (c.type_inv.file i).fits) c.requires c.loop.invariant.0 c.loop.invariant.1 (omega (arith, c.loop-test.true)) c.in-Ok.ensures in
    omega (arith, h.ends)

pub overflow_mul-size : goal.overflow_mul-size
overflow_mul-size c =
    let h = here c.args.file.now c.args.count c.loop.rest.now _ (λ i. (c.type_inv.file i).fits) c.requires c.loop.invariant.0 c.loop.invariant.1 (omega (arith, c.loop-test.true)) c.in-Ok.ensures in
    omega (arith, h.ends, h.few)

pub overflow_add-word : goal.overflow_add-word
overflow_add-word c =
    let h = here c.args.file.now c.args.count c.loop.rest.now _ (λ i. (c.type_inv.file i).fits) c.requires c.loop.invariant.0 c.loop.invariant.1 (omega (arith, c.loop-test.true)) c.in-Ok.ensures in
    omega (arith, h.ends, h.few, ap (λ (l : List ℕ). length l) c.word.ensures, word_short (number_of_kind c.in-Ok.newest.kind))

pub overflow_add-word-in-loop : goal.overflow_add-word-in-loop
overflow_add-word-in-loop c =
    let h = here c.args.file.now c.args.count c.loop.rest.now _ (λ i. (c.type_inv.file i).fits) c.requires c.loop.invariant.0 c.loop.invariant.1 (omega (arith, c.loop-test.true)) c.in-Ok.ensures in
    omega (arith, h.ends, h.few, ap (λ (l : List ℕ). length l) c.word.ensures, word_short (number_of_kind c.in-Ok.newest.kind))

pub slice_bounds-rest-end : goal.slice_bounds-rest-end
slice_bounds-rest-end c = cut_in kinds _ c.in-Ok.ensures

pub loop-preserved : goal.loop-preserved
loop-preserved c =
    let h = here c.args.file.now c.args.count c.loop.rest.now _ (λ i. (c.type_inv.file i).fits) c.requires c.loop.invariant.0 c.loop.invariant.1 (omega (arith, c.loop-test.true)) c.in-Ok.ensures in (
      fronts kinds _ c.in-Ok.ensures _ c.loop.invariant.0,
      omega (arith, c.loop.invariant.1, h.one),
      lines_more _ _ _ c.loop.out c.loop.next c.loop.left _ _ h.newest c.loop.invariant.2 c.put_line-next.ensures
          (c.saturating_sub-left.ensures ∙ ap (λ (n : ℕ). c.loop.left - n) (omega (arith, ap (λ (l : List ℕ). length l) c.word.ensures, h.line))),
    )

pub returns-after-loop : goal.returns-after-loop
returns-after-loop c = lines_over _ _ _ _ _ _ (omega (arith, c.loop.invariant.1, c.loop-test.false)) c.loop.invariant.2

pub returns-then-out-next : goal.returns-then-out-next
returns-then-out-next c = window_is _ _ _ _ (laying_full _ _ _ _ _ _ _ c.loop.invariant.2 c.if-out-next.true)

pub returns-in_default : goal.returns-in_default
returns-in_default c = absurd (omega (arith, c.loop-test.true, c.loop.invariant.1, none_found kinds c.loop.rest.now c.in_default.ensures))
