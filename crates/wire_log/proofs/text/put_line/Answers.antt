-- `wire_log::text::put_line` meets its contract. Assumes nothing.
use Rattle.std.proofs.Common.{◌∷◌, [], refl, ◌∙◌, arith}
use Rattle.wire_log.specs.Kinds.{number_of_kind}
use Rattle.wire_log.specs.Text.{hex_byte}
use Rattle.wire_log.proofs.Windows.{laying_full}
use Rattle.wire_log.proofs.Spelled.{three_stored, word_laid, bytes_skipped, byte_laid, line_ended}
use Rattle.wire_log.proofs.text.put_line.Goals as goal
use Rattle.wire_log.proofs.text.put_line.Goals.{then-left-eq0+then-out-next-ge3, else-left-eq0}

pub loop-b-init : goal.loop-b-init
loop-b-init c =
    bytes_skipped _ _ _ _ _ _ _ _ _ c.min-skipped.ensures refl
    (word_laid (number_of_kind c.args.kind) c.args.body.now c.args.out.now _ c.args.place c.args.skip c.requires c.word-word.ensures c.put_from-next.ensures c.saturating_sub-past_word.ensures)

pub loop-b-preserved : goal.loop-b-preserved
unfolding hex_byte
loop-b-preserved c =
    elim c.if-left-eq0.branch [
      | then-left-eq0+then-out-next-ge3 w ↦
          byte_laid _ _ _ _ _ _ _ _ c.loop-b.invariant c.loop-b-test.true (λ i. 32 ∷ c.hex_digit.ensures i ∷ c.hex_digit-in-loop-b.ensures i ∷ [])
          (three_stored _ _ _ _ _ _ w.if-left-eq0.true w.if-out-next-ge3.true w.next-is w.out-is) (omega (arith, w.left-is, w.if-left-eq0.true))
      | else-left-eq0 w ↦ byte_laid _ _ _ _ _ _ _ _ c.loop-b.invariant c.loop-b-test.true (λ i. 32 ∷ c.hex_digit.ensures i ∷ c.hex_digit-in-loop-b.ensures i ∷ [])
          (w.next-is ∙ w.put_from-next-else-left-eq0.ensures.0, w.out-is ∙ w.put_from-next-else-left-eq0.ensures.1) (w.left-is ∙ w.saturating_sub-left.ensures)
    ]

pub returns-then-out-next : goal.returns-then-out-next
returns-then-out-next c = laying_full _ _ _ _ _ _ _ c.loop-b.invariant c.if-out-next.true

pub returns : goal.returns
returns c = line_ended _ _ _ _ _ _ _ _ c.loop-b.invariant c.loop-b-test.false c.put_from.ensures
