-- `wire_log::listing::list` meets its contract. Assumes nothing.
use Rattle.std.proofs.Common.{◌≡◌, ◌-◌, ℕ, List, length, take, drop, refl, ap, ◌∙◌, arith}
use Rattle.std.proofs.lemmas.Result.{err_from_is_err_and}
use Rattle.refusal.specs.Refusals.{Answered}
use Rattle.refusal.specs.Room.{overlay}
use Rattle.wire_log.specs.Log.{LogRecord, kinds}
use Rattle.wire_log.specs.Check.{records_before}
use Rattle.wire_log.specs.Listing.{rows_of, numbers_of}
use Rattle.wire_log.specs.Oldest.{LeavesOut}
use Rattle.wire_log.specs.Private.{records_in, shown}
use Rattle.wire_log.proofs.Turns.{passed}
use Rattle.wire_log.proofs.Rows.{list_refused, list_past, list_short, list_fits, list_done}
use Rattle.wire_log.proofs.Rests.{front_records, left_out_of}
use Rattle.wire_log.proofs.listing.list.Goals as goal

-- the older records in the file
module _ (file rest : List ℕ) where
  outs : (skip : ℕ) → rest ≡ take (length rest) (take (length file - 8) file) → shown (records_in kinds rest) ≡ drop skip (shown (records_in kinds (take (length file - 8) file)))
      → LeavesOut kinds file (length file - 8) skip (length rest)
  outs skip front left = left_out_of kinds file (take (length file - 8) file) rest (length file - 8) skip (omega arith) refl front left

  many : rest ≡ take (length rest) (take (length file - 8) file) → length (shown (records_in kinds rest)) ≡ length (shown (records_before kinds file (length rest)))
  many front = ap (λ (a : Answered (List LogRecord)). length (shown a)) (front_records kinds file rest (length file - 8) (omega arith) front)

pub returns-in_err-count : goal.returns-in_err-count
returns-in_err-count c =
    let p = err_from_is_err_and c.from_residual.result c.from_residual.ensures.1 in rw (p.1, p.2) (list_refused kinds _ _ _ c.in_err-count.ensures)

pub returns-then-count-skip : goal.returns-then-count-skip
returns-then-count-skip c = list_past kinds _ _ _ _ c.in_ok-count.ensures c.if-count-skip.true

pub returns-then-rows-lt3 : goal.returns-then-rows-lt3
returns-then-rows-lt3 c = list_short kinds _ _ _ _ c.in_ok-count.ensures c.if-count-skip.false c.if-rows-lt3.true

pub put_rows-requires : goal.put_rows-requires
put_rows-requires c =
    let out = outs c.args.file.now c.older-records.result.now c.args.skip c.older-records.ensures.front c.older-records.ensures.left in
    let fits = list_fits kinds c.args.file.now c.args.skip c.args.rows.now _ c.in_ok-count.ensures c.if-count-skip.false _ _ c.min-n.ensures out.0 (out.1 (omega arith)) in
    (fits.0, omega (arith, fits.2, many c.args.file.now c.older-records.result.now c.older-records.ensures.front), fits.3)

pub returns : goal.returns
returns c =
    let out = outs c.args.file.now c.older-records.result.now c.args.skip c.older-records.ensures.front c.older-records.ensures.left in
    list_done kinds c.args.file.now c.args.skip c.args.rows.now _ c.in_ok-count.ensures c.if-count-skip.false _ _ c.if-rows-lt3.false c.min-n.ensures (out.1 (omega arith))
    (c.put_rows.ensures ∙ ap (λ (a : Answered (List LogRecord)). overlay c.args.rows.now 0 (numbers_of (take c.min-n.result (rows_of (shown a)))))
    (front_records kinds _ _ _ (omega arith) c.older-records.ensures.front))

pub slice_bounds-older-count : goal.slice_bounds-older-count
slice_bounds-older-count c = (passed kinds _ _ c.in_ok-count.ensures).long
