-- `wire_log::listing::put_rows` meets its contract. Assumes nothing.
use lib.Seq.{take_all}
use lib.ListN.{set}
use Rattle.std.proofs.Common.{le_refl, ◌≡◌, ◌≤◌, ◌<◌, ◌+◌, ◌*◌, ◌-◌, [], ◌∷◌, refl, sym, subst, ap, ◌∙◌, ℕ, List, length, take, arith}
use Rattle.refusal.specs.Refusals.{served}
use Rattle.refusal.specs.Room.{overlay}
use Rattle.refusal.proofs.Room.{length-overlay}
use Rattle.payload.specs.Field.{Bytes}
use Rattle.payload.proofs.Big.{take-bytes}
use Rattle.wire_log.specs.Log.{kinds}
use Rattle.wire_log.specs.Listing.{rowed, rows_of, numbers_of}
use Rattle.wire_log.specs.Private.{last_in, records_in, shown}
use Rattle.wire_log.proofs.Turns.{Turn}
use Rattle.wire_log.proofs.Rows.{set-row, rows_start, rows_more, rows-over}
use Rattle.wire_log.proofs.Rests.{lower, cut, cut_in, fronts, turned, before_is, fewer, none_found}
use Rattle.wire_log.proofs.listing.put_rows.Goals as goal

front_bytes : (rest records : List ℕ) → Bytes records → rest ≡ take (length rest) records → Bytes rest
front_bytes rest records bytes e = subst Bytes (sym e) (take-bytes (length rest) records bytes)

-- one row more
module _ (rest rows : List ℕ) (i n : ℕ) (h : i < n) (room : 3 * n ≤ length rows) {kind start size : ℕ}
    (found : served (rowed kind start size) ≡ last_in kinds rest) (t : Turn kinds rest (length rest) kind start size) {after : List ℕ}
    (stored : after ≡ set (set (set rows (3 * i) kind) (3 * i + 1) start) (3 * i + 2) size) where
  laid : after ≡ overlay rows (3 * i) (kind ∷ start ∷ size ∷ [])
  laid = stored ∙ set-row rows (3 * i) kind start size (omega arith)

  kept : length after ≡ length rows
  kept = ap (λ (l : List ℕ). length l) laid ∙ length-overlay rows (3 * i) (kind ∷ start ∷ size ∷ []) (omega arith)

  more : overlay after (3 * (i + 1)) (numbers_of (take (n - (i + 1)) (rows_of (shown (records_in kinds (take start rest))))))
      ≡ overlay rows (3 * i) (numbers_of (take (n - i) (rows_of (shown (records_in kinds rest)))))
  more =
      (λ j. overlay (laid j) (3 * (i + 1)) (numbers_of (take (n - (i + 1)) (rows_of (before_is kinds rest found j)))))
      ∙ rows_more kinds rest rows i n (length rest) h (le_refl (length rest)) (omega (arith, room, h)) t

pub loop-i-init : goal.loop-i-init
loop-i-init c = (sym (take_all (length c.args.records.now) c.args.records.now (le_refl _)), c.requires.0, omega (arith, c.requires.1), refl, rows_start kinds c.args.records.now c.args.rows.now c.args.n (length c.args.records.now))

pub returns-in_default : goal.returns-in_default
returns-in_default c = absurd (omega (arith, c.loop-i-test.true, c.loop-i.invariant.2, none_found kinds c.loop-i.rest.now c.in_default.ensures))

pub overflow_cast-rows : goal.overflow_cast-rows
overflow_cast-rows c = omega (arith, c.loop-i.invariant.1, lower kinds c.loop-i.rest.now c.in-Ok.ensures)

pub overflow_cast-rows-in-loop-i : goal.overflow_cast-rows-in-loop-i
overflow_cast-rows-in-loop-i c =
    let inv = c.loop-i.invariant in
    let t = turned kinds c.loop-i.rest.now (front_bytes _ _ (λ i. (c.type_inv.records i).fits) inv.0) (omega (arith, c.loop-i-test.true, inv.2)) c.in-Ok.ensures in
    omega (arith, inv.1, t.ends)

pub slice_bounds-rest-end : goal.slice_bounds-rest-end
slice_bounds-rest-end c = cut_in kinds _ c.in-Ok.ensures

pub loop-i-preserved : goal.loop-i-preserved
loop-i-preserved c =
    let inv = c.loop-i.invariant in
    let found = c.in-Ok.ensures in
    let t = turned kinds c.loop-i.rest.now (front_bytes _ _ (λ i. (c.type_inv.records i).fits) inv.0) (omega (arith, c.loop-i-test.true, inv.2)) found in
    let rows : 3 * c.args.n ≤ length c.loop-i.rows = omega (arith, inv.3, c.requires.2) in
    let row = ap (λ (k : ℕ). set (set (set c.loop-i.rows (3 * c.loop-i.i) k) (3 * c.loop-i.i + 1) c.in-Ok.newest.start) (3 * c.loop-i.i + 2) c.in-Ok.newest.size)
    (c.from.ensures ∙ c.from-kind.ensures) in (
      fronts kinds _ found _ inv.0,
      omega (arith, inv.1, cut kinds c.loop-i.rest.now found, lower kinds c.loop-i.rest.now found),
      omega (arith, inv.2, fewer kinds c.loop-i.rest.now found t),
      kept _ _ _ _ c.loop-i-test.true rows found t row ∙ inv.3,
      more _ _ _ _ c.loop-i-test.true rows found t row ∙ inv.4,
    )

pub returns : goal.returns
returns c = sym (rows-over kinds _ c.loop-i.rows c.loop-i.i _ _ c.loop-i-test.false) ∙ c.loop-i.invariant.4
