-- `compare_lines::text` meets its contract: the room for the marks is enough for any two logs. Assumes nothing.
use mathlib.Core.Path.{◌≡◌, sym, ap, ◌∙◌}
use mathlib.Core.List.{List}
use Prim.Native.Nat.{ℕ, ◌≤◌}
use native.Mathlib.Omega.{arith}
use lib.ListN.{length, take, replicate, length-take, length-replicate}
use Rattle.payload.specs.Field.{Bytes}
use Rattle.refusal.specs.Refusals.{served}
use Rattle.wire_log.specs.Text.{window}
use Rattle.compare.specs.Compare.{compare}
use Rattle.compare.proofs.Files.{places_within}
use Rattle.compare.proofs.MarkLaws.{equal_most}
use Rattle.compare_lines.proofs.Whole.{Done, of_refused, of_done, text_refused, text_done}
use Rattle.compare_lines.proofs.text.Goals as goal

abbrev room : List ℕ
room = replicate 21666 0

long : 21666 ≤ length room
long = omega (arith, length-replicate 21666 (let z : ℕ = 0 in z))

-- what the comparison left
module _ (a b left : List ℕ) (bytes_a : Bytes a) (bytes_b : Bytes b) {places same : ℕ} (e : (served (places, same), left) ≡ compare a b room) where
  done : Done a b left places same
  done = of_done a b room bytes_a bytes_b long e

  within : length done.marks ≤ 21666
  within = places_within a b bytes_a bytes_b done.marks done.are

  size : length (take places left) ≡ places
  size = ap (λ (l : List ℕ). length l) done.stand ∙ sym done.many

  holds : places ≤ length left
  holds = omega (arith, size, length-take places left)

  few : (length (take places left) ≤ 21666) × (same ≤ 21666)
  few = (omega (arith, size, done.many, within), omega (arith, done.equal, equal_most done.marks, within))

pub slice_bounds-marks-end : goal.slice_bounds-marks-end
slice_bounds-marks-end c = holds c.args.a.now c.args.b.now _ (λ i. (c.type_inv.a i).fits) (λ i. (c.type_inv.b i).fits) c.in-Ok.ensures

pub slice_bounds-put_told-end : goal.slice_bounds-put_told-end
slice_bounds-put_told-end c = sym (size c.args.a.now c.args.b.now _ (λ i. (c.type_inv.a i).fits) (λ i. (c.type_inv.b i).fits) c.in-Ok.ensures)

pub put_told-requires : goal.put_told-requires
put_told-requires c = few c.args.a.now c.args.b.now _ (λ i. (c.type_inv.a i).fits) (λ i. (c.type_inv.b i).fits) c.in-Ok.ensures

pub returns-in-Err : goal.returns-in-Err
returns-in-Err c =
    let g = c.args in
    c.put_refused.ensures
    ∙ ap (λ (t : List ℕ). window t g.from g.out.now)
    (text_refused g.a.now g.b.now _ (of_refused g.a.now g.b.now room (λ i. (c.type_inv.a i).fits) (λ i. (c.type_inv.b i).fits) long c.in-Err.ensures))

pub returns-in-Ok : goal.returns-in-Ok
returns-in-Ok c =
    let g = c.args in
    c.put_told.ensures
    ∙ ap (λ (t : List ℕ). window t g.from g.out.now)
    (text_done g.a.now g.b.now (done g.a.now g.b.now _ (λ i. (c.type_inv.a i).fits) (λ i. (c.type_inv.b i).fits) c.in-Ok.ensures))
