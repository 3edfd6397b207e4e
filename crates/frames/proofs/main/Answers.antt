use Rattle.std.proofs.Common.{◌≡◌, ℕ, ◌≤◌, ◌++◌, List, true, arith, length, take, drop, refl, sym, ap, ◌∙◌, length-append, length-drop}
use lib.ListN.{replicate}
use lib.Seq.{length-take-le, take_all}
use Rattle.refusal.specs.Refusals.{Answered, served, answered_as, answered}
use Rattle.refusal.specs.Room.{emit}
use Rattle.refusal.proofs.Room.{served_within}
use Rattle.std.specs.Prelude.{Result, Ok}
use Rattle.refusal.specs.declared.Refusal.{Refusal}
use Rattle.shdlc.specs.declared.Kind.TheVariants.{Request}
use Rattle.receiver.specs.declared.Receiver.{Receiver}
use Rattle.receiver.specs.Record.{Record, held, in_range, fresh}
use Rattle.receiver.specs.Calls.{fresh_of}
use Rattle.lines.specs.declared.Listing.{Listing}
use Rattle.lines.specs.Listing.{Progress}
use Rattle.lines.proofs.Filling.{range_kept}
use Rattle.frames.proofs.main.Goals as goal

-- the fresh record is within its ranges
fresh-zeros : (fresh_of Request (replicate 260 0)).0 ≡ served (fresh Request)
unfolding fresh_of
fresh-zeros = refl

begun : (made : Result Receiver Refusal) (store : List ℕ) (r : Receiver) → length store ≡ 260
    → answered_as (λ x. held x (take 260 store)) made ≡ served (fresh Request) → made ≡ Ok r
    → in_range (held r store) ≡ true
begun made store r long e is =
    let whole : served (held r (take 260 store)) ≡ served (fresh Request) = ap (answered_as (λ x. held x (take 260 store))) (sym is) ∙ e in
    let same : held r (take 260 store) ≡ fresh Request = cc in
    ap (λ (s : List ℕ). in_range (held r s)) (sym (take_all 260 store (omega arith))) ∙ ap in_range same

-- the array after what was read at its start
whole : (piece came : List ℕ) (wanted : ℕ) → wanted ≤ length piece → length piece ≡ 416 → length came ≡ length (take wanted piece)
    → length (came ++ drop wanted piece) ≡ 416
whole piece came wanted within long kept =
    omega (arith, kept, length-take-le wanted piece within, length-append came (drop wanted piece), length-drop wanted piece)

-- the last line is within the room
last-in : (w : Result ℕ Refusal) (text room after : List ℕ) (n : ℕ) → w ≡ Ok n → (answered w, after) ≡ emit text room → length after ≡ length room
    → n ≤ length after
last-in w text room after n e f kept =
    let h = served_within text room after n (ap (λ (x : Result ℕ Refusal). (answered x, after)) (sym e) ∙ f) in omega arith

pub loop-store-init : goal.loop-store-init
loop-store-init c = (
  c.fresh.auto.store,
  refl,
  refl,
  ap (λ (l : Listing). in_range (held l.receiver c.fresh.new.store)) c.begin-l.ensures
      ∙ begun c.fresh.result c.fresh.new.store c.in-Ok.fresh c.fresh.auto.store (ap (λ (x : Answered Record × List ℕ). x.0) c.fresh.ensures ∙ fresh-zeros) c.in-Ok.is,
)

pub loop-store-preserved : goal.loop-store-preserved
loop-store-preserved c =
    let l = c.loop-store in (
      c.list_piece.auto.store ∙ l.invariant.0,
      whole l.piece c.read_some-n.new.piece c.wanted-wanted.result (omega (arith, c.wanted-wanted.ensures, l.invariant.1)) l.invariant.1 c.read_some-n.auto.piece,
      c.list_piece.auto.out ∙ l.invariant.2,
      ap (λ (p : Progress). in_range p.holds) c.in-Ok-list_piece.ensures.1 ∙ range_kept (held l.l.receiver l.store) _ l.invariant.3,
    )

pub slice_bounds-out-end-in-Ok-end : goal.slice_bounds-out-end-in-Ok-end
slice_bounds-out-end-in-Ok-end c = last-in c.end.result _ _ c.end.new.out c.in-Ok-end.n c.in-Ok-end.is c.end.ensures c.end.auto.out

pub slice_bounds-print-end-in-Ok-end : goal.slice_bounds-print-end-in-Ok-end
slice_bounds-print-end-in-Ok-end c = sym (length-take-le _ _ (last-in c.end.result _ _ c.end.new.out c.in-Ok-end.n c.in-Ok-end.is c.end.ensures c.end.auto.out))
