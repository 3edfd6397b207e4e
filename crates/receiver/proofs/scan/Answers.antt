-- Each turn of the loop by the law of the byte that it reads. Assumes nothing.
use Prim.Native.Nat.{ℕ, ◌<◌, ◌+◌}
use native.Mathlib.Omega.{arith}
use mathlib.Core.Path.{◌≡◌, refl, sym, ap, ◌∙◌}
use mathlib.Core.Bool.{true, false, true≢false}
use mathlib.Core.Logic.{◌⊎◌, inl, inr}
use mathlib.Core.List.{List}
use Rattle.std.proofs.Common.{rules}
use denote.Enum.Bare.{sameb, same_true}
use lib.ListN.{drop}
use Rattle.shdlc.specs.declared.Kind.{Kind}
use Rattle.receiver.specs.declared.Mode.{Mode}
use Rattle.receiver.specs.declared.Mode.TheVariants.{Outside, Plain, Escaped, BadEscape, BareControl}
use Rattle.receiver.specs.declared.Receiver.{Receiver}
use Rattle.receiver.specs.contracts.Mode.{the_type}
use Rattle.receiver.specs.Record.{Record, held, limited}
use Rattle.receiver.specs.Calls.{scan_from}
use Rattle.receiver.proofs.Modes.{act_escape, act_control, act_plain, act_escaped, act_bad, act_faulty}
use Rattle.receiver.proofs.Place.{came_as_lem}
use Rattle.receiver.proofs.Turns.{in_stretch, Skips, turn_close, turn_open, turn_become, turn_store, turn_full, scan_next, scan_done, run_within, run_left}
use Rattle.receiver.proofs.scan.Goals as goal

-- the record that the loop's variables make
abbrev now : Kind → Mode → ℕ → ℕ → List ℕ → Record
now kind mode len noise store = record { kind = kind; mode = mode; len = len; noise = noise; store = store }

-- past the noise
skipped : (r : Receiver) (n noise : ℕ) (store piece : List ℕ) → noise ≡ limited (r.noise + n) → r.noise < 4294967296 → Skips r.mode piece n
    → scan_from 0 (held r store) piece ≡ scan_from n (now r.kind r.mode r.len noise store) (drop n piece)
skipped r n noise store piece f few skips =
    skips r.kind r.len r.noise 0 store few
    ∙ ap (λ (x : ℕ). scan_from x (now r.kind r.mode r.len (limited (r.noise + n)) store) (drop n piece)) (let h : 0 + n ≡ n = omega arith in h)
    ∙ ap (λ (x : ℕ). scan_from n (now r.kind r.mode r.len x store) (drop n piece)) (sym f)

-- the mode stays in a run
same-mode : (kind : Kind) (mode : Mode) (len noise : ℕ) (store : List ℕ) (n : ℕ) (l : List ℕ) → mode ≡ Plain
    → scan_from n (in_stretch kind len noise store) l ≡ scan_from n (now kind mode len noise store) l
same-mode kind mode len noise store n l h = ap (λ (x : Mode). scan_from n (now kind x len noise store) l) (sym h)

outer : {m : Mode} → m ≡ Outside → m ≡ Plain → ⊥
outer e f = let z : Outside ≡ Plain = sym e ∙ f in cc

-- what a comparison of the mode tells
plain_is : (m : Mode) → true ≡ sameb the_type m Plain → m ≡ Plain
plain_is m e = same_true the_type (search rules) m Plain (sym e)

escaped_is : (m : Mode) → true ≡ sameb the_type m Escaped → m ≡ Escaped
escaped_is m e = same_true the_type (search rules) m Escaped (sym e)

-- a mode that is not the one outside and none of the two that are compared with
faulty : (m : Mode) → (m ≡ Outside → ⊥) → false ≡ sameb the_type m Plain → false ≡ sameb the_type m Escaped → (m ≡ BadEscape) ⊎ (m ≡ BareControl)
faulty Outside inside p e = absurd (inside refl)
faulty Plain inside p e = absurd (true≢false (sym p))
faulty Escaped inside p e = absurd (true≢false (sym e))
faulty BadEscape inside p e = inl refl
faulty BareControl inside p e = inr refl

pub loop-i-init : goal.loop-i-init
loop-i-init c = let a = c.args in record {
  within = c.skip_noise-i.ensures.0;
  same = skipped a.r _ _ a.store.now a.piece.now c.counted-noise.ensures c.requires c.skip_noise-i.ensures.2;
  no_noise = c.skip_noise-i.ensures.1;
}

pub returns-then-is_pending : goal.returns-then-is_pending
returns-then-is_pending c =
    let l = c.loop-i in
    let here = now c.args.r.kind l.mode l.len c.counted-noise.result l.store in
    sym (scan_next _ here _ l.i c.loop-i-test.true l.invariant.same
    (turn_close l.i here _ _ c.if-b-eq126.true (sym c.is_pending.ensures ∙ c.if-is_pending.true)))

pub loop-i-preserved-then-b-eq126 : goal.loop-i-preserved-then-b-eq126
loop-i-preserved-then-b-eq126 c =
    let l = c.loop-i in
    let here = now c.args.r.kind l.mode l.len c.counted-noise.result l.store in
    record {
      within = omega arith;
      same = scan_next _ here _ l.i c.loop-i-test.true l.invariant.same
          (turn_open l.i here _ _ c.if-b-eq126.true (sym c.is_pending.ensures ∙ c.if-is_pending.false));
      no_noise = λ e h. cc;
    }

pub loop-i-preserved-then-b-eq125 : goal.loop-i-preserved-then-b-eq125
loop-i-preserved-then-b-eq125 c =
    let l = c.loop-i in
    let here = now c.args.r.kind l.mode l.len c.counted-noise.result l.store in
    record {
      within = omega arith;
      same = scan_next _ here _ l.i c.loop-i-test.true l.invariant.same
          (turn_become l.i here _ _ c.if-b-eq126.false Escaped (act_escape _ _ (plain_is _ c.if-eq.ensures) c.if-b-eq125.true));
      no_noise = λ e h. cc;
    }

pub loop-i-preserved-then-is_control : goal.loop-i-preserved-then-is_control
loop-i-preserved-then-is_control c =
    let l = c.loop-i in
    let here = now c.args.r.kind l.mode l.len c.counted-noise.result l.store in
    record {
      within = omega arith;
      same = scan_next _ here _ l.i c.loop-i-test.true l.invariant.same
          (turn_become l.i here _ _ c.if-b-eq126.false BareControl
          (act_control _ _ (plain_is _ c.if-eq.ensures) c.if-b-eq125.false (sym c.is_control.ensures ∙ c.if-is_control.true)));
      no_noise = λ e h. cc;
    }

-- a byte of the body is stored, and a run after it
pub loop-i-preserved-then-i-piece : goal.loop-i-preserved-then-i-piece
loop-i-preserved-then-i-piece c =
    let l = c.loop-i in
    let here = now c.args.r.kind l.mode l.len c.counted-noise.result l.store in
    let is = plain_is _ c.if-eq.ensures in
    let plain = act_plain l.mode _ is c.if-b-eq125.false (sym c.is_control.ensures ∙ c.if-is_control.false) in
    record {
      within = run_within c.args.piece.now (l.i + 1) _ (omega arith) c.store_run-n.ensures.1;
      same = scan_next _ here _ l.i c.loop-i-test.true l.invariant.same
          (turn_store l.i here _ _ c.if-b-eq126.false _ plain c.if-len-lt260.true
          ∙ run_left c.args.piece.now (l.i + 1) _ _ _ _ _ c.args.r.kind (omega arith) c.store_run-n.ensures.2
          ∙ same-mode _ _ _ _ _ _ _ is);
      no_noise = λ e h. absurd (outer e is);
    }

pub loop-i-preserved-else-i-piece : goal.loop-i-preserved-else-i-piece
loop-i-preserved-else-i-piece c =
    let l = c.loop-i in
    let here = now c.args.r.kind l.mode l.len c.counted-noise.result l.store in
    let is = plain_is _ c.if-eq.ensures in
    let plain = act_plain l.mode _ is c.if-b-eq125.false (sym c.is_control.ensures ∙ c.if-is_control.false) in
    record {
      within = omega arith;
      same = scan_next _ here _ l.i c.loop-i-test.true l.invariant.same
          (turn_store l.i here _ _ c.if-b-eq126.false _ plain c.if-len-lt260.true ∙ same-mode _ _ _ _ _ _ _ is);
      no_noise = λ e h. absurd (outer e is);
    }

pub loop-i-preserved-else-len-lt260 : goal.loop-i-preserved-else-len-lt260
loop-i-preserved-else-len-lt260 c =
    let l = c.loop-i in
    let here = now c.args.r.kind l.mode l.len c.counted-noise.result l.store in
    let is = plain_is _ c.if-eq.ensures in
    let plain = act_plain l.mode _ is c.if-b-eq125.false (sym c.is_control.ensures ∙ c.if-is_control.false) in
    record {
      within = omega arith;
      same = scan_next _ here _ l.i c.loop-i-test.true l.invariant.same
          (turn_full l.i here _ _ c.if-b-eq126.false _ plain c.if-len-lt260.false
          (came_as_lem l.mode _ _ c.if-b-eq126.false is plain) c.past-len.ensures
          ∙ same-mode _ _ _ _ _ _ _ is);
      no_noise = λ e h. absurd (outer e is);
    }

pub loop-i-preserved-then-len-lt260-2 : goal.loop-i-preserved-then-len-lt260-2
loop-i-preserved-then-len-lt260-2 c =
    let l = c.loop-i in
    let here = now c.args.r.kind l.mode l.len c.counted-noise.result l.store in
    let stored = act_escaped l.mode _ _ (escaped_is _ c.if-eq-2.ensures) c.is_escaped.ensures c.if-not-is_escaped.false in
    record {
      within = omega arith;
      same = scan_next _ here _ l.i c.loop-i-test.true l.invariant.same
          (turn_store l.i here _ _ c.if-b-eq126.false _ stored c.if-len-lt260-2.true);
      no_noise = λ e h. cc;
    }

pub loop-i-preserved-else-len-lt260-2 : goal.loop-i-preserved-else-len-lt260-2
loop-i-preserved-else-len-lt260-2 c =
    let l = c.loop-i in
    let here = now c.args.r.kind l.mode l.len c.counted-noise.result l.store in
    let is = escaped_is _ c.if-eq-2.ensures in
    let stored = act_escaped l.mode _ _ is c.is_escaped.ensures c.if-not-is_escaped.false in
    record {
      within = omega arith;
      same = scan_next _ here _ l.i c.loop-i-test.true l.invariant.same
          (turn_full l.i here _ _ c.if-b-eq126.false _ stored c.if-len-lt260-2.false
          (came_as_lem l.mode _ _ c.if-b-eq126.false is stored) c.past-len-else-len-lt260-2.ensures);
      no_noise = λ e h. cc;
    }

pub loop-i-preserved-then-not-is_escaped : goal.loop-i-preserved-then-not-is_escaped
loop-i-preserved-then-not-is_escaped c =
    let l = c.loop-i in
    let here = now c.args.r.kind l.mode l.len c.counted-noise.result l.store in
    record {
      within = omega arith;
      same = scan_next _ here _ l.i c.loop-i-test.true l.invariant.same
          (turn_become l.i here _ _ c.if-b-eq126.false BadEscape
          (act_bad l.mode _ _ (escaped_is _ c.if-eq-2.ensures) c.is_escaped.ensures c.if-not-is_escaped.true));
      no_noise = λ e h. cc;
    }

pub loop-i-preserved : goal.loop-i-preserved
loop-i-preserved c =
    let l = c.loop-i in
    let here = now c.args.r.kind l.mode l.len c.counted-noise.result l.store in
    let inside : l.mode ≡ Outside → ⊥ = λ e. c.if-b-eq126.false (l.invariant.no_noise e c.loop-i-test.true) in
    record {
      within = omega arith;
      same = scan_next _ here _ l.i c.loop-i-test.true l.invariant.same
          (turn_become l.i here _ _ c.if-b-eq126.false l.mode (act_faulty _ _ (faulty _ inside c.if-eq.ensures c.if-eq-2.ensures)));
      no_noise = λ e h. absurd (inside e);
    }

pub returns : goal.returns
returns c =
    let l = c.loop-i in
    let here = now c.args.r.kind l.mode l.len c.counted-noise.result l.store in
    sym (scan_done _ here _ l.i c.loop-i-test.false l.invariant.same)
