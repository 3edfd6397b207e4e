use Rattle.std.proofs.Common.{ℕ, ◌≡◌, ◌≤◌, ◌-◌, ◌+◌, ◌∷◌, [], ◌++◌, refl, sym, subst, length, arith}
use Rattle.std.proofs.lemmas.List.{length_push, length-reverse}
use Rattle.std.proofs.lemmas.Iterator.Adapters.{YieldsList-from_rev_slice}
use Rattle.std.proofs.lemmas.Iterator.Consumers.{YieldsList-turn, YieldsList-end}
use Rattle.replay.specs.Private.{Runs}
use Rattle.replay.proofs.Halving.{older_of, middle_in, older_there, block_none, block_one, block_all, noted_back}
use Rattle.replay.proofs.run.Run.replay_noted.Goals as goal

pub loop-at-init : goal.loop-at-init
loop-at-init c = block_none _ _ c.args.self.now c.args.self.now (length c.args.places.now) _ (omega arith)

pub replay_one-requires : goal.replay_one-requires
replay_one-requires c =
    let t = YieldsList-turn (YieldsList-from_rev_slice c.args.places.now (cc)) c.loop-at.yielded _ c.loop-at.yielded_by _ _ c.in-Some.at c.in-Some.is c.next.ensures.steps in
    let b = noted_back c.args.file.now c.args.place (length c.args.places.now) c.args.places.now (length c.loop-at.yielded) c.requires.2 refl t.0 t.1 in
    let few : (length c.args.places.now) - length c.loop-at.yielded - 1 ≤ (length c.args.places.now) = omega arith in
    let there = older_there _ _ (length c.args.places.now) _ _ few c.requires.0 b.1 c.requires.1 in
    (middle_in _ _ (length c.args.places.now) _ _ few c.requires.0 b.1, omega (arith, there, b.0))

pub loop-at-preserved : goal.loop-at-preserved
loop-at-preserved c =
    let k = length c.loop-at.yielded in
    let t = YieldsList-turn (YieldsList-from_rev_slice c.args.places.now (cc)) c.loop-at.yielded _ c.loop-at.yielded_by _ _ c.in-Some.at c.in-Some.is c.next.ensures.steps in
    let b = noted_back c.args.file.now c.args.place (length c.args.places.now) c.args.places.now k c.requires.2 refl t.0 t.1 in
    let one : length (c.loop-at.yielded ++ c.in-Some.at ∷ []) ≡ k + 1 = length_push c.loop-at.yielded c.in-Some.at in
    let left : (length c.args.places.now) - length (c.loop-at.yielded ++ c.in-Some.at ∷ []) ≡ (length c.args.places.now) - k - 1 = omega (arith, one) in
    subst (λ (j : ℕ). Runs c.args.self.now (older_of c.args.file.now c.args.place (length c.args.places.now) j) c.replay_one.new.self) (sym left)
    (block_one _ _ c.args.self.now c.replay_one.new.self (length c.args.places.now) ((length c.args.places.now) - k) _ c.loop-at.self (omega (arith, b.0)) (omega arith) c.requires.0 b.1 c.loop-at.invariant c.replay_one.ensures)

pub returns : goal.returns
returns c =
    let t = YieldsList-end (YieldsList-from_rev_slice c.args.places.now (cc)) c.loop-at.yielded _ c.loop-at.yielded_by _ _ c.in-None.is c.next.ensures.steps in
    block_all _ _ c.args.self.now c.loop-at.self (length c.args.places.now) _ (omega (arith, t.1, length-reverse c.args.places.now)) c.loop-at.invariant
