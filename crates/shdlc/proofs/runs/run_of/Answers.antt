-- A run that ends in the first four bytes is the run, and another goes on behind them.
use mathlib.Core.Path.{◌≡◌, sym, ◌∙◌}
use Prim.Native.Nat.{◌≤◌}
use native.Mathlib.Omega.{arith}
use lib.ListN.{length, take}
use lib.Seq.{length-take-le}
use Rattle.shdlc.specs.Runs.{run_of}
use Rattle.shdlc.proofs.RunLaws.{front-ended, front-over}
use Rattle.shdlc.proofs.runs.run_of.Goals as goal

pub returns-then-near-lt4 : goal.returns-then-near-lt4
returns-then-near-lt4 c =
    let l = c.args.bytes.now in
    let e = c.skip-near.ensures in
    let near : c.skip-near.result ≡ run_of (take 4 l) = omega (arith, e.1, e.2) in
    near ∙ sym (front-ended l 4 (omega arith) (omega arith))

pub returns : goal.returns
returns c =
    let l = c.args.bytes.now in
    let e = c.skip-near.ensures in
    let four : 4 ≤ length l = omega arith in
    let near : c.skip-near.result ≡ run_of (take 4 l) = omega (arith, e.1, e.2) in
    let size = length-take-le 4 l four in
    let over = front-over l 4 four (omega (arith, near, size, e.0)) in
    omega (arith, over, c.skip-sixteens.ensures.1, c.skip-eights.ensures.1, c.skip-2.ensures.1, c.skip-2.ensures.2)
