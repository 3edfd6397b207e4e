-- `sfc6::find` meets its contract. Assumes nothing.
use Rattle.std.proofs.Common.{true, false, sym, below_more, arith, rules}
use Rattle.sfc6.proofs.Reading.{table-found, table-ended}
use Rattle.sfc6.proofs.find.Goals as goal

pub returns-then-passes : goal.returns-then-passes
returns-then-passes g c =
    λ test is.
    table-found test (omega (arith, c.loop-place-test)) (sym (is c.loop-place.place true (omega (arith, c.loop-place-test)) (search rules)))
    (λ k h. sym (is k false (omega (arith, h, c.loop-place-test)) (c.loop-place.invariant k h)))

pub returns : goal.returns
returns g c = λ test is. table-ended test (λ k h. sym (is k false h (c.loop-place.invariant k (omega (arith, h, c.loop-place-test)))))

pub loop-place-preserved : goal.loop-place-preserved
loop-place-preserved g c = below_more _ _ c.loop-place.invariant (search rules)
