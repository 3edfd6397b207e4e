use Rattle.std.proofs.Common.{◌≡◌, ◌<◌, ℕ, min, length, take, Result, Ok, Err, arith, ap}
use Rattle.std.specs.Prelude.{OkIff}
use Rattle.std.specs.Result.{result_unwrap_or}
use Rattle.shdlc.specs.Stuffing.{stuff}
use Rattle.receiver.proofs.Place.{place_kept}
use Rattle.receiver.proofs.place_in.Goals as goal

-- a number as a u16, or the largest of these
narrowed : {E : Type 0} (r : Result ℕ E) (n : ℕ) → OkIff r (n < 65536) n → result_unwrap_or r 65535 ≡ min n 65535
narrowed (Ok m) n h = omega (arith, h.0, h.1)
narrowed (Err e) n h = omega arith

pub returns : goal.returns
returns c =
    let all = place_kept c.args.len c.args.store.now c.told-store in
    let kept = narrowed c.try_from.result _ c.try_from.ensures in
    let sent = ap length (ap stuff (ap (λ (n : ℕ). take n c.args.store.now) c.min-kept.ensures)) in
    omega arith
