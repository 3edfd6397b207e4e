-- `sfc6::poll_round` meets its contract. The invariant: the round of the nodes left, from here on, is the whole round. Assumes nothing.
use mathlib.Core.Path.{◌≡◌}
use Prim.Native.Nat.{◌^◌, ◌≤◌, ◌<◌}
use lib.ListN.{length, drop}
use Rattle.sfc6.specs.Rounds.{round_from, to_each}
use Rattle.sfc6.proofs.poll_round.Given as goal

abbrev pub invariant-loop-frames : goal.invariant-loop-frames
invariant-loop-frames l =
    (l.frames ≤ length l.nodes)
    × (round_from (to_each l.request (drop l.frames l.nodes)) l.frames l.end l.buffer ≡ round_from (to_each l.request l.nodes) 0 l.start l.initial.buffer)
    × (length l.buffer ≡ length l.initial.buffer)
    × (l.end < 2 ^ 64)
