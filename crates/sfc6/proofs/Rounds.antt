-- A polling round, call by call. Assumes nothing.
use mathlib.Core.Path.{◌≡◌, sym, ap, ◌∙◌}
use mathlib.Core.List.{List}
use Prim.Native.Nat.{ℕ, ◌+◌, ◌-◌, ◌≤◌, ◌<◌}
use native.Mathlib.Omega.{arith}
use lib.ListN.{length, get_or, drop, length-drop}
use Rattle.refusal.specs.declared.Refusal.{Refusal}
use Rattle.refusal.specs.Room.{lay}
use Rattle.refusal.specs.Refusals.{Answered, served, refused, paper, answered}
use Rattle.std.specs.Prelude.{Result, Ok, Err}
use Rattle.refusal.proofs.Rest.{rest_here, rest_end}
use Rattle.sfc6.specs.declared.Request.{Request}
use Rattle.sfc6.specs.Requests.{frame_to_write, write_request}
use Rattle.sfc6.specs.Rounds.{append_request, round_on, round_from, to_each}
use Rattle.sfc6.proofs.Order.{never}
use Rattle.sfc6.proofs.Writing.{emit-laid}

-- what was written fitted
lay_fits : (answer : Answered (List ℕ)) (room : List ℕ) (n : ℕ) → (lay answer room).0 ≡ served n → n ≤ length room
lay_fits (served frame) room n h = let e = emit-laid frame room n h in omega (arith, e.0, e.2)
lay_fits (refused m) room n h = never (sym h)

module _ (request : Request) (buffer : List ℕ) (end node : ℕ) (r : Result ℕ Refusal) (w : List ℕ)
    (is : (answered r, w) ≡ append_request buffer end node request) where
  pub frame_fits : (n : ℕ) → r ≡ Ok n → n ≤ length buffer - end
  unfolding append_request write_request
  frame_fits n e =
      let h : (write_request node request (drop end buffer)).0 ≡ served n =
      sym (ap (λ (o : Answered ℕ × List ℕ). o.0) is) ∙ ap answered e in
      omega (arith, lay_fits (frame_to_write node request) (drop end buffer) n h, length-drop end buffer)

  module _ (nodes : List ℕ) (i : ℕ) (here : i < length nodes) (this : get_or nodes i 0 ≡ node) where
    -- the call that the round makes at this node
    called : round_from (to_each request (drop i nodes)) i end buffer ≡ round_on (round_from (to_each request (drop (i + 1) nodes))) i end (answered r) w
    unfolding round_from
    called =
        rw (rest_here nodes i here, this)
        (ap (λ (o : Answered ℕ × List ℕ). round_on (round_from (to_each request (drop (i + 1) nodes))) i end o.0 o.1) (sym is))

    pub round-laid : (n : ℕ) → r ≡ Ok n → round_from (to_each request (drop (i + 1) nodes)) (i + 1) (end + n) w ≡ round_from (to_each request (drop i nodes)) i end buffer
    round-laid n e = sym (called ∙ ap (λ (x : Result ℕ Refusal). round_on (round_from (to_each request (drop (i + 1) nodes))) i end (answered x) w) e)

    pub round_stopped : (why : Refusal) → r ≡ Err why → ((i, end, refused (paper why)), w) ≡ round_from (to_each request (drop i nodes)) i end buffer
    round_stopped why e = sym (called ∙ ap (λ (x : Result ℕ Refusal). round_on (round_from (to_each request (drop (i + 1) nodes))) i end (answered x) w) e)

pub round-over : (request : Request) (nodes : List ℕ) (i end : ℕ) (buffer : List ℕ) → length nodes ≤ i
    → ((i, end, served tt), buffer) ≡ round_from (to_each request (drop i nodes)) i end buffer
unfolding round_from
round-over request nodes i end buffer h = rw (rest_end nodes i h)
