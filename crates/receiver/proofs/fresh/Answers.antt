use Rattle.std.proofs.Common.{◌≡◌, ◌++◌, ◌≤◌, ℕ, List, length, take, drop, replicate, ap, ◌∙◌}
use borrow.Author.Tests.{le-ltb}
use Rattle.std.proofs.lemmas.List.{length-replicate}
use Rattle.std.proofs.Math.Seq.{length-take-le, take_at}
use Rattle.refusal.specs.Refusals.{Answered, served}
use Rattle.refusal.specs.Room.{overlay}
use Rattle.shdlc.specs.declared.Kind.{Kind}
use Rattle.receiver.specs.declared.Receiver.{Receiver}
use Rattle.receiver.specs.Record.{Record, held, outside_of}
use Rattle.receiver.specs.Calls.{fresh_of}
use Rattle.receiver.proofs.fresh.Goals as goal

abbrev zeros : List ℕ
zeros = replicate 260 0

-- the part that was filled, the rest of the lent store, and the struct beside it
filled : (kind : Kind) (r : Receiver) (store first : List ℕ) → 260 ≤ length store → first ≡ replicate (length (take 260 store)) 0 → r ≡ outside_of kind 0
    → ◌≡◌ {A = Answered Record × List ℕ} (served (held r (take 260 (first ++ drop 260 store))), first ++ drop 260 store) (fresh_of kind store)
unfolding fresh_of overlay
filled kind r store first h e f =
    let z : first ≡ zeros = e ∙ ap (λ (n : ℕ). replicate n 0) (length-take-le 260 store h) in
    let size : length zeros ≡ 260 = length-replicate {A = ℕ} 260 0 in
    ap (λ (x : Receiver). (served (held x (take 260 (first ++ drop 260 store))), first ++ drop 260 store)) f
    ∙ ap (λ (l : List ℕ). (served (held (outside_of kind 0) (take 260 (l ++ drop 260 store))), l ++ drop 260 store)) z
    ∙ ap (λ (l : List ℕ). (served (held (outside_of kind 0) l), zeros ++ drop 260 store)) (take_at zeros (drop 260 store) 260 size)
    ∙ rw (le-ltb (length store) 260 h)

pub returns : goal.returns
returns c = filled _ _ _ _ c.if-store-lt260.false (c.fill.ensures.after (λ y e. e)) c.outside.ensures
