-- A replay by value, laid at the start of the lent room. Assumes nothing.
use mathlib.Core.Path.{◌≡◌, refl, sym, ap, ◌∙◌}
use Prim.Native.Nat.{ℕ, ◌≤◌}
use native.Mathlib.Omega.{arith}
use mathlib.Core.Bool.{Bool, true, false, cond}
use mathlib.Core.List.{List}
use lib.Dec.{ltb}
use lib.ListN.{length}
use borrow.Author.Tests.{ltb-false}
use Rattle.std.specs.Prelude.{Result, Ok, Err}
use Rattle.arrayvec.specs.ArrayVec.{ArrayVec, array_vec_len}
use Rattle.refusal.specs.declared.Refusal.{Refusal}
use Rattle.refusal.specs.Refusals.{number, paper, Answered, served, refused, answered_as}
use Rattle.board.specs.declared.entries.Entry.{Entry}
use Rattle.board.specs.Listing.{or_as_it_was, laid_first}
use Rattle.board.proofs.Carried.{laid_by}
use Rattle.replay.specs.Replay.{replayed, room_for, shown, replay_answer, replay}

-- what is served has room
serves_few : (a : Answered (List Entry)) (room : ℕ) {n : ℕ} → room_for a room ≡ served n → n ≤ room
serves_few (refused n) room k = absurd (cc)
serves_few (served entries) room {n} k = go (ltb room (length entries)) refl k
  where
    go : (b : Bool) → ltb room (length entries) ≡ b → cond b (refused (number 1)) (served (length entries)) ≡ served n → n ≤ room
    go true h s = absurd (cc)
    go false h s = let e : length entries ≡ n = cc in let l : length entries ≤ room = ltb-false room (length entries) h in omega (arith, e, l)

module _ (file : List ℕ) (lease : ℕ) (zs : List Entry) {r : Result (ArrayVec Entry) Refusal} (a : answered_as array_vec_len r ≡ replay_answer file lease (length zs)) where
  pub laid_bad : {e : Refusal} → r ≡ Err e → (refused (paper e), zs) ≡ replay file lease zs
  unfolding replay
  laid_bad {e} h = λ j. (k j, or_as_it_was (k j) (shown (replayed file lease)) zs)
    where
      k : refused (paper e) ≡ replay_answer file lease (length zs)
      k = sym (ap (answered_as array_vec_len) h) ∙ a

  pub laid_all : {v : ArrayVec Entry} → r ≡ Ok v → v.items ≡ shown (replayed file lease) → {xs : List Entry} → xs ≡ v.items → length xs ≤ 32 → {n : ℕ} {out : List Entry}
      → (n ≡ length xs) × (out ≡ laid_first (length xs) xs zs) → (served n, out) ≡ replay file lease zs
  unfolding replay replay_answer
  laid_all {v} h e {xs} p m f =
      let k : replay_answer file lease (length zs) ≡ served (length xs) = sym a ∙ ap (answered_as array_vec_len) h ∙ ap (λ (x : List Entry). served (length x)) (sym p) in
      laid_by (shown (replayed file lease)) zs k (p ∙ e) (serves_few (replayed file lease) (length zs) k) m f

pub ruleset laying = (laid_bad, laid_all)
