-- What a caller of `text` needs of its answer. Assumes nothing.
use Prim.Native.Nat.{ℕ, ◌≤◌}
use native.Mathlib.Omega.{arith}
use mathlib.Core.Path.{◌≡◌, refl, ap}
use mathlib.Core.Bool.{Bool, true, false, cond}
use mathlib.Core.List.{List}
use lib.Dec.{ltb}
use lib.ListN.{length}
use Rattle.refusal.specs.Room.{overlay}
use Rattle.refusal.proofs.Room.{overlay-holds}
use Rattle.board.specs.declared.entries.Entry.{Entry}
use Rattle.board_lines.specs.Text.{board_lines, board_text, laid_in}

-- for callers: what the room then holds is at least as long
pub answer_within : (text room : List ℕ) {n : ℕ} {after : List ℕ} → ◌≡◌ {A = ℕ × List ℕ} (n, after) (laid_in text room) → n ≤ length after
unfolding laid_in
answer_within text room {n} {after} e = go (ltb (length room) (length text)) e
  where
    go : (t : Bool) → ◌≡◌ {A = ℕ × List ℕ} (n, after) (cond t (0, room) (length text, overlay room 0 text)) → n ≤ length after
    go true f = omega (arith, ap (λ (x : ℕ × List ℕ). x.0) f)
    go false f =
        let many : n ≡ length text = ap (λ (x : ℕ × List ℕ). x.0) f in
        let same : after ≡ overlay room 0 text = ap (λ (x : ℕ × List ℕ). x.1) f in
        rw (many, same) (overlay-holds room text)

-- 0 stands for no refusal
pub numbered_0 : (refusal : ℕ) (entries : List Entry) → refusal ≡ 0 → board_lines entries ≡ board_text refusal entries
unfolding board_text
numbered_0 refusal entries e = rw e refl
