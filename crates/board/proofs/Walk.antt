-- The laws of a table of which the first places are taken from another. Assumes nothing.
use mathlib.Core.Path.{◌≡◌, sym, ◌∙◌, ap}
use Prim.Native.Nat.{ℕ, suc, ◌<◌, ◌≤◌}
use native.Mathlib.Omega.{arith}
use mathlib.Core.List.{List, ◌++◌, append-nil}
use lib.ListN.{length, get_or, set, take, drop, drop_of_length-le}
use lib.Seq.{length-take-le, take-suc, drop-cons, set_at, append_snoc, take_all}
use Rattle.board.specs.declared.entries.Entry.{Entry}

-- the first n places of one table, and after them those of another
abbrev pub over : ℕ → List Entry → List Entry → List Entry
over n xs ys = take n xs ++ drop n ys

-- one more
pub over_step : (xs ys : List Entry) (i : ℕ) (d : Entry) → i < length xs → i < length ys → set (over i xs ys) i (get_or xs i d) ≡ over (suc i) xs ys
over_step xs ys i d lx ly =
    ap (λ (l : List Entry). set (take i xs ++ l) i (get_or xs i d)) (drop-cons ys i d ly)
    ∙ set_at (take i xs) (get_or ys i d) (drop (suc i) ys) (get_or xs i d) i (length-take-le i xs (omega (arith, lx)))
    ∙ sym (append_snoc (take i xs) (get_or xs i d) (drop (suc i) ys))
    ∙ ap (λ (l : List Entry). l ++ drop (suc i) ys) (sym (take-suc xs i d lx))

-- all
pub over_all : (i : ℕ) (xs ys : List Entry) → length xs ≤ i → length ys ≤ i → over i xs ys ≡ xs
over_all i xs ys g h = rw (take_all i xs g, drop_of_length-le ys h, append-nil xs)
