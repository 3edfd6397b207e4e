-- A list in parts: what is written from a place on, and what a read puts there.
use Rattle.std.proofs.Common.{◌≡◌, ◌≤◌, ◌+◌, ◌-◌, arith, ◌++◌, ℕ, List, length, take, drop, sym, ap, ◌∙◌, le_refl, drop_at, length-take-le}
use Rattle.std.proofs.lemmas.Slice.{take-put_mid_below}
use borrow.Rule.Slice.PartMut.{put_mid, post_of}
use lib.Seq.{take-add, take-append-le, take_all, drop-drop}
use lib.ListN.{length-drop}

-- what is left of a text when so much of what was left is written too
module _ (text rest : List ℕ) (n : ℕ) (short : length rest ≤ length text) (is : rest ≡ drop (length text - length rest) text) (fits : n ≤ length rest) where
  abbrev more : List ℕ
  more = take (length rest - n) (drop n rest)

  all_more : more ≡ drop n rest
  all_more = take_all (length rest - n) (drop n rest) (simp length-drop (omega arith))

  size : length more ≡ length rest - n
  size = ap (λ (l : List ℕ). length l) all_more ∙ length-drop n rest

  gone : length text - length more ≡ length text - length rest + n
  gone = omega (arith, size)

  pub left_over : (length more ≤ length text) × (more ≡ drop (length text - length more) text)
      × (take (length text - length rest) text ++ take n rest ≡ take (length text - length more) text)
  left_over = (
    omega (arith, size),
    all_more ∙ ap (drop n) is ∙ drop-drop n (length text - length rest) text ∙ ap (λ (k : ℕ). drop k text) (sym gone),
    ap (λ (l : List ℕ). take (length text - length rest) text ++ take n l) is ∙ sym (take-add (length text - length rest) n text) ∙ ap (λ (k : ℕ). take k text) (sym gone),
  )

-- what a read puts from a on, behind the first a
pub front_and_put : (a k n : ℕ) (xs ys : List ℕ) → a ≤ length xs → n ≤ length ys → take a xs ++ take n ys ≡ take (a + n) (put_mid a k xs ys)
front_and_put a k n xs ys within fits =
    let all = put_mid a k xs ys in
    let front : take a all ≡ take a xs = take-put_mid_below a k xs ys a (le_refl a) within in
    let rest : take n (drop a all) ≡ take n ys =
    ap (take n) (drop_at (take a xs) (ys ++ post_of a k xs) a (length-take-le a xs within)) ∙ take-append-le n ys (post_of a k xs) fits in
    sym (take-add a n all ∙ ap (λ l. l ++ take n (drop a all)) front ∙ ap (λ l. take a xs ++ l) rest)
