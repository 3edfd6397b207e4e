-- Laws of a run of plain bytes, and the claim of specs/Runs.antt. Assumes nothing.
use mathlib.Core.Path.{◌≡◌, refl, sym, ap, subst, ◌∙◌}
use mathlib.Core.Bool.{Bool, true, false, cond, true≢false}
use mathlib.Core.List.{List, [], ◌∷◌, ◌++◌}
use mathlib.Core.Option.{Option, none, some}
use Prim.Native.Nat.{ℕ, zero, suc, ◌+◌, ◌≤◌, ◌<◌}
use native.Mathlib.Omega.{arith}
use lib.ListN.{length, get_or, take, drop, length-append, length-drop, take-append-drop}
use lib.Dec.{ltb}
use borrow.Author.Tests.{ltb-true, ltb-false}
use lib.Seq.{drop-drop, take-take, take_at, drop_at, length-take-le}
use Rattle.refusal.specs.Room.{overlay}
use Rattle.refusal.proofs.Room.{overlay-more, overlay-over, length-overlay}
use Rattle.shdlc.specs.Stuffing.{escapes, right_of, sent, stuff_byte, stuff}
use Rattle.shdlc.specs.Runs.{is_row, is_special, run_of, Runs}
use Rattle.refusal.proofs.Rest.{rest_here}
use Rattle.shdlc.proofs.Stuffing.{byte_short, stuff_long, stuff-append}

-- how a byte is sent, and how many bytes it takes, by whether it is special
sent-row : (b : ℕ) (row : Option ℕ) → is_row row ≡ false → sent b row ≡ b ∷ []
sent-row b none h = refl
sent-row b (some e) h = absurd (true≢false h)

plain_sent : (b : ℕ) → is_special b ≡ false → stuff_byte b ≡ b ∷ []
unfolding stuff_byte
plain_sent b h = sent-row b (right_of escapes b) h

row-size : (b : ℕ) (row : Option ℕ) → is_row row ≡ true → length (sent b row) ≡ 2
row-size b none h = absurd (true≢false (sym h))
row-size b (some e) h = refl

special-size : (b : ℕ) → is_special b ≡ true → length (stuff_byte b) ≡ 2
unfolding stuff_byte
special-size b h = row-size b (right_of escapes b) h

-- the first byte decides whether there is a run
module _ (b : ℕ) (bytes : List ℕ) where
  run_none : is_special b ≡ true → run_of (b ∷ bytes) ≡ 0
  unfolding run_of
  run_none h = ap (λ (t : Bool). cond {A = ℕ} t 0 (1 + run_of bytes)) h

  run_more : is_special b ≡ false → run_of (b ∷ bytes) ≡ suc (run_of bytes)
  unfolding run_of
  run_more h = ap (λ (t : Bool). cond {A = ℕ} t 0 (1 + run_of bytes)) h ∙ omega arith

-- what holds of a list by its first byte, special or plain
by_first : (b : ℕ) (P : Type 0) → (is_special b ≡ true → P) → (is_special b ≡ false → P) → P
by_first b P special plain = go (is_special b) refl
  where
    go : (t : Bool) → is_special b ≡ t → P
    go true h = special h
    go false h = plain h

pub run_short : (bytes : List ℕ) → run_of bytes ≤ length bytes
unfolding run_of
run_short [] = omega arith
run_short (b ∷ bytes) =
    by_first b (run_of (b ∷ bytes) ≤ suc (length bytes))
    (λ h. omega (arith, run_none b bytes h))
    (λ h. omega (arith, run_more b bytes h, run_short bytes))

-- where a byte is sent as it is a run starts
pub run_starts : (l : List ℕ) (i : ℕ) → i < length l → stuff_byte (get_or l i 0) ≡ get_or l i 0 ∷ [] → 1 ≤ run_of (drop i l)
run_starts l i h e =
    by_first (get_or l i 0) (1 ≤ run_of (drop i l))
    (λ s. absurd (omega (arith, special-size (get_or l i 0) s, ap length e)))
    (λ s. omega (arith, ap run_of (rest_here l i h), run_more (get_or l i 0) (drop (i + 1) l) s))

-- bytes that do not get longer by stuffing are a run, and in others it ends
run_whole : (bytes : List ℕ) → length (stuff bytes) ≤ length bytes → run_of bytes ≡ length bytes
unfolding stuff run_of
run_whole [] h = refl
run_whole (b ∷ bytes) h =
    let l = length-append (stuff_byte b) (stuff bytes) in
    by_first b (run_of (b ∷ bytes) ≡ suc (length bytes))
    (λ s. absurd (omega (arith, special-size b s, stuff_long bytes)))
    (λ s. omega (arith, run_more b bytes s, run_whole bytes (omega (arith, (byte_short b).0))))

run_broken : (bytes : List ℕ) → length bytes < length (stuff bytes) → run_of bytes < length bytes
unfolding stuff
run_broken [] h = absurd (omega arith)
run_broken (b ∷ bytes) h =
    let l = length-append (stuff_byte b) (stuff bytes) in
    by_first b (run_of (b ∷ bytes) < suc (length bytes))
    (λ s. omega (arith, run_none b bytes s))
    (λ s. omega (arith, run_more b bytes s, run_broken bytes (omega (arith, ap length (plain_sent b s)))))

-- two lists one behind the other: a run that ends in the first is theirs, and one over all of the first goes on in the second
run_ended : (xs ys : List ℕ) → run_of xs < length xs → run_of (xs ++ ys) ≡ run_of xs
run_ended [] ys h = absurd (omega arith)
run_ended (x ∷ xs) ys h =
    by_first x (run_of (x ∷ (xs ++ ys)) ≡ run_of (x ∷ xs))
    (λ s. omega (arith, run_none x (xs ++ ys) s, run_none x xs s))
    (λ s. let e = run_more x xs s in omega (arith, run_more x (xs ++ ys) s, run_ended xs ys (omega arith)))

run_over : (xs ys : List ℕ) → run_of xs ≡ length xs → run_of (xs ++ ys) ≡ length xs + run_of ys
run_over [] ys h = omega arith
run_over (x ∷ xs) ys h =
    by_first x (run_of (x ∷ (xs ++ ys)) ≡ suc (length xs) + run_of ys)
    (λ s. absurd (omega (arith, run_none x xs s)))
    (λ s. let e = run_more x xs s in omega (arith, run_more x (xs ++ ys) s, run_over xs ys (omega arith)))

-- the first w bytes of a list: the same
module _ (l : List ℕ) (w : ℕ) (fits : w ≤ length l) where
  size : length (take w l) ≡ w
  size = length-take-le w l fits

  pub front-ended : run_of (take w l) < w → run_of l ≡ run_of (take w l)
  front-ended h = ap run_of (sym (take-append-drop w l)) ∙ run_ended (take w l) (drop w l) (omega (arith, size))

  pub front-over : run_of (take w l) ≡ w → run_of l ≡ w + run_of (drop w l)
  front-over h =
      let over = run_over (take w l) (drop w l) (h ∙ sym size) in
      omega (arith, ap run_of (take-append-drop w l), over, size)

-- a block of w bytes at a place: the run that stands there goes over it, or is shorter
module _ (l : List ℕ) (n w : ℕ) (fits : n + w ≤ length l) where
  left : w ≤ length (drop n l)
  left = rw (length-drop n l) (omega arith)

  block_size : length (take w (drop n l)) ≡ w
  block_size = length-take-le w (drop n l) left

  pub block_plain : length (stuff (take w (drop n l))) ≤ length (take w (drop n l))
      → n + w + run_of (drop (n + w) l) ≡ n + run_of (drop n l)
  block_plain h =
      let over = front-over (drop n l) w left (run_whole (take w (drop n l)) h ∙ block_size) in
      omega (arith, over, ap run_of (drop-drop w n l))

  pub block_special : length (take w (drop n l)) < length (stuff (take w (drop n l))) → run_of (drop n l) < w
  block_special h =
      let within = run_broken (take w (drop n l)) h in
      let same = front-ended (drop n l) w left (omega (arith, block_size)) in
      omega (arith, block_size)

-- the same of a block by itself, with what stands behind it
module _ (l : List ℕ) (n w : ℕ) (block rest : List ℕ) (within : n ≤ length l) (parts : drop n l ≡ block ++ rest) (sized : length block ≡ w) where
  pub block_fits : n + w ≤ length l
  block_fits = omega (arith, length-drop n l, ap length parts, length-append block rest)

  block_is : take w (drop n l) ≡ block
  block_is = ap (take w) parts ∙ take_at block rest w sized

  pub block_rest : rest ≡ drop (n + w) l
  block_rest = sym (drop_at block rest w sized) ∙ ap (drop w) (sym parts) ∙ drop-drop w n l

  module _ (test : Bool) (told : test ≡ ltb (length block) (length (stuff block))) where
    pub block_passed : test ≡ false → n + w + run_of (drop (n + w) l) ≡ n + run_of (drop n l)
    block_passed h =
        let less = ltb-false (length block) _ (sym told ∙ h) in
        block_plain l n w block_fits (subst (λ (b : List ℕ). length (stuff b) ≤ length b) (sym block_is) less)

    pub block_ends : test ≡ true → run_of (drop n l) < w
    block_ends h =
        let more = ltb-true (length block) _ (sym told ∙ h) in
        block_special l n w block_fits (subst (λ (b : List ℕ). length b < length (stuff b)) (sym block_is) more)

-- stuffing a run is copying it
run_copied : (bytes : List ℕ) → stuff (take (run_of bytes) bytes) ≡ take (run_of bytes) bytes
unfolding stuff run_of
run_copied [] = refl
run_copied (b ∷ bytes) =
    by_first b (stuff (take (run_of (b ∷ bytes)) (b ∷ bytes)) ≡ take (run_of (b ∷ bytes)) (b ∷ bytes))
    (λ h. ap (λ (n : ℕ). stuff (take n (b ∷ bytes))) (run_none b bytes h) ∙ sym (ap (λ (n : ℕ). take n (b ∷ bytes)) (run_none b bytes h)))
    (λ h.
    ap (λ (n : ℕ). stuff (take n (b ∷ bytes))) (run_more b bytes h)
    ∙ ap (λ (l : List ℕ). l ++ stuff (take (run_of bytes) bytes)) (plain_sent b h)
    ∙ ap (λ (l : List ℕ). b ∷ l) (run_copied bytes) ∙ sym (ap (λ (n : ℕ). take n (b ∷ bytes)) (run_more b bytes h)))

run_goes_on : (bytes : List ℕ) → stuff bytes ≡ take (run_of bytes) bytes ++ stuff (drop (run_of bytes) bytes)
run_goes_on bytes =
    ap stuff (sym (take-append-drop (run_of bytes) bytes)) ∙ stuff-append (take (run_of bytes) bytes) (drop (run_of bytes) bytes)
    ∙ ap (λ (l : List ℕ). l ++ stuff (drop (run_of bytes) bytes)) (run_copied bytes)

pub run_length : (bytes : List ℕ) → length (stuff bytes) ≡ run_of bytes + length (stuff (drop (run_of bytes) bytes))
run_length bytes =
    ap length (run_goes_on bytes) ∙ length-append (take (run_of bytes) bytes) (stuff (drop (run_of bytes) bytes))
    ∙ ap (λ (n : ℕ). n + length (stuff (drop (run_of bytes) bytes))) (length-take-le (run_of bytes) bytes (run_short bytes))

-- a run that is written with some of the bytes behind it, and what follows it written over these
pub run_laid : (out : List ℕ) (o : ℕ) (bytes : List ℕ) (m : ℕ) → run_of bytes ≤ m → m ≤ length bytes → o + length (stuff bytes) ≤ length out
    → overlay (overlay out o (take m bytes)) (o + run_of bytes) (stuff (drop (run_of bytes) bytes)) ≡ overlay out o (stuff bytes)
run_laid out o bytes m h k fits =
    let n : ℕ = run_of bytes in
    let run : List ℕ = take n bytes in
    let surplus : List ℕ = drop n (take m bytes) in
    let after : List ℕ = stuff (drop n bytes) in
    let long = stuff_long bytes in
    let size : length run ≡ n = length-take-le n bytes (omega arith) in
    let block : take m bytes ≡ run ++ surplus =
    sym (take-append-drop n (take m bytes)) ∙ ap (λ (l : List ℕ). l ++ surplus) (take-take n m bytes h) in
    let less : length surplus ≤ length after =
    omega (arith, length-drop n (take m bytes), length-take-le m bytes k, length-drop n bytes, stuff_long (drop n bytes)) in
    let first : List ℕ = overlay out o run in
    let inside : o ≤ length out = omega arith in
    let room : o + length run ≤ length first = rw (length-overlay out o run (omega arith)) (omega arith) in
    ap (λ (j : ℕ). overlay (overlay out o (take m bytes)) (o + j) after) (sym size)
    ∙ ap (λ (l : List ℕ). overlay (overlay out o l) (o + length run) after) block
    ∙ ap (λ (l : List ℕ). overlay l (o + length run) after) (sym (overlay-more out o run surplus inside))
    ∙ overlay-over first (o + length run) surplus after room less
    ∙ overlay-more out o run after inside
    ∙ ap (overlay out o) (sym (run_goes_on bytes))

run_plain : (bytes : List ℕ) (i : ℕ) → i < run_of bytes → is_special (get_or bytes i 0) ≡ false
unfolding run_of
run_plain [] i h = absurd (omega arith)
run_plain (b ∷ bytes) zero h =
    by_first b (is_special b ≡ false) (λ s. absurd (omega (arith, run_none b bytes s))) (λ s. s)
run_plain (b ∷ bytes) (suc i) h =
    by_first b (is_special (get_or bytes i 0) ≡ false)
    (λ s. absurd (omega (arith, run_none b bytes s)))
    (λ s. run_plain bytes i (omega (arith, run_more b bytes s)))

run_ends : (bytes : List ℕ) → run_of bytes < length bytes → is_special (get_or bytes (run_of bytes) 0) ≡ true
unfolding run_of
run_ends [] h = absurd (omega arith)
run_ends (b ∷ bytes) h =
    by_first b (is_special (get_or (b ∷ bytes) (run_of (b ∷ bytes)) 0) ≡ true)
    (λ s. ap (λ (n : ℕ). is_special (get_or (b ∷ bytes) n 0)) (run_none b bytes s) ∙ s)
    (λ s.
    ap (λ (n : ℕ). is_special (get_or (b ∷ bytes) n 0)) (run_more b bytes s)
    ∙ run_ends bytes (omega (arith, run_more b bytes s)))

pub runs : Runs
runs = record { special = special-size; copied = run_copied; goes_on = run_goes_on; within = run_short; plain = run_plain; ends = run_ends }
