-- Words along a list of bytes, one word further at a time: what the loops over slices need. Assumes nothing.
use mathlib.Core.Path.{◌≡◌, refl, sym, ap, ◌∙◌}
use mathlib.Core.List.{List, [], ◌∷◌}
use Prim.Native.Nat.{ℕ, suc, ◌+◌, ◌*◌, ◌/◌, ◌%◌, ◌<◌, ◌≤◌}
use native.Mathlib.Numerals.{towards_suc, add-one, add-two, add-three}
use native.Mathlib.Nat.{zero-add}
use native.Mathlib.Omega.{arith}
use lib.ListN.{length, get_or, drop, set, length-drop, drop_of_length-le}
use lib.Seq.{drop-cons, sets, sets-eq}
use borrow.Author.Tests.{eq-eqb, ne_eqb}
use Rattle.std.specs.Prelude.{Bool, true, false, cond, not, zero, map, Option, Some}
use Rattle.std.specs.List.{position, position_from}
use Rattle.std.specs.Simd.{first_chunks}
use Rattle.std.proofs.lemmas.Iterator.Adapters.{position_from-zero}
use lib.Dec.{eqb}
use Rattle.refusal.specs.Room.{overlay}
use Rattle.refusal.proofs.Rest.{rest_here, rest_end}
use Rattle.i2c.specs.Crc.{crc_of}
use Rattle.i2c.specs.Word.{word_bytes, bytes_of, words_of, Check, all_good, wrong_at, check_word, later, or_else, first_wrong, paper_checked}

-- a word at a place, and the rest
pub three : (bs : List ℕ) (a : ℕ) → a + 2 < length bs → drop a bs ≡ get_or bs a 0 ∷ get_or bs (a + 1) 0 ∷ get_or bs (a + 2) 0 ∷ drop (a + 3) bs
three bs a h =
    simp towards_suc
    (drop-cons bs a 0 (omega arith)
    ∙ ap (λ (l : List ℕ). get_or bs a 0 ∷ l)
    (drop-cons bs (suc a) 0 (omega arith) ∙ ap (λ (l : List ℕ). get_or bs (suc a) 0 ∷ l) (drop-cons bs (suc (suc a)) 0 (omega arith))))

-- fewer than three bytes hold no word
no_words_lem : (bs : List ℕ) → length bs ≤ 2 → words_of bs ≡ []
unfolding words_of
no_words_lem [] h = refl
no_words_lem (u ∷ []) h = refl
no_words_lem (a ∷ b ∷ []) h = refl
no_words_lem (a ∷ b ∷ c ∷ bs) h = absurd (omega arith)

none_wrong : (s : ℕ) (bs : List ℕ) → length bs ≤ 2 → first_wrong s bs ≡ all_good
unfolding first_wrong
none_wrong s [] h = refl
none_wrong s (a ∷ []) h = refl
none_wrong s (a ∷ b ∷ []) h = refl
none_wrong s (a ∷ b ∷ c ∷ bs) h = absurd (omega arith)

short : (bs : List ℕ) (a : ℕ) → length bs ≤ a + 2 → length (drop a bs) ≤ 2
short bs a h = simp length-drop (omega arith)

-- a check, k words further on
abbrev pub after : ℕ → Check → Check
after k all_good = all_good
after k (wrong_at j) = wrong_at (k + j)

pub after_none : (c : Check) → after 0 c ≡ c
after_none all_good = refl
after_none (wrong_at j) = ap wrong_at (zero-add j)

after-later : (k : ℕ) (c : Check) → after k (later c) ≡ after (k + 1) c
after-later k all_good = refl
after-later k (wrong_at j) = ap wrong_at (omega arith)

-- the check of the words from here on: one more, a wrong one, the end
module _ (s : ℕ) (bs : List ℕ) (a k r : ℕ) {x : Check} (e : r ≡ crc_of s (get_or bs a 0 ∷ get_or bs (a + 1) 0 ∷ []))
    (inv : after k (first_wrong s (drop a bs)) ≡ x) (h : a + 2 < length bs) where
  here : after k (or_else (check_word s (get_or bs a 0) (get_or bs (a + 1) 0) (get_or bs (a + 2) 0)) (later (first_wrong s (drop (a + 3) bs)))) ≡ x
  unfolding first_wrong
  here = rw (three bs a h) at inv

  pub check_more : r ≡ get_or bs (a + 2) 0 → after (k + 1) (first_wrong s (drop (a + 3) bs)) ≡ x
  unfolding check_word
  check_more t = sym (after-later k (first_wrong s (drop (a + 3) bs))) ∙ rw (eq-eqb _ _ (sym e ∙ t)) at here

  pub check_wrong : (r ≡ get_or bs (a + 2) 0 → ⊥) → wrong_at k ≡ x
  unfolding check_word
  check_wrong t = ap wrong_at (omega arith) ∙ rw (ne_eqb _ _ (λ p. t (e ∙ p))) at here

pub check_end : (s : ℕ) (bs : List ℕ) (a k : ℕ) {x : Check} → after k (first_wrong s (drop a bs)) ≡ x → length bs ≤ a + 2 → all_good ≡ x
check_end s bs a k inv h = rw (none_wrong s (drop a bs) (short bs a h)) at inv

-- three words, one after the other: r, u and v are their CRCs
module _ (s : ℕ) (bs : List ℕ) (nine : length bs ≡ 9) (r : ℕ) (e : r ≡ crc_of s (get_or bs 0 0 ∷ get_or bs 1 0 ∷ [])) where
  pub first-wrong : (r ≡ get_or bs 2 0 → ⊥) → wrong_at 0 ≡ first_wrong s bs
  first-wrong = check_wrong s bs 0 0 r e (after_none (first_wrong s bs)) (omega (arith, nine))

  module _ (good : r ≡ get_or bs 2 0) (u : ℕ) (f : u ≡ crc_of s (get_or bs 3 0 ∷ get_or bs 4 0 ∷ [])) where
    past_first : after 1 (first_wrong s (drop 3 bs)) ≡ first_wrong s bs
    past_first = check_more s bs 0 0 r e (after_none (first_wrong s bs)) (omega (arith, nine)) good

    pub second_wrong : (u ≡ get_or bs 5 0 → ⊥) → wrong_at 1 ≡ first_wrong s bs
    second_wrong = check_wrong s bs 3 1 u f past_first (omega (arith, nine))

    module _ (fine : u ≡ get_or bs 5 0) (v : ℕ) (g : v ≡ crc_of s (get_or bs 6 0 ∷ get_or bs 7 0 ∷ [])) where
      past_second : after 2 (first_wrong s (drop 6 bs)) ≡ first_wrong s bs
      past_second = check_more s bs 3 1 u f past_first (omega (arith, nine)) fine

      pub third_wrong : (v ≡ get_or bs 8 0 → ⊥) → wrong_at 2 ≡ first_wrong s bs
      third_wrong = check_wrong s bs 6 2 v g past_second (omega (arith, nine))

      pub three_good : v ≡ get_or bs 8 0 → all_good ≡ first_wrong s bs
      three_good t = check_end s bs 9 3 (check_more s bs 6 2 v g past_second (omega (arith, nine)) t) (omega (arith, nine))

-- a word whose CRC is wrong, as the code looks for it: three bytes
abbrev pub is_wrong : ℕ → List ℕ → Bool
is_wrong s w = not (eqb (crc_of s (get_or w 0 0 ∷ get_or w 1 0 ∷ [])) (get_or w 2 0))

-- the first chunk that is a wrong word is the first wrong word
wrong_from : (s i k : ℕ) (bs : List ℕ) → k * 3 ≤ length bs → length bs < k * 3 + 3
    → paper_checked (position_from (is_wrong s) i (first_chunks 3 k bs)) ≡ after i (first_wrong s bs)
unfolding first_wrong check_word
wrong_from s i zero bs h m = sym (ap (after i) (none_wrong s bs (omega arith)))
wrong_from s i (suc k) [] h m = absurd (omega arith)
wrong_from s i (suc k) (a ∷ []) h m = absurd (omega arith)
wrong_from s i (suc k) (a ∷ b ∷ []) h m = absurd (omega arith)
wrong_from s i (suc k) (a ∷ b ∷ c ∷ bs) h m = go (eqb (crc_of s (a ∷ b ∷ [])) c) (wrong_from s (i + 1) k bs (omega arith) (omega arith))
  where
    go : (t : Bool) → paper_checked (position_from (is_wrong s) (i + 1) (first_chunks 3 k bs)) ≡ after (i + 1) (first_wrong s bs)
        → paper_checked (cond (not t) (Some i) (position_from (is_wrong s) (i + 1) (first_chunks 3 k bs)))
        ≡ after i (or_else (cond t all_good (wrong_at 0)) (later (first_wrong s bs)))
    go true e = e ∙ sym (after-later i (first_wrong s bs))
    go false e = ap wrong_at (omega arith)

pub wrong_found : (s : ℕ) (bs : List ℕ) (chunks : List (List ℕ)) (r : Option ℕ) → chunks ≡ first_chunks 3 (length bs / 3) bs
    → r ≡ position (is_wrong s) chunks → paper_checked r ≡ first_wrong s bs
wrong_found s bs chunks r e f =
    ap paper_checked (f ∙ position_from-zero (is_wrong s) chunks)
    ∙ rw e (wrong_from s 0 (length bs / 3) bs (omega arith) (omega arith))
    ∙ after_none (first_wrong s bs)

-- the store of words: each chunk of three bytes holds one
abbrev pub word_in : List ℕ → ℕ
word_in w = get_or w 0 0 * 256 + get_or w 1 0

words_chunks : (k : ℕ) (bs : List ℕ) → k * 3 ≤ length bs → length bs < k * 3 + 3 → map word_in (first_chunks 3 k bs) ≡ words_of bs
unfolding words_of
words_chunks zero bs h m = sym (no_words_lem bs (omega arith))
words_chunks (suc k) [] h m = absurd (omega arith)
words_chunks (suc k) (a ∷ []) h m = absurd (omega arith)
words_chunks (suc k) (a ∷ b ∷ []) h m = absurd (omega arith)
words_chunks (suc k) (a ∷ b ∷ c ∷ bs) h m = ap (λ (l : List ℕ). (a * 256 + b) ∷ l) (words_chunks k bs (omega arith) (omega arith))

pub words_in : (bs : List ℕ) (chunks : List (List ℕ)) → chunks ≡ first_chunks 3 (length bs / 3) bs → map word_in chunks ≡ words_of bs
words_in bs chunks e = rw e (words_chunks (length bs / 3) bs (omega arith) (omega arith))

-- one word more is stored
pub word_stored : (chunks : List (List ℕ)) (out : List ℕ) (k r : ℕ) {x : List ℕ} → k < length chunks → r ≡ word_in (get_or chunks k [])
    → sets out k (map word_in (drop k chunks)) ≡ x → sets (set out k r) (k + 1) (map word_in (drop (k + 1) chunks)) ≡ x
word_stored chunks out k r h e p = rw (add-one, e) (rw (drop-cons chunks k [] h) at p)

pub words_end : (chunks : List (List ℕ)) (out : List ℕ) (k : ℕ) {x : List ℕ} → length chunks ≤ k → sets out k (map word_in (drop k chunks)) ≡ x → out ≡ x
words_end chunks out k h p = rw (drop_of_length-le chunks h) at p

-- the store of bytes: one word more, at the end
bytes_cons : (s : ℕ) (ws : List ℕ) (i : ℕ) → i < length ws → bytes_of s (drop i ws)
    ≡ get_or ws i 0 / 256 ∷ get_or ws i 0 % 256 ∷ crc_of s (get_or ws i 0 / 256 ∷ get_or ws i 0 % 256 ∷ []) ∷ bytes_of s (drop (i + 1) ws)
unfolding bytes_of word_bytes
bytes_cons s ws i h = rw (rest_here ws i h)

pub bytes-more : (s : ℕ) (ws out two : List ℕ) (i r : ℕ) {x : List ℕ} → i < length ws → get_or ws i 0 < 65536
    → two ≡ get_or ws i 0 / 256 % 256 ∷ get_or ws i 0 % 256 ∷ [] → r ≡ crc_of s (get_or two 0 0 ∷ get_or two 1 0 ∷ [])
    → sets out (3 * i) (bytes_of s (drop i ws)) ≡ x
    → sets (set (set (set out (3 * i) (get_or two 0 0)) (3 * i + 1) (get_or two 1 0)) (3 * i + 2) r) (3 * (i + 1)) (bytes_of s (drop (i + 1) ws)) ≡ x
bytes-more s ws out two i r h m e g p =
    let n : 3 * (i + 1) ≡ 3 * i + 3 = omega arith in
    let d : get_or ws i 0 / 256 % 256 ≡ get_or ws i 0 / 256 = omega arith in
    rw (n, g, e, d) (rw (add-three, add-two, add-one (3 * i)) (rw (bytes_cons s ws i h) at p))

pub bytes-end : (s : ℕ) (ws out : List ℕ) (i : ℕ) {x : List ℕ} → length ws ≤ i → sets out (3 * i) (bytes_of s (drop i ws)) ≡ x → out ≡ x
unfolding bytes_of
bytes-end s ws out i h p = rw (rest_end ws i h) at p

-- stores one after the other from the start: the new places over the old
pub overlay-sets : (vs l : List ℕ) → length vs ≤ length l → sets l 0 vs ≡ overlay l 0 vs
unfolding overlay
overlay-sets vs l h = sets-eq vs l 0 (omega arith)

-- how many, and that each has room
pub words_count : (bs : List ℕ) → length (words_of bs) ≡ length bs / 3
unfolding words_of
words_count [] = refl
words_count (h ∷ []) = refl
words_count (h ∷ l ∷ []) = refl
words_count (h ∷ l ∷ c ∷ bs) = omega (arith, words_count bs)

pub bytes_count : (s : ℕ) (ws : List ℕ) → length (bytes_of s ws) ≡ length ws * 3
unfolding bytes_of word_bytes
bytes_count s [] = refl
bytes_count s (w ∷ ws) = omega (arith, bytes_count s ws)

-- three words stored
words_cons : (bs : List ℕ) (a : ℕ) → a + 2 < length bs → words_of (drop a bs) ≡ (get_or bs a 0 * 256 + get_or bs (a + 1) 0) ∷ words_of (drop (a + 3) bs)
unfolding words_of
words_cons bs a h = rw (three bs a h)

pub three_stored : (bs out : List ℕ) (r u v : ℕ) → length bs ≡ 9 → 3 ≤ length out → r ≡ get_or bs 0 0 * 256 + get_or bs 1 0 → u ≡ get_or bs 3 0 * 256 + get_or bs 4 0
    → v ≡ get_or bs 6 0 * 256 + get_or bs 7 0 → set (set (set out 0 r) 1 u) 2 v ≡ overlay out 0 (words_of bs)
three_stored bs out r u v nine m e f g =
    let last : words_of (drop 9 bs) ≡ [] = no_words_lem (drop 9 bs) (short bs 9 (omega (arith, nine))) in
    let third = rw last at (words_cons bs 6 (omega (arith, nine))) in
    let second = rw third at (words_cons bs 3 (omega (arith, nine))) in
    let all : words_of bs ≡ r ∷ u ∷ v ∷ [] = rw (e, f, g) (rw second at (words_cons bs 0 (omega (arith, nine)))) in
    rw all (overlay-sets (r ∷ u ∷ v ∷ []) out m)

pub ruleset three_checked = (first-wrong, second_wrong, third_wrong, three_good)
