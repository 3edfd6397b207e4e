-- Words written and read again are the same words, and good bytes read and written again are the same bytes. Assumes nothing.
use mathlib.Core.Path.{◌≡◌, refl, sym, ap, ap₂, ◌∙◌}
use mathlib.Core.Bool.{Bool, true, false, cond}
use mathlib.Core.List.{List, [], ◌∷◌}
use Prim.Native.Nat.{ℕ, suc, ◌+◌, ◌*◌, ◌/◌, ◌%◌, ◌<◌}
use native.Mathlib.Nat.{div-add-mod'}
use native.Mathlib.Numerals.{add-three}
use native.Mathlib.Omega.{arith}
use lib.Arith.{digits_div, digits_mod}
use lib.Dec.{eqb, ltb}
use lib.ListN.{length, get_or, take}
use borrow.Author.Tests.{eq-eqb, ne_eqb, eqb-true}
use Rattle.refusal.specs.Refusals.{number, served}
use Rattle.refusal.specs.Room.{overlay, emit}
use Rattle.refusal.proofs.Order.{refused_not_served}
use Rattle.refusal.proofs.Room.{take-overlay}
use Rattle.i2c.specs.Answer.{Outcome, refuse}
use Rattle.i2c.specs.Crc.{crc_of}
use Rattle.i2c.specs.Word.{word_bytes, bytes_of, words_of, Check, all_good, wrong_at, check_word, later, or_else, first_wrong, no_words, read_checked, read_words, write_words}
use Rattle.i2c.proofs.WordLaws.{bytes_count}

-- the words of their bytes
words_back : (s : ℕ) (ws : List ℕ) → words_of (bytes_of s ws) ≡ ws
unfolding words_of bytes_of word_bytes
words_back s [] = refl
words_back s (w ∷ ws) = ap₂ {C = List ℕ} (λ (v : ℕ) (vs : List ℕ). v ∷ vs) (div-add-mod' w 256) (words_back s ws)

-- their bytes are good
good_back : (s : ℕ) (ws : List ℕ) → first_wrong s (bytes_of s ws) ≡ all_good
unfolding first_wrong check_word bytes_of word_bytes
good_back s [] = refl
good_back s (w ∷ ws) = let e : crc_of s (w / 256 ∷ w % 256 ∷ []) ≡ crc_of s (w / 256 ∷ w % 256 ∷ []) = refl in rw (eq-eqb _ _ e, good_back s ws)

-- some words' bytes, read into any room: the words are stored
pub read_back : (s w : ℕ) (ws room : List ℕ) → read_words s (bytes_of s (w ∷ ws)) room ≡ emit (w ∷ ws) room
unfolding read_words no_words read_checked
read_back s w ws room =
    let n : length (bytes_of s (w ∷ ws)) ≡ suc (length ws) * 3 = bytes_count s (w ∷ ws) in
    let m : length (bytes_of s (w ∷ ws)) % 3 ≡ 0 = omega arith in
    let z : length (bytes_of s (w ∷ ws)) ≡ 0 → ⊥ = λ e. omega arith in
    rw (ne_eqb _ _ z, eq-eqb _ _ m, good_back s (w ∷ ws), words_back s (w ∷ ws))

-- as many places of the lent slice as the answer says hold what was stored
stored-take : (xs lent : List ℕ) (n : ℕ) (last : List ℕ) → emit xs lent ≡ (served n, last) → take n last ≡ xs
unfolding emit
stored-take xs lent n last = go (ltb (length lent) (length xs))
  where
    go : (t : Bool) → cond {A = Outcome} t (refuse (number 1) lent) (served (length xs), overlay lent 0 xs) ≡ (served n, last) → take n last ≡ xs
    go true e = absurd (refused_not_served (ap (λ (o : Outcome). o.0) e))
    go false e =
        let p : served (length xs) ≡ served n = ap (λ (o : Outcome). o.0) e in
        let q : n ≡ length xs = cc in
        ap (take n) (sym (ap (λ (o : Outcome). o.1) e)) ∙ rw q (take-overlay lent xs)

-- whatever the writer wrote, read into any room: the words are stored
pub written_read : (s : ℕ) (ws lent room : List ℕ) (n : ℕ) (last : List ℕ) → write_words s ws lent ≡ (served n, last)
    → read_words s (take n last) room ≡ emit ws room
unfolding write_words
written_read s [] lent room n last e = absurd (refused_not_served (ap (λ (o : Outcome). o.0) e))
written_read s (w ∷ ws) lent room n last e =
    ap (λ (bs : List ℕ). read_words s bs room) (stored-take (bytes_of s (w ∷ ws)) lent n last e) ∙ read_back s w ws room

-- good bytes are the bytes of their words
pub bytes_back : (s : ℕ) (bs : List ℕ) → ((i : ℕ) → get_or bs i 0 < 256) → length bs % 3 ≡ 0 → first_wrong s bs ≡ all_good → bytes_of s (words_of bs) ≡ bs
unfolding words_of first_wrong check_word bytes_of word_bytes
bytes_back s [] b m g = refl
bytes_back s (h ∷ []) b m g = absurd (omega arith)
bytes_back s (h ∷ l ∷ []) b m g = absurd (omega arith)
bytes_back s (h ∷ l ∷ c ∷ bs) b m g = go (eqb (crc_of s (h ∷ l ∷ [])) c) refl (bytes_back s bs (λ i. rw add-three at (b (i + 3))) (omega arith)) g
  where
    all : (k : Check) → later k ≡ all_good → k ≡ all_good
    all all_good e = refl
    all (wrong_at k) e = cc

    go : (t : Bool) → eqb (crc_of s (h ∷ l ∷ [])) c ≡ t → (first_wrong s bs ≡ all_good → bytes_of s (words_of bs) ≡ bs)
        → or_else (cond t all_good (wrong_at 0)) (later (first_wrong s bs)) ≡ all_good → bytes_of s (words_of (h ∷ l ∷ c ∷ bs)) ≡ h ∷ l ∷ c ∷ bs
    go true e ih k = rw (digits_div h (b 1), digits_mod h (b 1), eqb-true (crc_of s (h ∷ l ∷ [])) c e, ih (all (first_wrong s bs) k))
    go false e ih k = cc
