-- Texts laid one after another, as much as fits, and the lines of marks. Assumes nothing.
use mathlib.Core.Path.{◌≡◌, refl, sym, ap, subst, ◌∙◌}
use mathlib.Core.Bool.{Bool, true, false, cond}
use mathlib.Core.List.{List, [], ◌∷◌, ◌++◌, append-nil, append_assoc}
use Prim.Native.Nat.{ℕ, ◌+◌, ◌-◌, ◌≤◌, ◌<◌}
use native.Mathlib.Omega.{arith}
use lib.Dec.{eqb}
use lib.ListN.{length, get_or, take, drop, length-append, length-take}
use lib.Seq.{take-nil, drop-nil}
use borrow.Author.Tests.{eq-eqb, ne_eqb}
use Rattle.refusal.specs.Room.{overlay}
use Rattle.refusal.proofs.Room.{length-overlay, overlay_nothing}
use Rattle.refusal.proofs.Rest.{rest_here, rest_end}
use Rattle.lines.specs.Text.{decimal}
use Rattle.wire_log.specs.Text.{window}
use Rattle.wire_log.proofs.Windows.{fitting, lay-on, length-on, Laying, laying_start, laying_end, laying_on, window_is}
use Rattle.compare_lines.specs.Text.{differ_word, only_aWord, only_bWord, same_word, word_of, line, differences, joined}
use Rattle.compare_lines.specs.Private.{Fitted, told, told_text}

-- what is laid stays within the room, and keeps its length
pub fitted_in : (room after text : List ℕ) (r place skip : ℕ) → place ≤ length room → Fitted r after room place text skip
    → (r ≤ length after) × (length after ≡ length room)
fitted_in room after text r place skip h f =
    let part : List ℕ = fitting text skip (length room) place in
    let fits : place + length part ≤ length room = omega (arith, h, length-take (length room - place) (drop skip text)) in
    let kept : length after ≡ length room = ap length f.1 ∙ length-overlay room place part fits in
    (omega (arith, f.0, fits, kept), kept)

pub fitted_then : (room after end a b : List ℕ) (p q place skip more : ℕ) → place ≤ length room → Fitted p after room place a skip
    → more ≡ skip - length a → Fitted q end after p b more → Fitted q end room place (a ++ b) skip
fitted_then room after end a b p q place skip more h f m g =
    let kept = (fitted_in room after a p place skip h f).1 in
    let g' : Fitted q end (overlay room place (fitting a skip (length room) place)) (place + length (fitting a skip (length room) place)) b (skip - length a) =
    subst (λ (k : ℕ). Fitted q end (overlay room place (fitting a skip (length room) place)) (place + length (fitting a skip (length room) place)) b k) m
    (subst (λ (k : ℕ). Fitted q end (overlay room place (fitting a skip (length room) place)) k b more) f.0
    (subst (λ (l : List ℕ). Fitted q end l p b more) f.1 g)) in
    let size : length (overlay room place (fitting a skip (length room) place)) ≡ length room = ap length (sym f.1) ∙ kept in (
      rw size at g'.0 ∙ length-on room a b place skip,
      rw size at g'.1 ∙ lay-on room a b place skip h,
    )

-- the same text by another name
pub fitted_as : (room : List ℕ) (place skip : ℕ) {r : ℕ} {after l m : List ℕ} → l ≡ m → Fitted r after room place l skip → Fitted r after room place m skip
fitted_as room place skip {r} {after} e f = subst (λ (t : List ℕ). Fitted r after room place t skip) e f

-- a line: its word, its number and the line feed
pub line-laid : (room one two three word digits : List ℕ) (n p q r place skip past rest : ℕ) → place ≤ length room → digits ≡ decimal n
    → Fitted p one room place word skip → past ≡ skip - length word → Fitted q two one p digits past → rest ≡ past - length digits
    → Fitted r three two q (10 ∷ []) rest → Fitted r three room place (line word n) skip
unfolding line
line-laid room one two three word digits n p q r place skip past rest h e f past_is g rest_is k =
    let inside = (fitted_in room one word p place skip h f).0 in
    let after : Fitted r three one p (digits ++ (10 ∷ [])) past = fitted_then one two three digits (10 ∷ []) q r p past rest inside g rest_is k in
    fitted_then room one three word (decimal n ++ (10 ∷ [])) p r place skip past h f past_is
    (subst (λ (l : List ℕ). Fitted r three one p (l ++ (10 ∷ [])) past) e after)

pub length-line : (word : List ℕ) (n : ℕ) → length (line word n) ≡ length word + (length (decimal n) + 1)
unfolding line
length-line word n = omega (arith, length-append word (decimal n ++ (10 ∷ [])), length-append (decimal n) (10 ∷ []))

-- the line of each mark
module _ (m : ℕ) where
  -- its line, or none
  pub none_told : (n : ℕ) → m ≡ 0 → told m n ≡ []
  unfolding told
  none_told n e = rw (eq-eqb m 0 e)

  pub is_told : (word : List ℕ) (n : ℕ) → (m ≡ 0 → ⊥) → word ≡ word_of m → line word n ≡ told m n
  unfolding told
  is_told word n h e = ap (λ (w : List ℕ). line w n) e ∙ rw (ne_eqb m 0 h)

  pub seven : length (word_of m) ≡ 7
  unfolding word_of
  seven = go (eqb m 1) (eqb m 2)
    where
      go : (s t : Bool) → length (cond s differ_word (cond t only_aWord only_bWord)) ≡ 7
      go true t = refl
      go false true = refl
      go false false = refl

-- nothing is laid
pub fitted_none : (room : List ℕ) (place skip : ℕ) (text : List ℕ) → text ≡ [] → Fitted place room room place text skip
fitted_none room place skip text e =
    subst (λ (l : List ℕ). Fitted place room room place l skip) (sym e)
    (rw (nothing skip (length room - place)) (omega arith, sym (overlay_nothing room place)))
  where
    nothing : (n k : ℕ) → take k (drop {A = ℕ} n []) ≡ []
    nothing n k = ap (take k) (drop-nil n) ∙ take-nil k

-- the lines of marks
pub lines_append : (xs ys : List (List ℕ)) → joined (xs ++ ys) ≡ joined xs ++ joined ys
unfolding joined
lines_append [] ys = refl
lines_append (x ∷ xs) ys = ap (λ (l : List ℕ). x ++ l) (lines_append xs ys) ∙ sym (append_assoc x (joined xs) (joined ys))

module _ (last : List ℕ) where
  -- those of the marks from a place on, and the last
  abbrev pub text_from : List ℕ → ℕ → List ℕ
  text_from marks i = joined (differences i (drop i marks)) ++ last

  pub from_here : (marks : List ℕ) (i : ℕ) → i < length marks → text_from marks i ≡ told (get_or marks i 0) i ++ text_from marks (i + 1)
  unfolding differences joined told
  from_here marks i h =
      ap (λ (l : List ℕ). joined (differences i l) ++ last) (rest_here marks i h) ∙ go (eqb (get_or marks i 0) 0)
    where
      go : (t : Bool)
          → joined (cond t (differences (i + 1) (drop (i + 1) marks)) (line (word_of (get_or marks i 0)) i ∷ differences (i + 1) (drop (i + 1) marks))) ++ last
          ≡ cond t [] (line (word_of (get_or marks i 0)) i) ++ text_from marks (i + 1)
      go true = refl
      go false = append_assoc (line (word_of (get_or marks i 0)) i) (joined (differences (i + 1) (drop (i + 1) marks))) last

  pub from_end : (marks : List ℕ) (i : ℕ) → length marks ≤ i → text_from marks i ≡ last
  unfolding differences joined
  from_end marks i h = ap (λ (l : List ℕ). joined (differences i l) ++ last) (rest_end marks i h)

pub text_told : (marks : List ℕ) (n : ℕ) → told_text marks n ≡ text_from (line same_word n) marks 0
unfolding told_text joined
text_told marks n =
    lines_append (differences 0 marks) (line same_word n ∷ []) ∙ ap (λ (l : List ℕ). joined (differences 0 marks) ++ l) (append-nil (line same_word n))

-- the loop that lays them: its start, one mark more, and the last line
module _ (marks : List ℕ) (same from : ℕ) (room : List ℕ) where
  abbrev pub Telling : List ℕ → ℕ → ℕ → ℕ → Type 0
  Telling out o skip i =
      Laying (text_from (line same_word same) marks i) room 0 (take (length room) (drop from (text_from (line same_word same) marks 0))) out o skip

  pub telling_start : Telling room 0 from 0
  telling_start = laying_start (text_from (line same_word same) marks 0) room from

  module _ (out : List ℕ) (o skip i : ℕ) (l : Telling out o skip i) where
    pub telling_more : i < length marks → {next more : ℕ} {after : List ℕ} → Fitted next after out o (told (get_or marks i 0) i) skip
        → more ≡ skip - length (told (get_or marks i 0) i) → Telling after next more (i + 1)
    telling_more h w m =
        laying_on (told (get_or marks i 0) i) (text_from (line same_word same) marks (i + 1)) room 0 _ out o skip
        (subst (λ (t : List ℕ). Laying t room 0 (take (length room) (drop from (text_from (line same_word same) marks 0))) out o skip) (from_here (line same_word same) marks i h) l) w m

    pub telling_over : length marks ≤ i → {r : ℕ} {after : List ℕ} → Fitted r after out o (line same_word same) skip
        → ◌≡◌ {A = ℕ × List ℕ} (r, after) (window (told_text marks same) from room)
    telling_over h {r} {after} w =
        let whole : List ℕ = take (length room) (drop from (text_from (line same_word same) marks 0)) in
        let last : Laying (line same_word same ++ []) room 0 whole out o skip =
        subst (λ (t : List ℕ). Laying t room 0 whole out o skip) (from_end (line same_word same) marks i h ∙ sym (append-nil (line same_word same))) l in
        let end : Laying [] room 0 whole after r (skip - length (line same_word same)) = laying_on (line same_word same) [] room 0 whole out o skip last w refl in
        window_is room whole after r (laying_end [] room 0 whole after r (skip - length (line same_word same)) end (omega arith))
        ∙ ap (λ (t : List ℕ). window t from room) (sym (text_told marks same))
