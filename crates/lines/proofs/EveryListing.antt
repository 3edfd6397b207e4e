-- Every series of calls puts out the lines of its stream. Assumes nothing.
use Prim.Native.Nat.{ℕ, ◌+◌, ◌-◌, ◌≤◌, min}
use native.Mathlib.Omega.{arith}
use mathlib.Core.Path.{◌≡◌, refl, sym, ap, subst, ◌∙◌}
use mathlib.Core.Bool.{Bool, true, false, cond, ◌&&◌}
use mathlib.Core.List.{List, [], ◌∷◌, ◌++◌, map, append_assoc, append-nil}
use borrow.Author.Tests.{ltb-true, ltb-false}
use lib.Dec.{ltb, eqb}
use lib.ListN.{length, take, drop, replicate, length-append, length-take, length-replicate, take-append-drop}
use lib.Seq.{drop-append_seam, take_all, take-take, length-take-le, take-append-add}
use Rattle.refusal.specs.Room.{overlay}
use Rattle.shdlc.specs.declared.Kind.{Kind}
use Rattle.shdlc.specs.Stream.{Event, byte, Item, Place, outside, next, gain, items_from, items}
use Rattle.shdlc.proofs.Stream.{place_from, items-append, map-append}
use Rattle.receiver.specs.Record.{Record, in_range, pending, item_of, next_byte, next_record, record_from}
use Rattle.receiver.proofs.Simulation.{At, at_next, at-gain, at_range, at-fresh}
use Rattle.lines.specs.Text.{end_line}
use Rattle.lines.specs.Program.{line_of, lines_of, limit, text_for, program_text}
use Rattle.lines.specs.Listing.{Progress, start, shown_by, fitting, Fill, filled_by, refused_fill}
use Rattle.lines.specs.Series.{Hand, fill, text_in, text_by, put_out, took_in, HandsIn, EveryListing}
use Rattle.lines.proofs.Loop.{take-laid}
use Rattle.lines.proofs.Filling.{fitting-front, fitting_within, fitting_some, fill_room, fill-free}

lines_append : (a b : List Item) → lines_of (a ++ b) ≡ lines_of a ++ lines_of b
unfolding lines_of
lines_append [] b = refl
lines_append (i ∷ a) b = ap (λ (l : List ℕ). line_of i ++ l) (lines_append a b) ∙ sym (append_assoc (line_of i) (lines_of a) (lines_of b))

-- what a byte puts out at a place is the line of what the stream gains there
gain-shown : (t u : Bool) (i : Item) → cond (t && u) (line_of i) [] ≡ lines_of (cond t (cond u (i ∷ []) []) [])
unfolding lines_of
gain-shown true true i = sym (append-nil (line_of i))
gain-shown true false i = refl
gain-shown false u i = refl

at-shown : (kind : Kind) (bytes : List ℕ) (place : Place) (r : Record) → At kind place r
    → shown_by r bytes ≡ lines_of (items_from kind place (map byte bytes))
unfolding shown_by items_from lines_of next_record
at-shown kind [] place r h = refl
at-shown kind (b ∷ bytes) place r h =
    rw (
      lines_append (gain kind place (byte b)) (items_from kind (next place (byte b)) (map byte bytes)),
      ← at-gain kind place r (byte b) h,
      ← gain-shown (eqb b 0x7E) (pending r) (item_of r),
      at-shown kind bytes (next place (byte b)) (next_byte r b) (at_next kind place r (byte b) h),
    )

at_record : (kind : Kind) (es : List Event) (place : Place) (r : Record) → At kind place r → At kind (place_from place es) (record_from r es)
unfolding place_from record_from
at_record kind [] place r h = h
at_record kind (e ∷ es) place r h = at_record kind es (next place e) (next_record r e) (at_next kind place r e h)

-- a text that was laid, read again
read_again : (out text : List ℕ) (place : ℕ) → place ≤ length out → drop place (take (place + length text) (overlay out place text)) ≡ text
read_again out text place h =
    ap (drop place) (take-laid out text place h)
    ∙ subst (λ (n : ℕ). drop n (take place out ++ text) ≡ text) (length-take-le place out h) (drop-append_seam (take place out) text)

-- a call: the bytes that it takes, and what it does with them
abbrev taken_by : Progress → Hand → List ℕ
taken_by p h = take (fill p h).taken h.piece

record Does (p : Progress) (h : Hand) (f : Fill) : Type 0 where
  text : text_in f.said f.out h.place ≡ shown_by p.holds (take f.taken h.piece)
  leaves : f.leaves.holds ≡ record_from p.holds (map byte (take f.taken h.piece))
  left : f.leaves.left ≡ p.left - length (take f.taken h.piece)
  within : length (take f.taken h.piece) ≤ p.left

does_nothing : (p : Progress) (h : Hand) → Does p h (refused_fill 1 p h.out)
unfolding shown_by record_from
does_nothing p h = record { text = refl; leaves = refl; left = omega arith; within = omega arith }

does_some : (p : Progress) (h : Hand) (bytes : List ℕ) → take (length bytes) h.piece ≡ bytes → length bytes ≤ p.left → h.place ≤ length h.out
    → Does p h (filled_by p bytes h.out h.place)
does_some p h bytes front within fits =
    record {
      text = read_again h.out (shown_by p.holds bytes) h.place fits ∙ ap (shown_by p.holds) (sym front);
      leaves = ap (λ (l : List ℕ). record_from p.holds (map byte l)) (sym front);
      left = ap (λ (l : List ℕ). p.left - length l) (sym front);
      within = omega (arith, ap length front);
    }

module _ (p : Progress) (h : Hand) (range : in_range p.holds ≡ true) where
  abbrev free : ℕ
  free = length h.out - h.place

  abbrev bytes : List ℕ
  bytes = fitting free p.holds (take p.left h.piece)

  bytes_within : length bytes ≤ p.left
  bytes_within = omega (arith, fitting_within (take p.left h.piece) free p.holds, length-take p.left h.piece)

  bytes-front : take (length bytes) h.piece ≡ bytes
  bytes-front =
      sym (take-take (length bytes) p.left h.piece bytes_within) ∙ fitting-front (take p.left h.piece) free p.holds

  does : Does p h (fill p h)
  does = go (ltb free 24) refl
    where
      go : (t : Bool) → ltb free 24 ≡ t → Does p h (fill p h)
      go true e = subst (Does p h) (fill_room p h.piece h.out h.place range (ltb-true free 24 e)) (does_nothing p h)
      go false e =
          let g : 24 ≤ free = ltb-false free 24 e in
          subst (Does p h) (fill-free p h.piece h.out h.place range g) (does_some p h bytes bytes-front bytes_within (omega arith))

-- a series, from any place of a stream on
module _ (kind : Kind) where
  goes : (hands : List Hand) (p : Progress) (place : Place) → At kind place p.holds → p.left ≤ limit
      → put_out p hands ≡ lines_of (items_from kind place (map byte (took_in p hands))) ++ end_line (limit - p.left + length (took_in p hands))
  unfolding put_out took_in items_from lines_of
  goes [] p place at l = let same : limit - p.left ≡ limit - p.left + 0 = omega arith in ap end_line same
  goes (h ∷ hands) p place at l =
      let d = does p h (at_range kind place p.holds at) in
      let b : List ℕ = taken_by p h in
      let q : Progress = (fill p h).leaves in
      let after : Place = place_from place (map byte b) in
      let more : List ℕ = took_in q hands in
      let at₂ : At kind after q.holds = subst (At kind after) (sym d.leaves) (at_record kind (map byte b) place p.holds at) in
      let rest = goes hands q after at₂ (omega (arith, d.left)) in
      let counts : limit - q.left + length more ≡ limit - p.left + length (b ++ more) = omega (arith, d.left, d.within, length-append b more) in
      let lines : lines_of (items_from kind place (map byte (b ++ more))) ≡ text_by p h ++ lines_of (items_from kind after (map byte more)) =
      ap (λ (es : List Event). lines_of (items_from kind place es)) (map-append b more)
      ∙ ap lines_of (items-append kind (map byte b) (map byte more) place)
      ∙ lines_append (items_from kind place (map byte b)) (items_from kind after (map byte more))
      ∙ ap (λ (t : List ℕ). t ++ lines_of (items_from kind after (map byte more))) (sym (d.text ∙ at-shown kind b place p.holds at)) in
      ap (λ (t : List ℕ). text_by p h ++ t) (rest ∙ ap (λ (n : ℕ). lines_of (items_from kind after (map byte more)) ++ end_line n) counts)
      ∙ sym (append_assoc (text_by p h) (lines_of (items_from kind after (map byte more))) (end_line (limit - p.left + length (b ++ more))))
      ∙ ap (λ (t : List ℕ). t ++ end_line (limit - p.left + length (b ++ more))) (sym lines)

  all_taken : (hands : List Hand) (p : Progress) (place : Place) (input : List ℕ) → At kind place p.holds → HandsIn p input hands
      → took_in p hands ≡ take p.left input
  unfolding took_in HandsIn
  all_taken [] p place input at h = sym h
  all_taken (h ∷ hands) p place input at g =
      let d = does p h (at_range kind place p.holds at) in
      let b : List ℕ = taken_by p h in
      let q : Progress = (fill p h).leaves in
      let rest : List ℕ = g.0 in
      let left : List ℕ = drop (fill p h).taken h.piece in
      let at₂ : At kind (place_from place (map byte b)) q.holds =
      subst (At kind (place_from place (map byte b))) (sym d.leaves) (at_record kind (map byte b) place p.holds at) in
      let size : length b + (p.left - length b) ≡ p.left = omega (arith, d.within) in
      let whole : input ≡ b ++ (left ++ rest) =
      g.1 ∙ ap (λ (l : List ℕ). l ++ rest) (sym (take-append-drop (fill p h).taken h.piece)) ∙ append_assoc b left rest in
      ap (λ (l : List ℕ). b ++ l) (all_taken hands q (place_from place (map byte b)) (left ++ rest) at₂ g.2 ∙ ap (λ (n : ℕ). take n (left ++ rest)) d.left)
      ∙ sym (take-append-add b (left ++ rest) (p.left - length b))
      ∙ ap (λ (n : ℕ). take n (b ++ (left ++ rest))) size
      ∙ ap (take p.left) (sym whole)

  -- byte for byte, each with 24 bytes of room
  one : ℕ → Hand
  one b = record { piece = b ∷ []; out = replicate 24 0; place = 0 }

  one_taken : (p : Progress) (b : ℕ) → in_range p.holds ≡ true → 1 ≤ p.left → (fill p (one b)).taken ≡ 1
  unfolding one
  one_taken p b range h =
      let room : List ℕ = replicate 24 0 in
      let size : length room ≡ 24 = length-replicate {A = ℕ} 24 0 in
      let free : 24 ≤ length room - 0 = omega arith in
      let piece : List ℕ = take p.left (b ∷ []) in
      let most : length piece ≡ min p.left 1 = length-take p.left (b ∷ []) in
      let bytes : List ℕ = fitting (length room - 0) p.holds piece in
      let is : (fill p (one b)).taken ≡ length bytes = ap (λ (f : Fill). f.taken) (sym (fill-free p (b ∷ []) room 0 range free)) in
      omega (arith, is, fitting_within piece (length room - 0) p.holds, fitting_some piece (length room - 0) p.holds free (omega arith))

  none_left : (p : Progress) (input : List ℕ) → p.left ≤ 0 → HandsIn p input []
  unfolding HandsIn
  none_left p input h = let none : p.left ≡ 0 = omega arith in ap (λ (n : ℕ). take n input) none

  more : (p : Progress) (b : ℕ) (input : List ℕ) (hands : List Hand) → (fill p (one b)).taken ≡ 1 → HandsIn (fill p (one b)).leaves input hands
      → HandsIn p (b ∷ input) (one b ∷ hands)
  unfolding HandsIn one
  more p b input hands e h =
      (input, refl, subst (λ (n : ℕ). HandsIn (fill p (one b)).leaves (drop n (b ∷ []) ++ input) hands) (sym e) h)

  handed_in : (input : List ℕ) (p : Progress) (place : Place) → At kind place p.holds → (hands : List Hand) × HandsIn p input hands
  unfolding HandsIn one
  handed_in [] p place at = ([], take_all p.left [] (omega arith))
  handed_in (b ∷ input) p place at =
      let d = does p (one b) (at_range kind place p.holds at) in
      let after : Place = place_from place (map byte (taken_by p (one b))) in
      let at₂ : At kind after (fill p (one b)).leaves.holds =
      subst (At kind after) (sym d.leaves) (at_record kind (map byte (taken_by p (one b))) place p.holds at) in
      go (ltb 0 p.left) refl (handed_in input (fill p (one b)).leaves after at₂)
    where
      go : (t : Bool) → ltb 0 p.left ≡ t → (hands : List Hand) × HandsIn (fill p (one b)).leaves input hands
          → (hands : List Hand) × HandsIn p (b ∷ input) hands
      go true e t = (one b ∷ t.0, more p b input t.0 (one_taken p b (at_range kind place p.holds at) (ltb-true 0 p.left e)) t.1)
      go false e t = ([], none_left p (b ∷ input) (ltb-false 0 p.left e))

  from-fresh : (hands : List Hand) → put_out (start kind) hands ≡ text_for kind (took_in (start kind) hands)
  unfolding text_for items
  from-fresh hands =
      goes hands (start kind) outside (at-fresh kind) (omega arith)
      ∙ (let count : limit - limit + length (took_in (start kind) hands) ≡ length (took_in (start kind) hands) = omega arith in
      ap (λ (n : ℕ). lines_of (items_from kind outside (map byte (took_in (start kind) hands))) ++ end_line n) count)

pub every_listing : (kind : Kind) → EveryListing kind
unfolding program_text
every_listing kind =
    record {
      any_calls = from-fresh kind;
      whole_input = λ input hands h. from-fresh kind hands ∙ ap (text_for kind) (all_taken kind hands (start kind) outside input (at-fresh kind) h);
      some_series = λ input. handed_in kind input (start kind) outside (at-fresh kind);
    }
