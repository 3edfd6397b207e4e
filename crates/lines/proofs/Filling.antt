-- One call of `fill`: each `return`. Assumes nothing.
use Prim.Native.Nat.{ℕ, zero, suc, ◌+◌, ◌-◌, ◌≤◌, ◌<◌, min}
use native.Mathlib.Omega.{arith}
use mathlib.Core.Path.{◌≡◌, refl, sym, ap, ◌∙◌}
use mathlib.Core.Bool.{Bool, true, false, cond}
use mathlib.Core.List.{List, [], ◌∷◌, ◌++◌, map}
use borrow.Author.Tests.{lt-ltb, le-ltb, ltb-true, ltb-false}
use lib.Dec.{ltb}
use lib.ListN.{length, take, drop, length-take, take-append-drop}
use lib.Seq.{take-take, drop-drop}
use Rattle.refusal.specs.Refusals.{served, answered}
use Rattle.refusal.specs.declared.Refusal.{Refusal}
use Rattle.refusal.proofs.Order.{refused_not_served}
use Rattle.std.specs.Prelude.{Ok, Err}
use Rattle.shdlc.specs.Stream.{Event, byte}
use Rattle.shdlc.proofs.Stream.{map-append}
use Rattle.receiver.specs.Record.{Record, held, in_range, fresh, next_byte, record_from}
use Rattle.receiver.proofs.EverySeries.{record_append, demand3}
use Rattle.receiver.proofs.Reached.{reached}
use Rattle.lines.specs.declared.Listed.{Listed}
use Rattle.lines.specs.declared.Filled.{Filled}
use Rattle.lines.specs.Listing.{Progress, shown, shown_by, fitting, Fill, paper_filled, filled_by, refused_fill, fill_of}
use Rattle.lines.specs.Private.{Part, paper_listed, list_of}
use Rattle.lines.proofs.Loop.{shown-append, laid_within, take-laid}

-- the bytes taken are the front of a piece, within what may be read
front : (t : Bool) (b : ℕ) (u piece : List ℕ) → take (length u) piece ≡ u → take (length (cond t [] (b ∷ u))) (b ∷ piece) ≡ cond t [] (b ∷ u)
front true b u piece h = refl
front false b u piece h = ap (λ (l : List ℕ). b ∷ l) h

pub fitting-front : (piece : List ℕ) (room : ℕ) (r : Record) → take (length (fitting room r piece)) piece ≡ fitting room r piece
unfolding fitting
fitting-front [] room r = refl
fitting-front (b ∷ piece) room r =
    front (ltb room 24) b (fitting (room - length (shown r b)) (next_byte r b) piece) piece
    (fitting-front piece (room - length (shown r b)) (next_byte r b))

pub fitting_within : (piece : List ℕ) (room : ℕ) (r : Record) → length (fitting room r piece) ≤ length piece
fitting_within piece room r =
    let front : length (take (length (fitting room r piece)) piece) ≡ length (fitting room r piece) = ap length (fitting-front piece room r) in
    omega (arith, length-take (length (fitting room r piece)) piece)

take-most : (m : ℕ) (l : List ℕ) → take (min m (length l)) l ≡ take m l
take-most zero l = let none : min 0 (length l) ≡ 0 = omega arith in rw none
take-most (suc m) [] = let none : min (suc m) 0 ≡ 0 = omega arith in rw none
take-most (suc m) (x ∷ l) =
    let one : min (suc m) (suc (length l)) ≡ suc (min m (length l)) = omega arith in rw one (ap (λ (r : List ℕ). x ∷ r) (take-most m l))

module _ (p : Progress) (piece out : List ℕ) (place : ℕ) where
  pub fill_range : in_range p.holds ≡ false → refused_fill 2 p out ≡ fill_of p piece out place
  unfolding fill_of
  fill_range h = rw h

  module _ (range : in_range p.holds ≡ true) where
    pub fill_room : length out - place < 24 → refused_fill 1 p out ≡ fill_of p piece out place
    unfolding fill_of
    fill_room h = rw (range, lt-ltb (length out - place) 24 h)

    pub fill-free : 24 ≤ length out - place → filled_by p (fitting (length out - place) p.holds (take p.left piece)) out place ≡ fill_of p piece out place
    unfolding fill_of
    fill-free h = rw (range, le-ltb (length out - place) 24 h)

    pub fill-listed : (l : Listed) {store room : List ℕ} {n : ℕ} → 24 ≤ length out - place → n ≡ min p.left (length piece)
        → paper_listed l store room ≡ list_of p.holds (take n piece) out place
        → ◌≡◌ {A = Fill}
        (record {
          leaves = record { holds = held l.receiver store; left = p.left - l.taken };
          taken = l.taken;
          said = served l.filled;
          out = room;
        })
        (fill_of p piece out place)
    fill-listed l {store} {room} {n} h is e =
        ap (λ (x : Part). record { leaves = record { holds = x.leaves; left = p.left - x.taken }; taken = x.taken; said = served x.filled; out = x.out }) e
        ∙ ap (λ (l : List ℕ). filled_by p (fitting (length out - place) p.holds l) out place) (ap (λ (m : ℕ). take m piece) is ∙ take-most p.left piece)
        ∙ fill-free h

    pub listed_within : (l : Listed) {store room : List ℕ} {n : ℕ} → n ≡ min p.left (length piece)
        → paper_listed l store room ≡ list_of p.holds (take n piece) out place → l.taken ≤ p.left
    listed_within l {store} {room} {n} is e =
        let t : l.taken ≡ length (fitting (length out - place) p.holds (take n piece)) = ap (λ (x : Part). x.taken) e in
        omega (arith, fitting_within (take n piece) (length out - place) p.holds, length-take n piece)

-- what a caller knows of a call that served
pub fitting_some : (piece : List ℕ) (room : ℕ) (r : Record) → 24 ≤ room → 1 ≤ length piece → 1 ≤ length (fitting room r piece)
unfolding fitting
fitting_some [] room r h g = omega arith
fitting_some (b ∷ piece) room r h g = rw (le-ltb room 24 h) (omega arith)

pub record Went (p : Progress) (piece out : List ℕ) (place : ℕ) (f : Filled) (store after : List ℕ) (n : ℕ) : Type 0 where
  pub within : f.taken ≤ length piece
  pub some : 1 ≤ length piece → 1 ≤ p.left → 1 ≤ f.taken
  pub holds : held f.listing.receiver store ≡ record_from p.holds (map byte (take f.taken piece))
  pub left : f.listing.left ≡ p.left - f.taken
  pub enough : f.taken ≤ p.left
  pub fits : length after ≡ length out → n ≤ length out
  pub text : take n after ≡ take place out ++ shown_by p.holds (take f.taken piece)

module _ (p : Progress) (piece out : List ℕ) (place : ℕ) (f : Filled) {store after : List ℕ} {n : ℕ} where
  went_free : 24 ≤ length out - place → served n ≡ answered f.said
      → paper_filled f store after ≡ filled_by p (fitting (length out - place) p.holds (take p.left piece)) out place
      → Went p piece out place f store after n
  went_free h said e =
      let bytes : List ℕ = fitting (length out - place) p.holds (take p.left piece) in
      let text : List ℕ = shown_by p.holds bytes in
      let size = length-take p.left piece in
      let most = fitting_within (take p.left piece) (length out - place) p.holds in
      let less : length bytes ≤ p.left = omega arith in
      let taken : f.taken ≡ length bytes = ap (λ (x : Fill). x.taken) e in
      let front : take f.taken piece ≡ bytes =
      ap (λ (m : ℕ). take m piece) taken ∙ sym (take-take (length bytes) p.left piece less)
      ∙ fitting-front (take p.left piece) (length out - place) p.holds in
      let ends : served n ≡ served (place + length text) = said ∙ ap (λ (x : Fill). x.said) e in
      let is : n ≡ place + length text = cc in
      record {
        within = omega (arith, taken);
        some = λ g k. omega (arith, taken, fitting_some (take p.left piece) (length out - place) p.holds h (omega arith));
        holds = ap (λ (x : Fill). x.leaves.holds) e ∙ ap (λ (l : List ℕ). record_from p.holds (map byte l)) (sym front);
        left = ap (λ (x : Fill). x.leaves.left) e ∙ ap (λ (m : ℕ). p.left - m) (sym taken);
        enough = omega (arith, taken);
        fits =
            λ kept. omega (arith, laid_within out text place (omega arith) (ap length (sym (ap (λ (x : Fill). x.out) e)) ∙ kept), is);
        text =
            ap (λ (m : ℕ). take m after) is ∙ ap (λ (x : Fill). take (place + length text) x.out) e ∙ take-laid out text place (omega arith)
            ∙ ap (λ (l : List ℕ). take place out ++ shown_by p.holds l) (sym front);
      }

  pub went : paper_filled f store after ≡ fill_of p piece out place → f.said ≡ Ok n → Went p piece out place f store after n
  went e done = go (in_range p.holds) (ltb (length out - place) 24) refl refl
    where
      says : served n ≡ answered f.said
      says = ap answered (sym done)

      go : (t u : Bool) → in_range p.holds ≡ t → ltb (length out - place) 24 ≡ u → Went p piece out place f store after n
      go true true g h =
          absurd (refused_not_served (sym (says ∙ ap (λ (x : Fill). x.said) (e ∙ sym (fill_room p piece out place g (ltb-true _ _ h))))))
      go true false g h =
          let free = ltb-false (length out - place) 24 h in went_free free says (e ∙ sym (fill-free p piece out place g free))
      go false u g h = absurd (refused_not_served (sym (says ∙ ap (λ (x : Fill). x.said) (e ∙ sym (fill_range p piece out place g)))))

-- a record within its ranges and 24 bytes of room are never refused
pub never_refused : (p : Progress) (piece out : List ℕ) (place : ℕ) (f : Filled) {store after : List ℕ} {why : Refusal} → paper_filled f store after ≡ fill_of p piece out place → in_range p.holds ≡ true → 24 ≤ length out - place
    → f.said ≡ Err why → ⊥
never_refused p piece out place f e range free said =
    refused_not_served (sym (ap answered said) ∙ ap (λ (x : Fill). x.said) (e ∙ sym (fill-free p piece out place range free)))

-- bytes keep a record within its ranges
pub range_kept : (r : Record) (more : List Event) → in_range r ≡ true → in_range (record_from r more) ≡ true
range_kept r more h =
    let s = reached r h in
    ap in_range (ap (λ (x : Record). record_from x more) (sym s.1) ∙ sym (record_append s.0 more (fresh r.kind)))
    ∙ (demand3 r.kind).in_ranges (s.0 ++ more)

-- the record after what is left of a piece
pub went_on : (r next : Record) (piece : List ℕ) (i n : ℕ) → next ≡ record_from r (map byte (take n (drop i piece)))
    → record_from next (map byte (drop (i + n) piece)) ≡ record_from r (map byte (drop i piece))
went_on r next piece i n e =
    ap (λ (x : Record). record_from x (map byte (drop (i + n) piece))) e
    ∙ sym (record_append (map byte (take n (drop i piece))) (map byte (drop (i + n) piece)) r)
    ∙ ap (record_from r)
    (sym (map-append (take n (drop i piece)) (drop (i + n) piece))
    ∙ ap (map byte)
    (ap (λ (l : List ℕ). take n (drop i piece) ++ l) (sym (drop-drop n i piece)) ∙ take-append-drop n (drop i piece)))

-- and its text
pub shown-on : (r next : Record) (piece : List ℕ) (i n : ℕ) → next ≡ record_from r (map byte (take n (drop i piece)))
    → shown_by r (take n (drop i piece)) ++ shown_by next (drop (i + n) piece) ≡ shown_by r (drop i piece)
shown-on r next piece i n e =
    let rest : List ℕ = drop i piece in
    ap (λ (x : Record). shown_by r (take n rest) ++ shown_by x (drop (i + n) piece)) e
    ∙ sym (shown-append (take n rest) (drop (i + n) piece) r)
    ∙ ap (shown_by r) (ap (λ (l : List ℕ). take n rest ++ l) (sym (drop-drop n i piece)) ∙ take-append-drop n rest)
