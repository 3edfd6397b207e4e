-- The claim over every series of listing calls: what they put out is the program's text.
use Rattle.std.specs.Prelude.{ℕ, ◌-◌, ◌≡◌, List, [], ◌∷◌, ◌++◌, take, drop}
use Rattle.refusal.specs.Refusals.{Answered, served, refused}
use Rattle.shdlc.specs.declared.Kind.{Kind}
use Rattle.lines.specs.Text.{end_line}
use Rattle.lines.specs.Program.{limit, text_for, program_text}
use Rattle.lines.specs.Listing.{Progress, start, Fill, fill_of}

-- a call of a series: its piece, the lent room, and the place in it where its text begins
pub record Hand : Type 0 where
  pub piece : List ℕ
  pub out : List ℕ
  pub place : ℕ

abbrev pub fill : Progress → Hand → Fill
fill p h = fill_of p h.piece h.out h.place

-- the text that a call laid
abbrev pub text_in : Answered ℕ → List ℕ → ℕ → List ℕ
text_in (served n) out place = drop place (take n out)
text_in (refused n) out place = []

abbrev pub text_by : Progress → Hand → List ℕ
text_by p h = text_in (fill p h).said (fill p h).out h.place

-- all that a series of calls puts out, one after the other, and the last line
unfoldable pub put_out : Progress → List Hand → List ℕ
put_out p [] = end_line (limit - p.left)
put_out p (h ∷ hands) = text_by p h ++ put_out (fill p h).leaves hands

-- the bytes that it takes
unfoldable pub took_in : Progress → List Hand → List ℕ
took_in p [] = []
took_in p (h ∷ hands) = take (fill p h).taken h.piece ++ took_in (fill p h).leaves hands

-- a series that hands in an input, cut anywhere: each call hands in some bytes that are next, and what it has not taken stands before
-- what is left, until all is taken or no more may be read
unfoldable pub HandsIn : Progress → List ℕ → List Hand → Type 0
HandsIn p input [] = take p.left input ≡ []
HandsIn p input (h ∷ hands) =
    (rest : List ℕ) × (input ≡ h.piece ++ rest) × HandsIn (fill p h).leaves (drop (fill p h).taken h.piece ++ rest) hands

-- The claim, for a kind of frame.
pub record EveryListing (kind : Kind) : Type 0 where
  -- whatever the pieces and the room lent, the text is that of the bytes taken
  pub any_calls : (hands : List Hand) → put_out (start kind) hands ≡ text_for kind (took_in (start kind) hands)
  -- where all of an input is handed in, it is the program's text
  pub whole_input : (input : List ℕ) (hands : List Hand) → HandsIn (start kind) input hands → put_out (start kind) hands ≡ program_text kind input
  -- every input can be handed in
  pub some_series : (input : List ℕ) → (hands : List Hand) × HandsIn (start kind) input hands
