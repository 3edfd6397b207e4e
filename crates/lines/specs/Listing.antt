-- Listing a stream piece by piece: the model of a call. `EveryListing` of Series.antt ties it to the text of Program.antt.
use Rattle.std.specs.Prelude.{ℕ, ◌+◌, ◌-◌, cond, List, [], ◌∷◌, ◌++◌, map, ltb, length, take}
use Rattle.refusal.specs.Refusals.{number, Answered, served, refused, answered}
use Rattle.refusal.specs.Room.{overlay}
use Rattle.shdlc.specs.declared.Kind.{Kind}
use Rattle.shdlc.specs.Stream.{byte}
use Rattle.receiver.specs.Record.{Record, held, in_range, fresh, item_of, next_byte, record_from}
use Rattle.receiver.specs.Calls.{closes}
use Rattle.lines.specs.declared.Listing.{Listing}
use Rattle.lines.specs.declared.Filled.{Filled}
use Rattle.lines.specs.Program.{line_of, limit}

-- how far a listing is: the receiver's record, and how many bytes may still be read
pub record Progress : Type 0 where
  pub holds : Record
  pub left : ℕ

abbrev pub paper_listing : Listing → List ℕ → Progress
paper_listing l store = record { holds = held l.receiver store; left = l.left }

abbrev pub start : Kind → Progress
start kind = record { holds = fresh kind; left = limit }

-- what a byte puts out: the line of the item that it completes, or nothing
abbrev pub shown : Record → ℕ → List ℕ
shown r b = cond (closes r b) (line_of (item_of r)) []

unfoldable pub shown_by : Record → List ℕ → List ℕ
shown_by r [] = []
shown_by r (b ∷ bytes) = shown r b ++ shown_by (next_byte r b) bytes

-- the bytes of a piece that are taken: all, or as many as come before under 24 bytes of room are left. 24 bytes hold every line.
unfoldable pub fitting : ℕ → Record → List ℕ → List ℕ
fitting room r [] = []
fitting room r (b ∷ piece) = cond (ltb room 24) [] (b ∷ fitting (room - length (shown r b)) (next_byte r b) piece)

-- what a call leaves: how far the listing is, the bytes taken, where the text ends, and the lent room
pub record Fill : Type 0 where
  pub leaves : Progress
  pub taken : ℕ
  pub said : Answered ℕ
  pub out : List ℕ

abbrev pub paper_filled : Filled → List ℕ → List ℕ → Fill
paper_filled f store out = record { leaves = paper_listing f.listing store; taken = f.taken; said = answered f.said; out = out }

-- bytes taken, and their lines laid from a place on
abbrev pub filled_by : Progress → List ℕ → List ℕ → ℕ → Fill
filled_by p bytes out place =
    record {
      leaves = record { holds = record_from p.holds (map byte bytes); left = p.left - length bytes };
      taken = length bytes;
      said = served (place + length (shown_by p.holds bytes));
      out = overlay out place (shown_by p.holds bytes);
    }

-- a refused call: nothing is taken, and all is as it was
abbrev pub refused_fill : ℕ → Progress → List ℕ → Fill
refused_fill n p out = record { leaves = p; taken = 0; said = refused (number n); out = out }

-- no byte past the limit is taken
unfoldable pub fill_of : Progress → List ℕ → List ℕ → ℕ → Fill
fill_of p piece out place =
    cond (in_range p.holds)
    (cond (ltb (length out - place) 24) (refused_fill 1 p out)
    (filled_by p (fitting (length out - place) p.holds (take p.left piece)) out place))
    (refused_fill 2 p out)
