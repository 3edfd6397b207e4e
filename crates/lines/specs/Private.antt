-- Contracts of private functions: nothing that a reader has to believe.
use Rattle.std.specs.Prelude.{ℕ, ◌+◌, ◌-◌, List, [], map, length, take}
use Rattle.refusal.specs.Refusals.{served, refused}
use Rattle.refusal.specs.Room.{overlay}
use Rattle.shdlc.specs.Stream.{byte}
use Rattle.receiver.specs.Record.{Record, held, record_from}
use Rattle.receiver.specs.Calls.{Said, nothing, gave}
use Rattle.lines.specs.declared.Listed.{Listed}
use Rattle.lines.specs.Program.{line_of}
use Rattle.lines.specs.Listing.{shown_by, fitting}

-- the line of what a feeding call said
abbrev pub said_line : Said → List ℕ → List ℕ
said_line nothing frame = []
said_line (gave (served n)) frame = line_of (served (take n frame))
said_line (gave (refused n)) frame = line_of (refused n)

-- a piece listed as far as the room goes
pub record Part : Type 0 where
  pub leaves : Record
  pub taken : ℕ
  pub filled : ℕ
  pub out : List ℕ

abbrev pub paper_listed : Listed → List ℕ → List ℕ → Part
paper_listed l store out = record { leaves = held l.receiver store; taken = l.taken; filled = l.filled; out = out }

abbrev pub part_by : Record → List ℕ → List ℕ → ℕ → Part
part_by r bytes out place =
    record {
      leaves = record_from r (map byte bytes);
      taken = length bytes;
      filled = place + length (shown_by r bytes);
      out = overlay out place (shown_by r bytes);
    }

abbrev pub list_of : Record → List ℕ → List ℕ → ℕ → Part
list_of r piece out place = part_by r (fitting (length out - place) r piece) out place
