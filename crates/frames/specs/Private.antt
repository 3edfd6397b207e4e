-- Contracts of private functions: nothing that a reader has to believe.
use Rattle.std.specs.Prelude.{ℕ, ◌+◌, ◌-◌, ◌≤◌, ◌≡◌, List, map, length, take}
use Rattle.shdlc.specs.Stream.{byte}
use Rattle.receiver.specs.Record.{held, record_from}
use Rattle.lines.specs.declared.Listing.{Listing}
use Rattle.lines.specs.Listing.{Progress, paper_listing, shown_by}
use Rattle.frames.specs.declared.Shown.{Shown}

-- all of a piece is taken, from a listing with its store; where the room holds its lines, they stand in it
abbrev pub ListsAll : Listing → List ℕ → List ℕ → List ℕ → Shown → List ℕ → List ℕ → Type 0
ListsAll from store piece room s after out =
    (s.filled ≤ length room)
    × ◌≡◌ {A = Progress} (paper_listing s.listing after)
    (record { holds = record_from (held from.receiver store) (map byte piece); left = from.left - length piece })
    × (length (shown_by (held from.receiver store) piece) + 24 ≤ length room
    → take s.filled out ≡ shown_by (held from.receiver store) piece)
