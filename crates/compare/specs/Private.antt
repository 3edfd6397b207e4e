-- Contracts of private functions: nothing that a reader has to believe.
use Rattle.std.specs.Prelude.{ℕ, List, reverse}
use Rattle.wire_log.specs.Log.{kinds}
use Rattle.wire_log.specs.Oldest.{records_to}
use Rattle.compare.specs.Compare.{marks_of}

-- the marks of the records that end at a place of each file
unfoldable pub marks_to : List ℕ → ℕ → List ℕ → ℕ → List ℕ
marks_to a p b q = marks_of (reverse (records_to kinds a p)) (reverse (records_to kinds b q))
