-- 02 (vi), Replay: what is claimed of every log, over the definitions. That the run gives `replayed`, for every file and lease, is the
-- contract of `replay` (src/lib.rt). The proof is `replays` of proofs/Claims.antt.
use Rattle.std.specs.Prelude.{ℕ, ◌≡◌, true, false, List, [], ◌∷◌, ◌++◌, reverse, eqb}
use Rattle.refusal.specs.Refusals.{Numbered, number, served, refused}
use Rattle.shdlc.specs.declared.Kind.{Kind}
use Rattle.shdlc.specs.declared.Kind.TheVariants.{Request, Reply}
use Rattle.shdlc.specs.Stream.{Item, items}
use Rattle.receiver.specs.Record.{fresh}
use Rattle.receiver.specs.Series.{Call, results, reports, HandsIn}
use Rattle.payload.specs.Field.{Bytes}
use Rattle.board.specs.declared.entries.Bus.TheVariants.{Serial}
use Rattle.board.specs.declared.entries.Kind.TheVariants.{Calibration}
use Rattle.board.specs.declared.entries.Entry.{Entry}
use Rattle.board.specs.Entries.{bus_number, kind_number}
use Rattle.board.specs.Orders.{lease_in_range}
use Rattle.wire_log.specs.Log.{LogRecord, kinds, recorded}
use Rattle.wire_log.specs.Check.{records_of}
use Rattle.replay.specs.Replay.{Told, yielded, silent, joined_on, told, replayed_by, replayed}

-- the items that a side has yielded
unfoldable pub items_on : Kind → List Told → List Item
items_on side [] = []
items_on Request (yielded Request i ∷ later) = i ∷ items_on Request later
items_on Request (yielded Reply i ∷ later) = items_on Request later
items_on Reply (yielded Request i ∷ later) = items_on Reply later
items_on Reply (yielded Reply i ∷ later) = i ∷ items_on Reply later
items_on Request (silent ∷ later) = items_on Request later
items_on Reply (silent ∷ later) = items_on Reply later

-- a temporary calibration on the serial bus
abbrev pub SerialCalibration : Entry → Type 0
SerialCalibration e = (e.bus ≡ bus_number Serial) × (e.kind ≡ kind_number Calibration)

unfoldable pub AllSerialCalibrations : List Entry → Type 0
AllSerialCalibrations [] = Unit {0}
AllSerialCalibrations (e ∷ es) = SerialCalibration e × AllSerialCalibrations es

pub record Replays : Type 0 where
  -- "What each receiver yields, itself not shown, is what demand 3's list says for its side's joined bytes and marks": the items that
  -- the log tells of a side are that list,
  pub list_of_side : (side : Kind) (records : List LogRecord) → items_on side (told records) ≡ items side (joined_on side records)
  -- and so is what a fresh receiver of that side gives, by whatever series of calls the side's bytes and marks are handed in (there is one:
  -- `handed_in` of `Demand3`)
  pub receivers_yield : (side : Kind) (records : List LogRecord) (calls : List Call) → HandsIn (fresh side) (joined_on side records) calls
      → reports (results (fresh side) calls) ≡ items_on side (told records)
  -- "12, as in (i), before the log's check"
  pub lease_first : (file : List ℕ) (lease : ℕ) → lease_in_range lease ≡ false → replayed file lease ≡ refused (number 12)
  -- "A log that fails its check is refused before anything is replayed."
  pub check_next : (file : List ℕ) (lease : ℕ) (n : Numbered) → lease_in_range lease ≡ true → records_of kinds file ≡ refused n
      → replayed file lease ≡ refused n
  -- "takes the records oldest first"
  pub oldest_first : (file : List ℕ) (lease : ℕ) (records : List LogRecord) → lease_in_range lease ≡ true
      → records_of kinds file ≡ served (reverse records) → replayed file lease ≡ replayed_by lease records
  -- "or 19 instead if an opening met it": of a file, which is bytes, no other number comes once the lease and the log have passed their checks
  pub only_19 : (file : List ℕ) (lease : ℕ) (newest : List LogRecord) (n : Numbered) → Bytes file → lease_in_range lease ≡ true
      → records_of kinds file ≡ served newest → replayed file lease ≡ refused n → n ≡ number 19
  -- "I2C entries are not in the log and stay empty.": all that is listed are temporary calibrations on the serial bus
  pub only_serial : (lease : ℕ) (records : List LogRecord) (entries : List Entry) → replayed_by lease records ≡ served entries → AllSerialCalibrations entries
  -- "joined": bytes of one side may stand in one record or in two
  pub borders : (lease kind : ℕ) (a b : List ℕ) (earlier later : List LogRecord) → eqb kind 3 ≡ false
      → replayed_by lease (earlier ++ (recorded kind (a ++ b) ∷ later)) ≡ replayed_by lease (earlier ++ (recorded kind a ∷ recorded kind b ∷ later))
