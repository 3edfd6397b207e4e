-- The claims of 02 (vi). Assumes nothing.
use Prim.Native.Nat.{ℕ}
use mathlib.Core.Path.{◌≡◌, ap}
use mathlib.Core.Bool.{true, false}
use mathlib.Core.List.{List, reverse}
use mathlib.Core.List as lists
use Rattle.refusal.specs.Refusals.{Numbered, number, served, refused}
use Rattle.board.specs.Orders.{lease_in_range}
use Rattle.wire_log.specs.Log.{LogRecord, kinds}
use Rattle.wire_log.specs.Check.{records_of}
use Rattle.replay.specs.Replay.{replayed_by, replayed}
use Rattle.replay.specs.Claims.{Replays}
use Rattle.replay.proofs.Yields.{yields, receivers}
use Rattle.replay.proofs.Serial.{only_serial}
use Rattle.replay.proofs.Borders.{borders}
use Rattle.replay.proofs.Only19.{only_19}

module _ (file : List ℕ) (lease : ℕ) where
  lease_first : lease_in_range lease ≡ false → replayed file lease ≡ refused (number 12)
  unfolding replayed
  lease_first h = rw h

  check_next : (n : Numbered) → lease_in_range lease ≡ true → records_of kinds file ≡ refused n → replayed file lease ≡ refused n
  unfolding replayed
  check_next n h e = rw (h, e)

  oldest_first : (records : List LogRecord) → lease_in_range lease ≡ true → records_of kinds file ≡ served (reverse records)
      → replayed file lease ≡ replayed_by lease records
  unfolding replayed
  oldest_first records h e = rw (h, e) (ap (replayed_by lease) (lists.reverse-reverse records))

pub replays : Replays
replays =
    record {
      list_of_side = yields;
      receivers_yield = receivers;
      lease_first = lease_first;
      check_next = λ file lease n h e. check_next file lease n h e;
      oldest_first = oldest_first;
      only_19 = λ file lease newest n bytes h e f. only_19 lease h file newest n bytes e f;
      only_serial = only_serial;
      borders = λ lease kind a b earlier later h. borders kind a b h lease earlier later;
    }
