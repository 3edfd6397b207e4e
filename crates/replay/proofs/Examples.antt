-- Small logs and what they mean, by computing: the readings of 02 (vi). Assumes nothing.
use Prim.Native.Nat.{ℕ, zero, suc, ◌+◌}
use mathlib.Core.Path.{◌≡◌, refl}
use mathlib.Core.List.{List, [], ◌∷◌, ◌++◌}
use Rattle.refusal.specs.Refusals.{number, Answered, served, refused}
use Rattle.shdlc.specs.Checksum.{sum, checksum_of}
use Rattle.shdlc.specs.Stuffing.{stuff_byte, stuff, prepend, unstuff_from, unstuff_escaped}
use Rattle.shdlc.specs.Body.{check_body}
use Rattle.shdlc.specs.Frame.{frame_of}
use Rattle.shdlc.specs.Stream.{judge_body, judge, next_byte, next, gain, items_from, items}
use Rattle.receiver.specs.Series.{gained}
use Rattle.payload.specs.Field.{big, big_endian}
use Rattle.sfc6.specs.Commands.{row, place_of}
use Rattle.sfc6.specs.Requests.{check_request, data_of}
use Rattle.sfc6.specs.Reading.{starts_with, named, fitting, first, typed, read_request, carried}
use Rattle.replies.specs.Reader.{data_in, foreign, answer_to, read_reply}
use Rattle.board.specs.declared.entries.Bus.TheVariants.{Serial}
use Rattle.board.specs.declared.entries.Kind.TheVariants.{Calibration}
use Rattle.board.specs.declared.entries.Entry.{Entry}
use Rattle.board.specs.Entries.{entry_of, has, on_node, is_kind, is_node, is_clear, entry_in_range, place_of as place_in, holds, found, again, valid}
use Rattle.board.specs.Orders.{opened, freed, change}
use Rattle.board.specs.Listing.{by_address, listed}
use Rattle.wire_log.specs.Log.{LogRecord, recorded}
use Rattle.replay.specs.Replay.{heard_on, joined_on, completes, polls, told_from, orders_from, board_from, replayed_by}

-- records: request-side bytes, reply-side bytes, a mark
sent : List ℕ → LogRecord
sent bytes = recorded 1 bytes

got : List ℕ → LogRecord
got bytes = recorded 2 bytes

quiet : LogRecord
quiet = recorded 3 []

-- command 46 (volatile calibration 1) and 45 set (calibration 1) at an address, and their acknowledgements
volatile : ℕ → List ℕ
volatile address = frame_of (address ∷ 0x46 ∷ 4 ∷ 0 ∷ 0 ∷ 0 ∷ 1 ∷ [])

set : ℕ → List ℕ
set address = frame_of (address ∷ 0x45 ∷ 4 ∷ 0 ∷ 0 ∷ 0 ∷ 1 ∷ [])

done : ℕ → ℕ → List ℕ
done address command = frame_of (address ∷ command ∷ 0 ∷ 0 ∷ [])

entry : ℕ → ℕ → Entry
entry address left = entry_of (record { bus = Serial; address = address }) Calibration left

-- the first so many controllers, each opened
opens : ℕ → ℕ → List LogRecord
opens zero address = []
opens (suc n) address = sent (volatile address) ∷ got (done address 0x46) ∷ opens n (address + 1)

abbrev Gives : List LogRecord → Answered (List Entry) → Type 0
Gives records answer = replayed_by 5 records ≡ answer

record Readings : Type 0 where
  -- opened by an acknowledged 46; one poll per mark; an entry opened after the last mark has its whole lease
  opened_and_polled : Gives (sent (volatile 2) ∷ got (done 2 0x46) ∷ quiet ∷ quiet ∷ sent (volatile 1) ∷ got (done 1 0x46) ∷ []) (served (entry 1 5 ∷ entry 2 3 ∷ []))
  -- closed by an acknowledged 45 set; what is not acknowledged (15) does nothing
  closed-again : Gives (sent (volatile 2) ∷ got (done 2 0x46) ∷ sent (set 2) ∷ got (done 2 0x45) ∷ []) (served [])
  not_acknowledged : Gives (sent (volatile 2) ∷ got (frame_of (2 ∷ 0x46 ∷ 0x20 ∷ 0 ∷ [])) ∷ []) (served [])
  -- a damaged request leaves the older frame standing; a frame that is refused as a request does not
  damaged_request : Gives (sent (volatile 2) ∷ sent (0x11 ∷ 0x7E ∷ []) ∷ got (done 2 0x46) ∷ []) (served (entry 2 5 ∷ []))
  unknown_request : Gives (sent (volatile 2) ∷ sent (frame_of (2 ∷ 0xD3 ∷ 0 ∷ [])) ∷ got (done 2 0x46) ∷ []) (served [])
  no_request : Gives (got (done 2 0x46) ∷ []) (served [])
  -- a request is not used up, and a mark does not forget it
  renewed : Gives (sent (volatile 2) ∷ got (done 2 0x46) ∷ quiet ∷ got (done 2 0x46) ∷ []) (served (entry 2 5 ∷ []))
  -- only the last of two frames counts; records' borders mean nothing, and a mark cuts both sides
  last-counts : Gives (sent (volatile 2 ++ volatile 3) ∷ got (done 2 0x46) ∷ got (done 3 0x46) ∷ []) (served (entry 3 5 ∷ []))
  across_borders : Gives (sent (0x7E ∷ 2 ∷ 0x46 ∷ []) ∷ sent (4 ∷ 0 ∷ 0 ∷ 0 ∷ 1 ∷ 0xB2 ∷ []) ∷ sent (0x7E ∷ []) ∷ got (done 2 0x46) ∷ []) (served (entry 2 5 ∷ []))
  cut_off_lem : Gives (sent (0x7E ∷ 2 ∷ 0x46 ∷ []) ∷ quiet ∷ sent (4 ∷ 0 ∷ 0 ∷ 0 ∷ 1 ∷ 0xB2 ∷ 0x7E ∷ []) ∷ got (done 2 0x46) ∷ []) (served [])
  -- the request that is ended after the reply is not yet the latest
  too_late : Gives (sent (0x7E ∷ 2 ∷ 0x46 ∷ 4 ∷ 0 ∷ 0 ∷ 0 ∷ 1 ∷ 0xB2 ∷ []) ∷ got (done 2 0x46) ∷ sent (0x7E ∷ []) ∷ []) (served [])
  -- a request to 255 is answered by nobody
  to_all : Gives (sent (volatile 255) ∷ got (done 255 0x46) ∷ []) (served [])
  -- 33 entries do not fit into 32 places, even if a place is freed afterwards
  full : Gives (opens 33 0 ++ (sent (set 0) ∷ got (done 0 0x45) ∷ [])) (refused (number 19))

readings : Readings
unfolding
    sent got quiet volatile set done entry opens
    sum checksum_of stuff_byte stuff prepend unstuff_from unstuff_escaped check_body frame_of
    judge_body judge next_byte next gain items_from items gained
    big big_endian row place_of data_of check_request starts_with named fitting first carried typed read_request
    data_in foreign answer_to read_reply
    has on_node is_kind is_node is_clear entry_in_range place_in holds found again valid opened freed change by_address listed
    heard_on joined_on completes polls told_from orders_from board_from replayed_by
readings =
    record {
      opened_and_polled = refl;
      closed-again = refl;
      not_acknowledged = refl;
      damaged_request = refl;
      unknown_request = refl;
      no_request = refl;
      renewed = refl;
      last-counts = refl;
      across_borders = refl;
      cut_off_lem = refl;
      too_late = refl;
      to_all = refl;
      full = refl;
    }
