-- Files and what the check says of them, computed. The first is the example of 02 (v). Assumes nothing.
use mathlib.Core.Path.{◌≡◌, refl}
use mathlib.Core.List.{List, [], ◌∷◌}
use Prim.Native.Nat.{ℕ}
use Rattle.refusal.specs.Refusals.{number, served, refused}
use Rattle.payload.specs.Field.{big, big_endian}
use Rattle.wire_log.specs.Log.{LogRecord, recorded, kinds, record_bytes, joined, closing, log_of}
use Rattle.refusal.specs.Room.{overlay}
use Rattle.wire_log.specs.Listing.{rows_of, numbers_of, lay_rows, list}
use Rattle.wire_log.specs.Text.{word_of, hex_digit, hex_byte, hex_bytes, line_of, lines_of, refused_line, log_text}
use Rattle.wire_log.specs.Check.{kind_at, size_at, start_at, record_at, ending_at, walk, records_before, count_in, total_in, bad_total, records_of}

abbrev one : List ℕ
one = 0x7E ∷ 0x00 ∷ 0x45 ∷ 0x00 ∷ 0xBA ∷ 0x7E ∷ []

abbrev request : LogRecord
request = recorded 1 one

abbrev mark : LogRecord
mark = recorded 3 []

abbrev reply : LogRecord
reply = recorded 2 (0x41 ∷ [])

-- "One record holding 7E 00 45 00 BA 7E is that, then 01 00 06, then 00 00 00 01 00 00 00 09."
written : log_of (request ∷ []) ≡ 0x7E ∷ 0x00 ∷ 0x45 ∷ 0x00 ∷ 0xBA ∷ 0x7E ∷ 0x01 ∷ 0x00 ∷ 0x06 ∷ 0x00 ∷ 0x00 ∷ 0x00 ∷ 0x01 ∷ 0x00 ∷ 0x00 ∷ 0x00 ∷ 0x09 ∷ []
unfolding log_of joined record_bytes closing big_endian
written = refl

listed_newest_first : records_of kinds (log_of (request ∷ mark ∷ reply ∷ [])) ≡ served (reply ∷ mark ∷ request ∷ [])
unfolding log_of joined record_bytes closing big_endian big kinds kind_at size_at start_at record_at ending_at walk records_before count_in total_in bad_total records_of
listed_newest_first = refl

-- a log without records
empty : records_of kinds (0 ∷ 0 ∷ 0 ∷ 0 ∷ 0 ∷ 0 ∷ 0 ∷ 0 ∷ []) ≡ served []
unfolding big kinds kind_at size_at start_at record_at ending_at walk records_before count_in total_in bad_total records_of
empty = refl

-- a file and its refusals: seven bytes; a total that is wrong; a trailer of two bytes; one that points before the start; kind 0; kind 3 with
-- a body; a wrong count; the newest fault comes first, both ways round; a fault before a wrong count
refusals :
    (records_of kinds (0 ∷ 0 ∷ 0 ∷ 0 ∷ 0 ∷ 0 ∷ 0 ∷ []) ≡ refused (number 20))
    × (records_of kinds (3 ∷ 0 ∷ 0 ∷ 0 ∷ 0 ∷ 0 ∷ 1 ∷ 0 ∷ 0 ∷ 0 ∷ 2 ∷ []) ≡ refused (number 20))
    × (records_of kinds (0 ∷ 0 ∷ 0 ∷ 0 ∷ 0 ∷ 1 ∷ 0 ∷ 0 ∷ 0 ∷ 2 ∷ []) ≡ refused (number 21))
    × (records_of kinds (1 ∷ 0 ∷ 1 ∷ 0 ∷ 0 ∷ 0 ∷ 1 ∷ 0 ∷ 0 ∷ 0 ∷ 3 ∷ []) ≡ refused (number 21))
    × (records_of kinds (0 ∷ 0 ∷ 0 ∷ 0 ∷ 0 ∷ 0 ∷ 1 ∷ 0 ∷ 0 ∷ 0 ∷ 3 ∷ []) ≡ refused (number 22))
    × (records_of kinds (7 ∷ 3 ∷ 0 ∷ 1 ∷ 0 ∷ 0 ∷ 0 ∷ 1 ∷ 0 ∷ 0 ∷ 0 ∷ 4 ∷ []) ≡ refused (number 22))
    × (records_of kinds (3 ∷ 0 ∷ 0 ∷ 0 ∷ 0 ∷ 0 ∷ 2 ∷ 0 ∷ 0 ∷ 0 ∷ 3 ∷ []) ≡ refused (number 23))
    × (records_of kinds (9 ∷ 0 ∷ 0 ∷ 1 ∷ 0 ∷ 9 ∷ 0 ∷ 0 ∷ 0 ∷ 2 ∷ 0 ∷ 0 ∷ 0 ∷ 6 ∷ []) ≡ refused (number 21))
    × (records_of kinds (1 ∷ 0 ∷ 9 ∷ 9 ∷ 0 ∷ 0 ∷ 0 ∷ 0 ∷ 0 ∷ 2 ∷ 0 ∷ 0 ∷ 0 ∷ 6 ∷ []) ≡ refused (number 22))
    × (records_of kinds (9 ∷ 0 ∷ 0 ∷ 3 ∷ 0 ∷ 0 ∷ 0 ∷ 0 ∷ 0 ∷ 7 ∷ 0 ∷ 0 ∷ 0 ∷ 6 ∷ []) ≡ refused (number 22))
unfolding big kinds kind_at size_at start_at record_at ending_at walk records_before count_in total_in bad_total records_of
refusals = (refl, refl, refl, refl, refl, refl, refl, refl, refl, refl)

-- the rows of a log of three records, in parts of two rows and of one, and with no room for one
rows :
    (list kinds (log_of (request ∷ mark ∷ reply ∷ [])) 0 (9 ∷ 9 ∷ 9 ∷ 9 ∷ 9 ∷ 9 ∷ 9 ∷ 9 ∷ []) ≡ (served 2, 2 ∷ 12 ∷ 1 ∷ 3 ∷ 9 ∷ 0 ∷ 9 ∷ 9 ∷ []))
    × (list kinds (log_of (request ∷ mark ∷ reply ∷ [])) 2 (9 ∷ 9 ∷ 9 ∷ 9 ∷ 9 ∷ 9 ∷ 9 ∷ 9 ∷ []) ≡ (served 1, 1 ∷ 0 ∷ 6 ∷ 9 ∷ 9 ∷ 9 ∷ 9 ∷ 9 ∷ []))
    × (list kinds (log_of (request ∷ mark ∷ reply ∷ [])) 3 [] ≡ (served 0, []))
    × (list kinds (log_of (request ∷ mark ∷ reply ∷ [])) 2 (9 ∷ 9 ∷ []) ≡ (refused (number 1), 9 ∷ 9 ∷ []))
unfolding log_of joined record_bytes closing big_endian big kinds kind_at size_at start_at record_at ending_at walk records_before count_in total_in bad_total records_of rows_of numbers_of lay_rows list overlay
rows = (refl, refl, refl, refl)

-- `reply 41`, `silence`, `request 7E 00 45 00 BA 7E`; of seven bytes `refused 20`
printed :
    (log_text kinds (log_of (request ∷ mark ∷ reply ∷ []))
    ≡ 114 ∷ 101 ∷ 112 ∷ 108 ∷ 121 ∷ 32 ∷ 52 ∷ 49 ∷ 10
    ∷ 115 ∷ 105 ∷ 108 ∷ 101 ∷ 110 ∷ 99 ∷ 101 ∷ 10
    ∷ 114 ∷ 101 ∷ 113 ∷ 117 ∷ 101 ∷ 115 ∷ 116 ∷ 32 ∷ 55 ∷ 69 ∷ 32 ∷ 48 ∷ 48 ∷ 32 ∷ 52 ∷ 53 ∷ 32 ∷ 48 ∷ 48 ∷ 32 ∷ 66 ∷ 65 ∷ 32 ∷ 55 ∷ 69 ∷ 10 ∷ [])
    × (log_text kinds (0 ∷ 0 ∷ 0 ∷ 0 ∷ 0 ∷ 0 ∷ 0 ∷ []) ≡ 114 ∷ 101 ∷ 102 ∷ 117 ∷ 115 ∷ 101 ∷ 100 ∷ 32 ∷ 50 ∷ 48 ∷ 10 ∷ [])
unfolding log_of joined record_bytes closing big_endian big kinds kind_at size_at start_at record_at ending_at walk records_before count_in total_in bad_total records_of word_of hex_digit hex_byte hex_bytes line_of lines_of refused_line log_text
printed = (refl, refl)
