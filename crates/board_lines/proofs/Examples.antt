-- Texts of lists and leases of arguments, computed. Assumes nothing.
use mathlib.Core.Path.{◌≡◌, refl}
use mathlib.Core.List.{[], ◌∷◌}
use Prim.Native.Nat.{ℕ}
use Rattle.board.specs.declared.entries.Entry.{Entry}
use Rattle.board.specs.Entries.{count}
use Rattle.lines.specs.Text.{decimal_within, decimal}
use Rattle.board_lines.specs.Text.{hex_digit, hex_byte, node_text, kind_text, due_text, polls_text, left_text, entry_line, entry_lines, count_text, full_text, due_count, head_line, board_lines, refused_line, board_text}
use Rattle.board_lines.specs.Lease.{is_digit, all_digits, value_from, lease_of}

abbrev entry : ℕ → ℕ → ℕ → ℕ → Entry
entry kind bus address left = record { kind = kind; bus = bus; address = address; spare = 0; left = left }

--     handover board: 2 entries, 1 DUE
--       serial 7: temporary calibration, DUE: set a calibration for good, restart the controller, or renew it
--       serial 12: temporary calibration, 1 poll left
two-entries : board_text 0 (entry 2 0 7 0 ∷ entry 2 0 12 1 ∷ []) ≡
    104 ∷ 97 ∷ 110 ∷ 100 ∷ 111 ∷ 118 ∷ 101 ∷ 114 ∷ 32 ∷ 98 ∷ 111 ∷ 97 ∷ 114 ∷ 100 ∷ 58 ∷ 32 ∷ 50 ∷ 32 ∷ 101 ∷ 110 ∷ 116 ∷ 114 ∷ 105
    ∷ 101 ∷ 115 ∷ 44 ∷ 32 ∷ 49 ∷ 32 ∷ 68 ∷ 85 ∷ 69 ∷ 10 ∷ 32 ∷ 32 ∷ 115 ∷ 101 ∷ 114 ∷ 105 ∷ 97 ∷ 108 ∷ 32 ∷ 55 ∷ 58 ∷ 32 ∷ 116 ∷ 101
    ∷ 109 ∷ 112 ∷ 111 ∷ 114 ∷ 97 ∷ 114 ∷ 121 ∷ 32 ∷ 99 ∷ 97 ∷ 108 ∷ 105 ∷ 98 ∷ 114 ∷ 97 ∷ 116 ∷ 105 ∷ 111 ∷ 110 ∷ 44 ∷ 32 ∷ 68 ∷ 85
    ∷ 69 ∷ 58 ∷ 32 ∷ 115 ∷ 101 ∷ 116 ∷ 32 ∷ 97 ∷ 32 ∷ 99 ∷ 97 ∷ 108 ∷ 105 ∷ 98 ∷ 114 ∷ 97 ∷ 116 ∷ 105 ∷ 111 ∷ 110 ∷ 32 ∷ 102 ∷ 111
    ∷ 114 ∷ 32 ∷ 103 ∷ 111 ∷ 111 ∷ 100 ∷ 44 ∷ 32 ∷ 114 ∷ 101 ∷ 115 ∷ 116 ∷ 97 ∷ 114 ∷ 116 ∷ 32 ∷ 116 ∷ 104 ∷ 101 ∷ 32 ∷ 99 ∷ 111 ∷ 110
    ∷ 116 ∷ 114 ∷ 111 ∷ 108 ∷ 108 ∷ 101 ∷ 114 ∷ 44 ∷ 32 ∷ 111 ∷ 114 ∷ 32 ∷ 114 ∷ 101 ∷ 110 ∷ 101 ∷ 119 ∷ 32 ∷ 105 ∷ 116 ∷ 10 ∷ 32 ∷ 32
    ∷ 115 ∷ 101 ∷ 114 ∷ 105 ∷ 97 ∷ 108 ∷ 32 ∷ 49 ∷ 50 ∷ 58 ∷ 32 ∷ 116 ∷ 101 ∷ 109 ∷ 112 ∷ 111 ∷ 114 ∷ 97 ∷ 114 ∷ 121 ∷ 32 ∷ 99 ∷ 97
    ∷ 108 ∷ 105 ∷ 98 ∷ 114 ∷ 97 ∷ 116 ∷ 105 ∷ 111 ∷ 110 ∷ 44 ∷ 32 ∷ 49 ∷ 32 ∷ 112 ∷ 111 ∷ 108 ∷ 108 ∷ 32 ∷ 108 ∷ 101 ∷ 102 ∷ 116 ∷ 10 ∷ []
unfolding count decimal_within decimal hex_digit hex_byte node_text kind_text due_text polls_text left_text entry_line entry_lines
    count_text full_text due_count head_line board_lines refused_line board_text
two-entries = refl

--     handover board: 3 entries, 2 DUE
--       serial 254: valve forced shut, DUE: return it to normal control, or renew it
--       I2C 0B: valve forced shut, 65535 polls left
--       I2C 24: temporary calibration, DUE: set a calibration for good, restart the controller, or renew it
three_entries : board_text 0 (entry 1 0 254 0 ∷ entry 1 1 11 65535 ∷ entry 2 1 36 0 ∷ []) ≡
    104 ∷ 97 ∷ 110 ∷ 100 ∷ 111 ∷ 118 ∷ 101 ∷ 114 ∷ 32 ∷ 98 ∷ 111 ∷ 97 ∷ 114 ∷ 100 ∷ 58 ∷ 32 ∷ 51 ∷ 32 ∷ 101 ∷ 110 ∷ 116 ∷ 114 ∷ 105
    ∷ 101 ∷ 115 ∷ 44 ∷ 32 ∷ 50 ∷ 32 ∷ 68 ∷ 85 ∷ 69 ∷ 10 ∷ 32 ∷ 32 ∷ 115 ∷ 101 ∷ 114 ∷ 105 ∷ 97 ∷ 108 ∷ 32 ∷ 50 ∷ 53 ∷ 52 ∷ 58 ∷ 32
    ∷ 118 ∷ 97 ∷ 108 ∷ 118 ∷ 101 ∷ 32 ∷ 102 ∷ 111 ∷ 114 ∷ 99 ∷ 101 ∷ 100 ∷ 32 ∷ 115 ∷ 104 ∷ 117 ∷ 116 ∷ 44 ∷ 32 ∷ 68 ∷ 85 ∷ 69 ∷ 58
    ∷ 32 ∷ 114 ∷ 101 ∷ 116 ∷ 117 ∷ 114 ∷ 110 ∷ 32 ∷ 105 ∷ 116 ∷ 32 ∷ 116 ∷ 111 ∷ 32 ∷ 110 ∷ 111 ∷ 114 ∷ 109 ∷ 97 ∷ 108 ∷ 32 ∷ 99 ∷ 111
    ∷ 110 ∷ 116 ∷ 114 ∷ 111 ∷ 108 ∷ 44 ∷ 32 ∷ 111 ∷ 114 ∷ 32 ∷ 114 ∷ 101 ∷ 110 ∷ 101 ∷ 119 ∷ 32 ∷ 105 ∷ 116 ∷ 10 ∷ 32 ∷ 32 ∷ 73 ∷ 50
    ∷ 67 ∷ 32 ∷ 48 ∷ 66 ∷ 58 ∷ 32 ∷ 118 ∷ 97 ∷ 108 ∷ 118 ∷ 101 ∷ 32 ∷ 102 ∷ 111 ∷ 114 ∷ 99 ∷ 101 ∷ 100 ∷ 32 ∷ 115 ∷ 104 ∷ 117 ∷ 116
    ∷ 44 ∷ 32 ∷ 54 ∷ 53 ∷ 53 ∷ 51 ∷ 53 ∷ 32 ∷ 112 ∷ 111 ∷ 108 ∷ 108 ∷ 115 ∷ 32 ∷ 108 ∷ 101 ∷ 102 ∷ 116 ∷ 10 ∷ 32 ∷ 32 ∷ 73 ∷ 50 ∷ 67
    ∷ 32 ∷ 50 ∷ 52 ∷ 58 ∷ 32 ∷ 116 ∷ 101 ∷ 109 ∷ 112 ∷ 111 ∷ 114 ∷ 97 ∷ 114 ∷ 121 ∷ 32 ∷ 99 ∷ 97 ∷ 108 ∷ 105 ∷ 98 ∷ 114 ∷ 97 ∷ 116
    ∷ 105 ∷ 111 ∷ 110 ∷ 44 ∷ 32 ∷ 68 ∷ 85 ∷ 69 ∷ 58 ∷ 32 ∷ 115 ∷ 101 ∷ 116 ∷ 32 ∷ 97 ∷ 32 ∷ 99 ∷ 97 ∷ 108 ∷ 105 ∷ 98 ∷ 114 ∷ 97 ∷ 116
    ∷ 105 ∷ 111 ∷ 110 ∷ 32 ∷ 102 ∷ 111 ∷ 114 ∷ 32 ∷ 103 ∷ 111 ∷ 111 ∷ 100 ∷ 44 ∷ 32 ∷ 114 ∷ 101 ∷ 115 ∷ 116 ∷ 97 ∷ 114 ∷ 116 ∷ 32 ∷ 116
    ∷ 104 ∷ 101 ∷ 32 ∷ 99 ∷ 111 ∷ 110 ∷ 116 ∷ 114 ∷ 111 ∷ 108 ∷ 108 ∷ 101 ∷ 114 ∷ 44 ∷ 32 ∷ 111 ∷ 114 ∷ 32 ∷ 114 ∷ 101 ∷ 110 ∷ 101
    ∷ 119 ∷ 32 ∷ 105 ∷ 116 ∷ 10 ∷ []
unfolding count decimal_within decimal hex_digit hex_byte node_text kind_text due_text polls_text left_text entry_line entry_lines
    count_text full_text due_count head_line board_lines refused_line board_text
three_entries = refl

--     handover board: 1 entry, none due
--       serial 0: temporary calibration, 120 polls left
one_entry : board_text 0 (entry 2 0 0 120 ∷ []) ≡
    104 ∷ 97 ∷ 110 ∷ 100 ∷ 111 ∷ 118 ∷ 101 ∷ 114 ∷ 32 ∷ 98 ∷ 111 ∷ 97 ∷ 114 ∷ 100 ∷ 58 ∷ 32 ∷ 49 ∷ 32 ∷ 101 ∷ 110 ∷ 116 ∷ 114 ∷ 121
    ∷ 44 ∷ 32 ∷ 110 ∷ 111 ∷ 110 ∷ 101 ∷ 32 ∷ 100 ∷ 117 ∷ 101 ∷ 10 ∷ 32 ∷ 32 ∷ 115 ∷ 101 ∷ 114 ∷ 105 ∷ 97 ∷ 108 ∷ 32 ∷ 48 ∷ 58 ∷ 32
    ∷ 116 ∷ 101 ∷ 109 ∷ 112 ∷ 111 ∷ 114 ∷ 97 ∷ 114 ∷ 121 ∷ 32 ∷ 99 ∷ 97 ∷ 108 ∷ 105 ∷ 98 ∷ 114 ∷ 97 ∷ 116 ∷ 105 ∷ 111 ∷ 110 ∷ 44 ∷ 32
    ∷ 49 ∷ 50 ∷ 48 ∷ 32 ∷ 112 ∷ 111 ∷ 108 ∷ 108 ∷ 115 ∷ 32 ∷ 108 ∷ 101 ∷ 102 ∷ 116 ∷ 10 ∷ []
unfolding count decimal_within decimal hex_digit hex_byte node_text kind_text due_text polls_text left_text entry_line entry_lines
    count_text full_text due_count head_line board_lines refused_line board_text
one_entry = refl

-- `handover board: empty`, `refused 20`, and the line above 32 entries, `handover board: 32 entries (full), none due`
no_entry :
    (board_text 0 []
    ≡ 104 ∷ 97 ∷ 110 ∷ 100 ∷ 111 ∷ 118 ∷ 101 ∷ 114 ∷ 32 ∷ 98 ∷ 111 ∷ 97 ∷ 114 ∷ 100 ∷ 58 ∷ 32 ∷ 101 ∷ 109 ∷ 112 ∷ 116 ∷ 121 ∷ 10 ∷ [])
    × (board_text 20 [] ≡ 114 ∷ 101 ∷ 102 ∷ 117 ∷ 115 ∷ 101 ∷ 100 ∷ 32 ∷ 50 ∷ 48 ∷ 10 ∷ [])
    × (head_line 32 0
    ≡ 104 ∷ 97 ∷ 110 ∷ 100 ∷ 111 ∷ 118 ∷ 101 ∷ 114 ∷ 32 ∷ 98 ∷ 111 ∷ 97 ∷ 114 ∷ 100 ∷ 58 ∷ 32 ∷ 51 ∷ 50 ∷ 32 ∷ 101 ∷ 110 ∷ 116 ∷ 114
    ∷ 105 ∷ 101 ∷ 115 ∷ 32 ∷ 40 ∷ 102 ∷ 117 ∷ 108 ∷ 108 ∷ 41 ∷ 44 ∷ 32 ∷ 110 ∷ 111 ∷ 110 ∷ 101 ∷ 32 ∷ 100 ∷ 117 ∷ 101 ∷ 10 ∷ [])
unfolding count decimal_within decimal hex_digit hex_byte node_text kind_text due_text polls_text left_text entry_line entry_lines
    count_text full_text due_count head_line board_lines refused_line board_text
no_entry = (refl, refl, refl)

-- `3600`, `007`, `65535`, `65536`, `70000`; nothing, `6x` and `-1` say 0
leases :
    (lease_of (51 ∷ 54 ∷ 48 ∷ 48 ∷ []) ≡ 3600)
    × (lease_of (48 ∷ 48 ∷ 55 ∷ []) ≡ 7)
    × (lease_of (54 ∷ 53 ∷ 53 ∷ 51 ∷ 53 ∷ []) ≡ 65535)
    × (lease_of (54 ∷ 53 ∷ 53 ∷ 51 ∷ 54 ∷ []) ≡ 65536)
    × (lease_of (55 ∷ 48 ∷ 48 ∷ 48 ∷ 48 ∷ []) ≡ 65536)
    × (lease_of [] ≡ 0)
    × (lease_of (54 ∷ 120 ∷ []) ≡ 0)
    × (lease_of (45 ∷ 49 ∷ []) ≡ 0)
unfolding is_digit all_digits value_from lease_of
leases = (refl, refl, refl, refl, refl, refl, refl, refl)
