-- 01, The program and the host: `frame 0 69 0` (address, command, L), `refused` and a number, `end 8`; 02 (vii): with 3 and 4 the place,
-- `refused 4 at 0`. ASCII, each line ended by a line feed.
use Rattle.std.specs.Prelude.{ℕ, zero, suc, ◌+◌, ◌/◌, ◌%◌, cond, List, [], ◌∷◌, ◌++◌, ltb}
use Rattle.refusal.specs.Refusals.{Numbered, number_in, is_placed, place_by}

abbrev pub digit : ℕ → ℕ
digit d = 48 + d

-- a number in decimal; as many divisions by 10 as the number says are more than enough
unfoldable pub decimal_within : ℕ → ℕ → List ℕ
decimal_within zero n = digit (n % 10) ∷ []
decimal_within (suc divisions) n = cond (ltb n 10) (digit n ∷ []) (decimal_within divisions (n / 10) ++ (digit (n % 10) ∷ []))

unfoldable pub decimal : ℕ → List ℕ
decimal n = decimal_within n n

-- frame, refused, at and end, each with a space
abbrev pub frame_word : List ℕ
frame_word = 102 ∷ 114 ∷ 97 ∷ 109 ∷ 101 ∷ 32 ∷ []

abbrev pub refused_word : List ℕ
refused_word = 114 ∷ 101 ∷ 102 ∷ 117 ∷ 115 ∷ 101 ∷ 100 ∷ 32 ∷ []

abbrev pub at_word : List ℕ
at_word = 97 ∷ 116 ∷ 32 ∷ []

abbrev pub end_word : List ℕ
end_word = 101 ∷ 110 ∷ 100 ∷ 32 ∷ []

-- a number, and the space or the line feed after it
unfoldable pub field : ℕ → ℕ → List ℕ
field n after = decimal n ++ (after ∷ [])

unfoldable pub frame_line : ℕ → ℕ → ℕ → List ℕ
frame_line address command l = ((frame_word ++ field address 32) ++ field command 32) ++ field l 10

-- `4 at 0`
unfoldable pub placed_field : ℕ → ℕ → List ℕ
placed_field n place = (field n 32 ++ at_word) ++ field place 10

unfoldable pub refused_line : Numbered → List ℕ
refused_line n = refused_word ++ cond (is_placed (number_in n)) (placed_field (number_in n) (place_by n)) (field (number_in n) 10)

unfoldable pub end_line : ℕ → List ℕ
end_line n = end_word ++ field n 10
