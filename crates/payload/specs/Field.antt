-- The fields of a payload, read and written. 01, Commands of the SFC6 family: "Numbers are big-endian. [..] Use a reader that carries
-- the payload and its place for the typed fields (a plain-parameter form comes first)."
use Rattle.std.specs.Prelude.{ℕ, zero, suc, ◌+◌, ◌*◌, ◌/◌, ◌%◌, ◌^◌, ◌<◌, List, [], ◌∷◌, cond, ltb, leb, length, take, drop, get_or}
use Rattle.refusal.specs.Refusals.{number, Answered, served, refused}
use Rattle.refusal.specs.Room.{overlay}
use Rattle.payload.specs.declared.fields.Width.{Width}
use Rattle.payload.specs.declared.fields.Width.TheVariants.{One, Two, Four}

-- the number that bytes stand for, the most significant first
unfoldable pub big : List ℕ → ℕ
big [] = 0
big (b ∷ bytes) = b * 256 ^ length bytes + big bytes

-- the bytes of a number, the most significant first, so many of them
unfoldable pub big_endian : ℕ → ℕ → List ℕ
big_endian zero n = []
big_endian (suc count) n = n / 256 ^ count % 256 ∷ big_endian count n

-- each element is a byte (`get_or` past the end is 0): what the laws of proofs/ ask of a list that is read and written again
abbrev pub Bytes : List ℕ → Type 0
Bytes bytes = (i : ℕ) → get_or bytes i 0 < 256

-- 01, Commands of the SFC6 family, the table: the bytes of a u8, a u16 and a u32
abbrev pub bytes_in : Width → ℕ
bytes_in One = 1
bytes_in Two = 2
bytes_in Four = 4

-- a field of so many bytes taken at a place: its number and the place after it. 01, Refusal numbers, row 12: "a reader's field past the
-- payload's end (its place then stays)"
unfoldable pub taken_at : List ℕ → ℕ → ℕ → Answered ℕ × ℕ
taken_at payload place width =
    cond (ltb (length payload) (place + width)) (refused (number 12), place)
    (served (big (take width (drop place payload))), place + width)

-- a field written at a place of lent room: the place after it, and what the room then holds. 01, Refusal numbers, row 12, "a value out
-- of its range", and row 1; "All leave lent buffers unchanged; a writer that succeeds changes only the bytes of its answer."
unfoldable pub put_at : List ℕ → ℕ → ℕ → ℕ → Answered ℕ × List ℕ
put_at room place width n =
    cond (leb (256 ^ width) n) (refused (number 12), room)
    (cond (ltb (length room) (place + width)) (refused (number 1), room) (served (place + width), overlay room place (big_endian width n)))

-- bytes laid at a place of lent room that has room for them: the last case of `put_at`
abbrev pub laid_at : List ℕ → ℕ → List ℕ → Answered ℕ × List ℕ
laid_at room place bytes =
    cond (ltb (length room) (place + length bytes)) (refused (number 1), room) (served (place + length bytes), overlay room place bytes)
