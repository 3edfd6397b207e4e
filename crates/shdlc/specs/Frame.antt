-- 01, Frames on the wire: "A frame is 7E, stuffed body, 7E." The writer takes a body without its checksum.
use Rattle.std.specs.Prelude.{ℕ, ◌+◌, cond, List, [], ◌∷◌, ◌++◌, ltb, length}
use Rattle.refusal.specs.Refusals.{number, Answered, served, refused}
use Rattle.refusal.specs.Room.{emit, overlay}
use Rattle.shdlc.specs.Checksum.{checksum_of}
use Rattle.shdlc.specs.Stuffing.{stuff_byte, stuff}

abbrev pub with_checksum : List ℕ → List ℕ
with_checksum body = body ++ (checksum_of body ∷ [])

unfoldable pub frame_of : List ℕ → List ℕ
frame_of body = 0x7E ∷ stuff (with_checksum body) ++ (0x7E ∷ [])

-- one byte, stuffed, at a place of a room: the place after it, and what the room then holds; or refusal 1
abbrev pub put_at : List ℕ → ℕ → ℕ → Answered ℕ × List ℕ
put_at room place b =
    cond (ltb (length room) (place + length (stuff_byte b))) (refused (number 1), room)
    (served (place + length (stuff_byte b)), overlay room place (stuff_byte b))

-- what the writer of a frame answers, and what the lent room then holds
abbrev pub write_frame : List ℕ → List ℕ → Answered ℕ × List ℕ
write_frame body room = emit (frame_of body) room
