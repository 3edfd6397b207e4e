-- 01, What a stream means. Stretch, mark and item are terms of that section. No receiver is named here.
use Rattle.std.specs.Prelude.{ℕ, ◌+◌, Bool, true, false, cond, List, [], ◌∷◌, ◌++◌, eqb}
use Rattle.refusal.specs.Refusals.{number, Answered, served, refused}
use Rattle.shdlc.specs.declared.Kind.{Kind}
use Rattle.shdlc.specs.Stuffing.{unstuff}
use Rattle.shdlc.specs.Body.{check_body}

-- "A stream is a sequence of bytes and silence marks"
pub data Event : Type 0 where
  byte : ℕ → Event
  mark : Event

-- an item is a frame, by its unstuffed body, or a refusal
abbrev pub Item : Type 0
Item = Answered (List ℕ)

unfoldable pub judge_body : Kind → Answered (List ℕ) → Item
judge_body kind (served body) = check_body kind body
judge_body kind (refused n) = refused n

-- the item of a non-empty stretch ended by 7E: "the earliest of 3 and 4; then 5; 6; 7; 8"
unfoldable pub judge : Kind → List ℕ → Item
judge kind stretch = judge_body kind (unstuff stretch)

-- "Before the first 7E, and after a mark, bytes are noise"; or in a stretch, with its bytes so far
pub data Place : Type 0 where
  outside : Place
  inside : List ℕ → Place

-- "After a 7E, the bytes up to the next 7E or mark are a stretch. A 7E that ends one stretch opens the next."
unfoldable pub next_byte : Bool → ℕ → Place → Place
next_byte true b place = inside []
next_byte false b outside = outside
next_byte false b (inside stretch) = inside (stretch ++ (b ∷ []))

unfoldable pub next : Place → Event → Place
next place (byte b) = next_byte (eqb b 0x7E) b place
next place mark = outside

-- the items, none or one, that an event gives: noise and an empty stretch give nothing, a non-empty stretch one item at its 7E, or
-- refusal 9 at a mark, "whatever else is wrong with it"
unfoldable pub gain : Kind → Place → Event → List Item
gain kind outside event = []
gain kind (inside []) event = []
gain kind (inside (b ∷ stretch)) (byte c) = cond (eqb c 0x7E) (judge kind (b ∷ stretch) ∷ []) []
gain kind (inside (b ∷ stretch)) mark = refused (number 9) ∷ []

unfoldable pub items_from : Kind → Place → List Event → List Item
items_from kind place [] = []
items_from kind place (event ∷ events) = gain kind place event ++ items_from kind (next place event) events

-- the items of a stream, in the order gained
unfoldable pub items : Kind → List Event → List Item
items kind events = items_from kind outside events

-- 02 (viii): the bytes, none or one, that an event adds to the noise: "A delimiter isn't noise, nor are bytes of a refused stretch."
unfoldable pub noise_in : Place → Event → ℕ
noise_in outside (byte b) = cond {A = ℕ} (eqb b 0x7E) 0 1
noise_in outside mark = 0
noise_in (inside stretch) event = 0

unfoldable pub noise_from : Place → List Event → ℕ
noise_from place [] = 0
noise_from place (event ∷ events) = noise_in place event + noise_from (next place event) events

-- "the stream's noise bytes"
unfoldable pub noise : List Event → ℕ
noise events = noise_from outside events
