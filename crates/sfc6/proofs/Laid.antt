-- A request laid down part by part, each part from the place after the one before. Assumes nothing.
use mathlib.Core.Path.{◌≡◌, refl, sym, ap, subst, ◌∙◌}
use mathlib.Core.List.{List, [], ◌∷◌, ◌++◌, append_assoc, append-nil}
use Prim.Native.Nat.{ℕ, ◌+◌, ◌-◌, ◌/◌, ◌%◌, ◌≤◌, ◌<◌}
use native.Mathlib.Nat.{div-one}
use native.Mathlib.Omega.{arith}
use borrow.Author.Tests.{ne_eqb}
use lib.ListN.{length, set, length-append}
use Rattle.refusal.specs.Room.{overlay}
use Rattle.refusal.proofs.Room.{overlay_nothing, set-overlay, set-two, write_then}
use Rattle.payload.specs.Field.{big_endian}
use Rattle.payload.proofs.Big.{length-big_endian}
use Rattle.shdlc.specs.Checksum.{sum, checksum_of}
use Rattle.shdlc.specs.Stuffing.{stuff_byte, stuff}
use Rattle.shdlc.specs.Frame.{put_at, frame_of}
use Rattle.shdlc.proofs.Stuffing.{byte_short, stuff-append, stuff_short}
use Rattle.shdlc.proofs.Frame.{frame-parts, frame-length, sum-append, put-done}
use Rattle.std.specs.Prelude.{Option, Some, None, Result, Ok}
use Rattle.std.specs.Option.{unwrap_or}
use Rattle.refusal.specs.declared.Refusal.{Refusal}
use Rattle.refusal.specs.Refusals.{answered}
use Rattle.refusal.proofs.OneToOne.{answered-one_to_one}
use Rattle.sfc6.specs.declared.Value.{Value}
use Rattle.sfc6.specs.declared.Value.TheVariants as value
use Rattle.sfc6.specs.declared.form.Size.{Size}
use Rattle.sfc6.specs.declared.form.Size.TheVariants.{Nothing, Byte, Four}
use Rattle.sfc6.specs.declared.Row.{Row}
use Rattle.sfc6.specs.Commands.{row, request_at}
use Rattle.sfc6.specs.Requests.{sub_bytes, value_bytes, bytes_of, data_of, body_with, body_at}

-- bytes written at the start of a room: how many, and the room then
abbrev pub Began : List ℕ → List ℕ → ℕ → List ℕ → Type 0
Began room bytes next after = (next ≡ length bytes) × (after ≡ overlay room 0 bytes)

-- bytes written into a room from a place on: the place after them, and the room then
abbrev pub Wrote : List ℕ → ℕ → List ℕ → ℕ → List ℕ → Type 0
Wrote room place bytes next after = (next ≡ place + length bytes) × (after ≡ overlay room place bytes)

-- one byte, stuffed
pub put_wrote : (room : List ℕ) (place b : ℕ) (answer : Result ℕ Refusal) {after : List ℕ} → place + 2 ≤ length room
    → (answered answer, after) ≡ put_at room place b → (answer ≡ Ok (place + length (stuff_byte b))) × (after ≡ overlay room place (stuff_byte b))
put_wrote room place b answer h e =
    let fits : place + length (stuff_byte b) ≤ length room = omega (arith, (byte_short b).1) in
    let done = put-done room place b fits e in
    (answered-one_to_one answer (Ok (place + length (stuff_byte b))) done.0, done.1)

pub set_wrote : (room : List ℕ) (place b : ℕ) → place < length room → Wrote room place (b ∷ []) (place + 1) (set room place b)
set_wrote room place b h = (refl, set-overlay room place b h)

pub none_wrote : (room : List ℕ) (place : ℕ) → Wrote room place [] place room
none_wrote room place = (omega arith, sym (overlay_nothing room place))

pub wrote_same : (room : List ℕ) (place : ℕ) {xs ys : List ℕ} {next : ℕ} {after : List ℕ} → xs ≡ ys → Wrote room place xs next after
    → Wrote room place ys next after
wrote_same room place {next = next} {after = after} e w = subst (λ (l : List ℕ). Wrote room place l next after) e w

-- the bytes of a number
pub four_bytes : (n : ℕ) → big_endian 4 n ≡ n / 0x1000000 % 256 ∷ n / 0x10000 % 256 ∷ n / 0x100 % 256 ∷ n % 256 ∷ []
unfolding big_endian
four_bytes n = rw (div-one n)

pub one_byte_lem : (n : ℕ) → big_endian 1 n ≡ n % 256 ∷ []
unfolding big_endian
one_byte_lem n = rw (div-one n)

-- the bytes of a number take at most eight bytes
pub sized_short : (size : Size) (n : ℕ) → length (stuff (big_endian (bytes_of size) n)) ≤ 8
sized_short Nothing n = omega (arith, stuff_short (big_endian 0 n), length-big_endian 0 n)
sized_short Byte n = omega (arith, stuff_short (big_endian 1 n), length-big_endian 1 n)
sized_short Four n = omega (arith, stuff_short (big_endian 4 n), length-big_endian 4 n)

-- four bytes, one after the other
pub four_wrote : (room w x y z : List ℕ) (place p q r s a b c d : ℕ) → place ≤ length room
    → Wrote room place (stuff_byte a) p w → Wrote w p (stuff_byte b) q x → Wrote x q (stuff_byte c) r y → Wrote y r (stuff_byte d) s z
    → Wrote room place (stuff (a ∷ b ∷ c ∷ d ∷ [])) s z
unfolding stuff
four_wrote room w x y z place p q r s a b c d h e f g i =
    let two = write_then room w x (stuff_byte a) (stuff_byte b) place p q h e f in
    let three = write_then room x y (stuff_byte a ++ stuff_byte b) (stuff_byte c) place q r h two g in
    let four = write_then room y z ((stuff_byte a ++ stuff_byte b) ++ stuff_byte c) (stuff_byte d) place r s h three i in
    wrote_same room place (simp (append_assoc, append-nil)) four

-- a small byte goes as it is
pub small_plain : (b : ℕ) → b ≤ 5 → stuff_byte b ≡ b ∷ []
unfolding stuff_byte
small_plain b h = simp (ne_eqb b 0x7E (λ e. omega arith), ne_eqb b 0x7D (λ e. omega arith), ne_eqb b 0x11 (λ e. omega arith), ne_eqb b 0x13 (λ e. omega arith))

regrouped : (a b c d e f : List ℕ) → (((a ++ b) ++ c) ++ d) ++ (e ++ f) ≡ ((a ++ (b ++ (c ++ d))) ++ e) ++ f
regrouped a b c d e f = simp append_assoc

-- the front of a frame
abbrev pub front : ℕ → ℕ → ℕ → List ℕ
front address command size = 0x7E ∷ (stuff_byte address ++ (command ∷ size ∷ []))

-- a frame in the parts that are written
module _ (address command size : ℕ) (S B : List ℕ) where
  total_is : size ≡ length (S ++ B) → (total : ℕ) → total ≡ address + command + size + sum S + sum B
      → 255 - total % 256 ≡ checksum_of (body_with address command (S ++ B))
  unfolding checksum_of sum
  total_is long total e = rw (← long, sum-append S B) (ap (λ (x : ℕ). 255 - x % 256) (e ∙ omega arith))

  body_stuffed : (stuff_byte command ≡ command ∷ []) × (stuff S ≡ S) → size ≡ length (S ++ B) → size ≤ 5
      → stuff (body_with address command (S ++ B)) ≡ stuff_byte address ++ (command ∷ size ∷ (S ++ stuff B))
  unfolding stuff
  body_stuffed plain long small = rw (← long, plain.0, small_plain size small, stuff-append S B, plain.1)

  frame_made : stuff (body_with address command (S ++ B)) ≡ stuff_byte address ++ (command ∷ size ∷ (S ++ stuff B))
      → (total : ℕ) → 255 - total % 256 ≡ checksum_of (body_with address command (S ++ B))
      → ((front address command size ++ S) ++ stuff B) ++ (stuff_byte (255 - total % 256) ++ (0x7E ∷ []))
      ≡ frame_of (body_with address command (S ++ B))
  frame_made body total e =
      rw (e, frame-parts (body_with address command (S ++ B)), body)
      (ap (λ (l : List ℕ). 0x7E ∷ l) (regrouped (stuff_byte address) (command ∷ size ∷ []) S (stuff B) _ _))

pub sub_short : (s : Option ℕ) → length (sub_bytes s) ≤ 1
sub_short None = omega arith
sub_short (Some s) = omega arith

pub value_short : (v : Value) → length (value_bytes v) ≤ 4
unfolding big_endian
value_short value.Nothing = omega arith
value_short (value.Float x) = omega arith
value_short (value.U32 n) = omega arith
value_short (value.Address a) = omega arith
value_short (value.Baud rate) = omega arith

pub data_short : (r : Row) → length (data_of r) ≤ 5
unfolding data_of
data_short r = omega (arith, length-append (sub_bytes r.sub) (value_bytes r.value), sub_short r.sub, value_short r.value)

-- the front of a frame: its 7E, then a byte stuffed, then two as they are
pub front_wrote : (room after : List ℕ) (bytes : List ℕ) (place b c : ℕ) → 0 < length room → Wrote (set room 0 0x7E) 1 bytes place after
    → place + 2 ≤ length after
    → Began room (0x7E ∷ (bytes ++ (b ∷ c ∷ []))) (place + 2) (set (set after place b) (place + 1) c)
front_wrote room after bytes place b c h e k =
    let two : Wrote after place (b ∷ c ∷ []) (place + 2) (set (set after place b) (place + 1) c) = (refl, set-two after place b c (omega arith)) in
    let first = write_then room (set room 0 0x7E) after (0x7E ∷ []) bytes 0 1 place (omega arith) (set_wrote room 0 0x7E h) e in
    let all = write_then room after _ ((0x7E ∷ []) ++ bytes) (b ∷ c ∷ []) 0 place (place + 2) (omega arith) first two in
    (omega (arith, all.0), all.1)

pub front_short : (address command size : ℕ) → length (front address command size) ≤ 5
front_short address command size = omega (arith, byte_short address, length-append (stuff_byte address) (command ∷ size ∷ []))

pub sized_most : (size : Size) → bytes_of size ≤ 4
sized_most Nothing = omega arith
sized_most Byte = omega arith
sized_most Four = omega arith

-- a subcommand's sum is that of the byte, or 0
pub sub_sum : (sub : Option ℕ) → sum (sub_bytes sub) ≡ unwrap_or sub 0
unfolding sum
sub_sum None = refl
sub_sum (Some s) = omega arith

-- the parts of a command's frame
module _ (address command : ℕ) (sub : Option ℕ) (size : Size) (n : ℕ)
    (plain : (stuff_byte command ≡ command ∷ []) × (stuff (sub_bytes sub) ≡ sub_bytes sub)) where
  abbrev S : List ℕ
  S = sub_bytes sub

  abbrev B : List ℕ
  B = big_endian (bytes_of size) n

  abbrev count : ℕ
  count = length S + bytes_of size

  long : count ≡ length (S ++ B)
  long = omega (arith, length-append S B, length-big_endian (bytes_of size) n)

  five : count ≤ 5
  five = omega (arith, sized_most size, sub_short sub)

  stuffed : stuff (body_with address command (S ++ B)) ≡ stuff_byte address ++ (command ∷ count ∷ (S ++ stuff B))
  stuffed = body_stuffed address command count S B plain long five

  pub command_wrote : (room w x y z : List ℕ) (p q r end total : ℕ)
      → Began room (front address command count) p w → Wrote w p S q x → Wrote x q (stuff B) r y
      → Wrote y r (stuff_byte (255 - total % 256) ++ (0x7E ∷ [])) end z
      → total ≡ address + command + count + unwrap_or sub 0 + sum B
      → Began room (frame_of (body_with address command (S ++ B))) end z
  command_wrote room w x y z p q r end total f g h i e =
      let is = total_is address command count S B long total (rw (sub_sum sub) e) in
      let one = write_then room w x (front address command count) S 0 p q (omega arith) (omega (arith, f.0), f.1) g in
      let two = write_then room x y (front address command count ++ S) (stuff B) 0 q r (omega arith) one h in
      let three = write_then room y z ((front address command count ++ S) ++ stuff B) _ 0 r end (omega arith) two i in
      let whole = wrote_same room 0 (frame_made address command count S B stuffed total is) three in
      (omega (arith, whole.0), whole.1)

  -- such a frame is at most 17 bytes
  pub frame_short : length (frame_of (body_with address command (S ++ B))) ≤ 17
  frame_short =
      let c : ℕ = checksum_of (body_with address command (S ++ B)) in
      omega (
        arith,
        frame-length (body_with address command (S ++ B)),
        ap length stuffed,
        length-append (stuff_byte address) (command ∷ count ∷ (S ++ stuff B)),
        length-append S (stuff B),
        byte_short address,
        byte_short c,
        sub_short sub,
        sized_short size n,
      )

-- the body of a form that is that of a row
pub form_body : (address place n : ℕ) {command : ℕ} {sub : Option ℕ} {size : ℕ} → command ≡ (row (request_at place 0)).command
    → sub ≡ (row (request_at place 0)).sub → size ≡ length (value_bytes (row (request_at place 0)).value)
    → body_with address command (sub_bytes sub ++ big_endian size n) ≡ body_at address place n
form_body address place n e f g = rw (e, f, g)
