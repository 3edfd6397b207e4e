-- The C interface, a receiver. Its record is the first 268 bytes of a lent slice: the kind (0 request, 1 reply), the mode (0 outside, 1
-- plain, 2 escaped, 3 and 4 the refusal found), the length (high byte, low byte), the count of noise bytes (four bytes, the highest
-- first), the store. What each of the three calls gives.
use Rattle.std.specs.Prelude.{ℕ, zero, suc, ◌+◌, ◌*◌, ◌/◌, ◌%◌, Bool, cond, not, List, [], ◌∷◌, ◌++◌, ltb, eqb, length, get_or, take, drop}
use Rattle.std.proofs.Math.Option.{Option, none, some}
use Rattle.refusal.specs.Refusals.{number, number_in, place_by, Answered, served, refused}
use Rattle.refusal.specs.Room.{overlay}
use Rattle.shdlc.specs.declared.Kind.{Kind}
use Rattle.shdlc.specs.declared.Kind.TheVariants.{Request, Reply}
use Rattle.shdlc.specs.Numbers.{number_of_kind}
use Rattle.receiver.specs.declared.Mode.{Mode}
use Rattle.receiver.specs.declared.Mode.TheVariants.{Outside, Plain, Escaped, BadEscape, BareControl}
use Rattle.receiver.specs.Record.{Record, number_of_mode, in_range, fresh}
use Rattle.receiver.specs.Calls.{Said, nothing, gave, Outcome, feed_of}
use Rattle.mfc.specs.declared.answers.MfcFed.{MfcFed}
use Rattle.mfc.specs.declared.answers.MfcNoise.{MfcNoise}

-- what stands at a place of a list, counted from 0
abbrev pub nth : {A : Type 0} → List A → ℕ → Option A
nth [] n = none
nth (x ∷ xs) zero = some x
nth (x ∷ xs) (suc n) = nth xs n

-- the kinds by number: 0 request, 1 reply
abbrev pub kind_at : ℕ → Option Kind
kind_at n = nth (Request ∷ Reply ∷ []) n

-- the modes by number, as `number_of_mode` has them
abbrev pub mode_at : ℕ → Option Mode
mode_at n = nth (Outside ∷ Plain ∷ Escaped ∷ BadEscape ∷ BareControl ∷ []) n

-- the bytes of a record
abbrev pub record_size : ℕ
record_size = 268

-- a record's bytes: kind, mode, length (high byte, low byte), noise count (four bytes, the highest first), store
abbrev pub count_bytes : ℕ → List ℕ
count_bytes n = n / 16777216 % 256 ∷ n / 65536 % 256 ∷ n / 256 % 256 ∷ n % 256 ∷ []

abbrev pub head_of : Kind → Mode → ℕ → ℕ → List ℕ
head_of kind mode len noise = number_of_kind kind ∷ number_of_mode mode ∷ len / 256 % 256 ∷ len % 256 ∷ count_bytes noise

abbrev pub bytes_of : Record → List ℕ
bytes_of r = head_of r.kind r.mode r.len r.noise ++ r.store

-- the fields in lent bytes, whatever the length is: none where there are too few bytes, or where a number is that of no kind or mode
abbrev pub length_in : List ℕ → ℕ
length_in lent = get_or lent 2 0 * 256 + get_or lent 3 0

abbrev pub count_in : List ℕ → ℕ
count_in lent = ((get_or lent 4 0 * 256 + get_or lent 5 0) * 256 + get_or lent 6 0) * 256 + get_or lent 7 0

abbrev pub store_in : List ℕ → List ℕ
store_in lent = take 260 (drop 8 lent)

abbrev pub fields_of : Option Kind → Option Mode → ℕ → ℕ → List ℕ → Option Record
fields_of none mode len noise store = none
fields_of (some kind) none len noise store = none
fields_of (some kind) (some mode) len noise store = some (record { kind = kind; mode = mode; len = len; noise = noise; store = store })

unfoldable pub fields_in : List ℕ → Option Record
fields_in lent =
    cond (ltb (length lent) record_size) none
    (fields_of (kind_at (get_or lent 0 0)) (mode_at (get_or lent 1 0)) (length_in lent) (count_in lent) (store_in lent))

-- the record in lent bytes: none where they hold none that is within its ranges
abbrev pub ranged : Option Record → Option Record
ranged none = none
ranged (some r) = cond (in_range r) (some r) none

unfoldable pub record_in : List ℕ → Option Record
record_in lent = ranged (fields_in lent)

-- the fields as they are loaded: 2 where there are none
abbrev pub loaded : {A : Type 0} → Option A → Answered A
loaded none = refused (number 2)
loaded (some r) = served r

-- what a call says: the refusal's number, 0 for none, the place of 3 and 4, else 0, the length of a frame's body, and the bytes taken
abbrev pub fed : Said → ℕ → MfcFed
fed nothing taken = record { refusal = 0; place = 0; frame_length = 0; taken = taken }
fed (gave (served n)) taken = record { refusal = 0; place = 0; frame_length = n; taken = taken }
fed (gave (refused n)) taken = record { refusal = number_in n; place = place_by n; frame_length = 0; taken = taken }

-- a fresh record: 1 under 268 bytes, then 12 for a number of no kind; else the record's bytes at the start, and all else as it was
abbrev pub fresh_as : Option Kind → List ℕ → ℕ × List ℕ
fresh_as none lent = (12, lent)
fresh_as (some kind) lent = (0, overlay lent 0 (bytes_of (fresh kind)))

unfoldable pub fresh_record : ℕ → List ℕ → ℕ × List ℕ
fresh_record kind lent = cond (ltb (length lent) record_size) (1, lent) (fresh_as (kind_at kind) lent)

-- what a call on a record gives: the answer, the lent record and the lent frame afterwards
abbrev pub fed_bytes : Outcome → List ℕ → MfcFed × List ℕ × List ℕ
fed_bytes o lent = (fed o.result.said o.result.taken, overlay lent 0 (bytes_of o.leaves), o.result.buffer)

-- a call, with silence before the piece or none. "A record outside its stated ranges is refusal 2, checked first, and comes back as it
-- was." A call lent under 260 bytes is "refused with 1 and adds nothing; the record comes back as it was."
abbrev pub untouched : ℕ → List ℕ → List ℕ → MfcFed × List ℕ × List ℕ
untouched n lent frame = (fed (gave (refused (number n))) 0, lent, frame)

abbrev pub feed_as : Option Record → List ℕ → Bool → List ℕ → List ℕ → MfcFed × List ℕ × List ℕ
feed_as none lent silence piece frame = untouched 2 lent frame
feed_as (some r) lent silence piece frame =
    cond (ltb (length frame) 260) (untouched 1 lent frame) (fed_bytes (feed_of r silence piece frame) lent)

unfoldable pub feed_record : List ℕ → Bool → List ℕ → List ℕ → MfcFed × List ℕ × List ℕ
feed_record lent silence piece frame = feed_as (record_in lent) lent silence piece frame

-- the flag by number: any but 0 says that silence came before the piece
abbrev pub is_silence : ℕ → Bool
is_silence n = not (eqb n 0)

-- the count of noise bytes: the refusal's number, 0 for none, and the count; 2 as above
abbrev pub noise_told : Answered ℕ → MfcNoise
noise_told (served n) = record { refusal = 0; count = n }
noise_told (refused n) = record { refusal = number_in n; count = 0 }

abbrev pub noise_as : Option Record → MfcNoise
noise_as none = noise_told (refused (number 2))
noise_as (some r) = noise_told (served r.noise)

unfoldable pub noise_record : List ℕ → MfcNoise
noise_record lent = noise_as (record_in lent)
