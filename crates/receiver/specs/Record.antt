-- The receiver's record: its ranges, the fresh record of each kind, and what a byte or a silence mark does to it (docs/RECORD.md).
-- To be believed are the record, its ranges and the fresh record, up to `fresh`. What follows is the model of the code: demand 3
-- (Series.antt) says what comes of it for every series of calls, and every record within the ranges is left by some stream (`reached`).
use Rattle.std.specs.Prelude.{ℕ, ◌+◌, ◌-◌, min, Bool, true, false, cond, ◌&&◌, List, [], ◌∷◌, ltb, eqb, length, take, set, replicate, Result, Ok, Err}
use Rattle.std.proofs.Math.Option.{Option, none, some}
use Rattle.refusal.specs.declared.Refusal.{Refusal}
use Rattle.refusal.specs.declared.Refusal.TheVariants.{BadRecord}
use Rattle.refusal.specs.Refusals.{number, ◌carrying◌, refused}
use Rattle.shdlc.specs.declared.Kind.{Kind}
use Rattle.shdlc.specs.Stuffing.{escapes, left_of, stuff_byte, stuff, is_control, reported_place}
use Rattle.shdlc.specs.Body.{check_body}
use Rattle.shdlc.specs.Stream.{Event, byte, mark, Item}
use Rattle.receiver.specs.declared.Mode.{Mode}
use Rattle.receiver.specs.declared.Mode.TheVariants.{Outside, Plain, Escaped, BadEscape, BareControl}
use Rattle.receiver.specs.declared.Receiver.{Receiver}

-- the whole record: the struct's four fields, and the store that is lent beside it
pub record Record : Type 0 where
  pub kind : Kind
  pub mode : Mode
  pub len : ℕ
  pub noise : ℕ
  pub store : List ℕ

abbrev pub held : Receiver → List ℕ → Record
held r store = record { kind = r.kind; mode = r.mode; len = r.len; noise = r.noise; store = store }

-- the modes by number: 0 outside, 1 plain, 2 escaped, 3 and 4 the refusal found
abbrev pub number_of_mode : Mode → ℕ
number_of_mode Outside = 0
number_of_mode Plain = 1
number_of_mode Escaped = 2
number_of_mode BadEscape = 3
number_of_mode BareControl = 4

-- and back; 4 and above are the last
abbrev pub mode_of : ℕ → Mode
mode_of n = cond (eqb n 0) Outside (cond (eqb n 1) Plain (cond (eqb n 2) Escaped (cond (eqb n 3) BadEscape BareControl)))

-- and back in a record's byte, which may be no mode's
abbrev pub mode_numbered : ℕ → Result Mode Refusal
mode_numbered n =
    cond (eqb n 0) (Ok Outside)
    (cond (eqb n 1) (Ok Plain) (cond (eqb n 2) (Ok Escaped) (cond (eqb n 3) (Ok BadEscape) (cond (eqb n 4) (Ok BareControl) (Err BadRecord)))))

-- outside a stretch no byte is held; inside one up to 260 unstuffed bytes, and past these what each more was received as, one or two, is
-- counted; 65,535 stands for more
abbrev pub length_in_range : Mode → ℕ → Bool
length_in_range Outside n = eqb n 0
length_in_range Plain n = ltb n 65536
length_in_range Escaped n = ltb n 65536
length_in_range BadEscape n = ltb n 65536
length_in_range BareControl n = ltb n 65536

-- 02 (viii): "a count of bytes thrown away as noise, stopping at 4,294,967,295"
abbrev pub limited : ℕ → ℕ
limited n = min n 4294967295

abbrev pub in_range : Record → Bool
in_range r = eqb (length r.store) 260 && (ltb r.noise 4294967296 && length_in_range r.mode r.len)

-- before the first 7E, and after a mark
abbrev pub outside_of : Kind → ℕ → Receiver
outside_of kind noise = record { kind = kind; mode = Outside; len = 0; noise = noise }

abbrev pub fresh : Kind → Record
fresh kind = held (outside_of kind 0) (replicate 260 0)

-- what a byte does: it is a byte of the body, or changes the mode, or is noise
pub data Act : Type 0 where
  Store : ℕ → Act
  Become : Mode → Act
  Discard : Act

-- what a byte after a 7D does
abbrev pub unescape : Option ℕ → Act
unescape none = Become BadEscape
unescape (some b) = Store b

-- what a byte other than 7E does; once a fault is found the rest of the stretch is passed over
abbrev pub act_of : Mode → ℕ → Act
act_of Outside b = Discard
act_of Plain b = cond (eqb b 0x7D) (Become Escaped) (cond (is_control b) (Become BareControl) (Store b))
act_of Escaped b = unescape (left_of escapes b)
act_of BadEscape b = Become BadEscape
act_of BareControl b = Become BareControl

-- a byte of the body, kept where there is room for it; else the bytes that it was sent as are counted
abbrev pub pushed : Bool → Record → ℕ → Record
pushed true r b = record { kind = r.kind; mode = Plain; len = r.len + 1; noise = r.noise; store = set r.store r.len b }
pushed false r b = record { kind = r.kind; mode = Plain; len = reported_place (r.len + length (stuff_byte b)); noise = r.noise; store = r.store }

unfoldable pub acted : Record → Act → Record
acted r (Store b) = pushed (ltb r.len 260) r b
acted r (Become m) = record { kind = r.kind; mode = m; len = r.len; noise = r.noise; store = r.store }
acted r Discard = record { kind = r.kind; mode = r.mode; len = r.len; noise = limited (r.noise + 1); store = r.store }

-- a 7E opens an empty stretch
abbrev pub opened : Record → Record
opened r = record { kind = r.kind; mode = Plain; len = 0; noise = r.noise; store = r.store }

-- after a mark bytes are noise
abbrev pub silenced : Record → Record
silenced r = held (outside_of r.kind r.noise) r.store

-- whether the stretch has a byte
abbrev pub pending_in : Mode → ℕ → Bool
pending_in Outside n = false
pending_in Plain n = ltb 0 n
pending_in Escaped n = true
pending_in BadEscape n = true
pending_in BareControl n = true

abbrev pub pending : Record → Bool
pending r = pending_in r.mode r.len

-- 02 (vii): the place of the fault that the mode tells is the number of bytes received before it: the stored ones as they were sent, and
-- those counted past 260
unfoldable pub place_in : ℕ → List ℕ → ℕ
place_in n store = reported_place (length (stuff (take n store)) + (n - 260))

-- the refusal that a mode tells; in the first two there is none, and the value there is never asked for
abbrev pub fault_of : Mode → ℕ
fault_of Outside = 3
fault_of Plain = 3
fault_of Escaped = 3
fault_of BadEscape = 3
fault_of BareControl = 4

-- the item of a stretch that a 7E ends here; outside there is none, and the value there is never asked for
abbrev pub item_in : Mode → Kind → ℕ → List ℕ → Item
item_in Outside kind n store = refused (fault_of Outside carrying place_in n store)
item_in Plain kind n store = cond (ltb 260 n) (refused (number 5)) (check_body kind (take n store))
item_in Escaped kind n store = refused (fault_of Escaped carrying place_in n store)
item_in BadEscape kind n store = refused (fault_of BadEscape carrying place_in n store)
item_in BareControl kind n store = refused (fault_of BareControl carrying place_in n store)

abbrev pub item_of : Record → Item
item_of r = item_in r.mode r.kind r.len r.store

unfoldable pub next_byte : Record → ℕ → Record
next_byte r b = cond (eqb b 0x7E) (opened r) (acted r (act_of r.mode b))

unfoldable pub next_record : Record → Event → Record
next_record r (byte b) = next_byte r b
next_record r mark = silenced r

-- the record that a stream leaves
unfoldable pub record_from : Record → List Event → Record
record_from r [] = r
record_from r (event ∷ events) = record_from (next_record r event) events

abbrev pub record_of : Kind → List Event → Record
record_of kind events = record_from (fresh kind) events
