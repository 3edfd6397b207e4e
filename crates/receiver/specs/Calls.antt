-- What each call gives for every record, flag, piece and lent buffer. To be believed are the words of an answer, with `said_of` and
-- `buffer_of`, `fresh_of`, `noise_of`, and that `feed_of` gives refusal 2, with all as it was, exactly for a record that is not in range. The
-- rest is the model of the code: demand 3 (Series.antt) ties it to the stream.
use Rattle.std.specs.Prelude.{ℕ, ◌+◌, Bool, true, false, cond, ◌&&◌, List, [], ◌∷◌, ltb, eqb, length, replicate, Option, Some, None, Result as Returned, Ok, Err}
use Rattle.refusal.specs.declared.Refusal.{Refusal}
use Rattle.refusal.specs.Refusals.{number, Answered, served, refused, paper}
use Rattle.refusal.specs.Room.{overlay}
use Rattle.shdlc.specs.declared.Kind.{Kind}
use Rattle.shdlc.specs.Stream.{Item}
use Rattle.receiver.specs.declared.Fed.{Fed}
use Rattle.receiver.specs.declared.Scanned.{Scanned}
use Rattle.receiver.specs.Record.{Record, held, in_range, fresh, opened, silenced, pending, item_of, next_byte}

-- what a call says: nothing yet, or an item, a frame by the length of its body
pub data Said : Type 0 where
  nothing : Said
  gave : Answered ℕ → Said

-- what a call gives back: its answer, the bytes taken, and the lent frame buffer afterwards
pub record Result : Type 0 where
  pub said : Said
  pub taken : ℕ
  pub buffer : List ℕ

pub record Outcome : Type 0 where
  pub leaves : Record
  pub result : Result

-- the answers of the code in these words
abbrev pub paper_answer : Returned (Option ℕ) Refusal → Said
paper_answer (Ok None) = nothing
paper_answer (Ok (Some n)) = gave (served n)
paper_answer (Err r) = gave (refused (paper r))

abbrev pub paper_fed : Fed → List ℕ → List ℕ → Outcome
paper_fed f store buffer =
    record { leaves = held f.receiver store; result = record { said = paper_answer f.answer; taken = f.taken; buffer = buffer } }

-- refusal 1 under 260 bytes; else the fresh record, and the lent store with its zeros at the start and all else as it was
unfoldable pub fresh_of : Kind → List ℕ → Answered Record × List ℕ
fresh_of kind store = cond (ltb (length store) 260) (refused (number 1), store) (served (fresh kind), overlay store 0 (replicate 260 0))

-- a refused call: nothing is taken, and all is as it was
abbrev pub refused_call : ℕ → Record → List ℕ → Outcome
refused_call n r buffer = record { leaves = r; result = record { said = gave (refused (number n)); taken = 0; buffer = buffer } }

-- a frame by its length; its body stands at the buffer's start
abbrev pub said_of : Item → Said
said_of (served body) = gave (served (length body))
said_of (refused n) = gave (refused n)

abbrev pub buffer_of : Item → List ℕ → List ℕ
buffer_of (served body) buffer = overlay buffer 0 body
buffer_of (refused n) buffer = buffer

-- an item is completed
abbrev pub completed : Record → ℕ → List ℕ → Outcome
completed r taken buffer =
    record { leaves = opened r; result = record { said = said_of (item_of r); taken = taken; buffer = buffer_of (item_of r) buffer } }

-- the whole piece is taken
abbrev pub unfinished : Record → ℕ → List ℕ → Outcome
unfinished r taken buffer = record { leaves = r; result = record { said = nothing; taken = taken; buffer = buffer } }

-- a 7E that ends a stretch with a byte
abbrev pub closes : Record → ℕ → Bool
closes r b = eqb b 0x7E && pending r

-- a piece read up to a 7E that ends a stretch with a byte: the record before that 7E, the bytes passed with it, and whether it came
pub record Scan : Type 0 where
  pub before : Record
  pub taken : ℕ
  pub closed : Bool

abbrev pub scanned_as : Scanned → List ℕ → Scan
scanned_as s store = record { before = held s.receiver store; taken = s.taken; closed = s.closed }

unfoldable pub scan_from : ℕ → Record → List ℕ → Scan
scan_from taken r [] = record { before = r; taken = taken; closed = false }
scan_from taken r (b ∷ piece) =
    cond (closes r b) (record { before = r; taken = taken + 1; closed = true }) (scan_from (taken + 1) (next_byte r b) piece)

-- bytes are taken up to and including the one that completes an item, else the whole piece
abbrev pub fed_by : Scan → List ℕ → Outcome
fed_by s buffer = cond s.closed (completed s.before s.taken buffer) (unfinished s.before s.taken buffer)

-- a mark that cuts off a stretch: refusal 9, and no byte is taken
abbrev pub cut_off : Record → List ℕ → Outcome
cut_off r buffer = record { leaves = silenced r; result = record { said = gave (refused (number 9)); taken = 0; buffer = buffer } }

-- the record after the mark, where there is one
abbrev pub after_mark : Bool → Record → Record
after_mark true r = silenced r
after_mark false r = r

-- 02 (ix): "With the flag set, the mark is dealt with first; if that gives refusal 9, the call takes no bytes"
abbrev pub heard : Record → Bool → List ℕ → List ℕ → Outcome
heard r silence piece buffer = cond (silence && pending r) (cut_off r buffer) (fed_by (scan_from 0 (after_mark silence r) piece) buffer)

-- "A record outside its stated ranges is refusal 2, checked first"; "The lent frame buffer must have 260 bytes; if not, refusal 1"
unfoldable pub feed_of : Record → Bool → List ℕ → List ℕ → Outcome
feed_of r silence piece buffer =
    cond (in_range r) (cond (ltb (length buffer) 260) (refused_call 1 r buffer) (heard r silence piece buffer)) (refused_call 2 r buffer)

-- asking for the noise count, which changes nothing
unfoldable pub noise_of : Record → Answered ℕ
noise_of r = cond (in_range r) (served r.noise) (refused (number 2))
