-- The C interface, every series of calls with one receiver: demand 3 over the record's bytes.
use Rattle.std.specs.Prelude.{ℕ, ◌≤◌, ◌<◌, min, ◌≡◌, Bool, cond, ◌&&◌, ◌||◌, List, [], ◌∷◌, ◌++◌, map, eqb, length, take, drop}
use Rattle.refusal.specs.Refusals.{Numbered, number, ◌carrying◌, is_placed, served, refused}
use Rattle.shdlc.specs.declared.Kind.{Kind}
use Rattle.shdlc.specs.Stream.{Event, byte, Item, items, noise}
use Rattle.receiver.specs.Record.{Record, fresh, record_of}
use Rattle.receiver.specs.Calls.{Result}
use Rattle.receiver.specs.Series.{Call, stream_of, expected_from, marks, handed}
use Rattle.mfc.specs.declared.answers.MfcFed.{MfcFed}
use Rattle.shdlc.specs.Numbers.{number_of_kind}
use Rattle.mfc.specs.Receivers.{record_size, bytes_of, fed, fresh_record, feed_record, noise_record}

-- what a call of C gives, whatever number stands for the flag (`is_silence`): its answer, the record's bytes and the frame afterwards
abbrev pub called : List ℕ → Call → MfcFed × List ℕ × List ℕ
called lent call = feed_record lent call.silence call.piece call.buffer

-- the answers and the frames of a series, and the record's bytes at its end
unfoldable pub answers : List ℕ → List Call → List (MfcFed × List ℕ)
answers lent [] = []
answers lent (call ∷ calls) = ((called lent call).0, (called lent call).2) ∷ answers (called lent call).1 calls

unfoldable pub bytes_after : List ℕ → List Call → List ℕ
bytes_after lent [] = lent
bytes_after lent (call ∷ calls) = bytes_after (called lent call).1 calls

-- what demand 3 says of a call, as C is told it
abbrev pub told : Result → MfcFed × List ℕ
told r = (fed r.said r.taken, r.buffer)

-- the refusal that an answer tells C of, 3 and 4 with the place
abbrev pub refusal_told : MfcFed → Numbered
refusal_told f = cond (is_placed f.refusal) (f.refusal carrying f.place) (number f.refusal)

-- whether C is told that the call was refused, with 1 or 2
abbrev pub refused_told : MfcFed → Bool
refused_told f = eqb f.refusal 1 || eqb f.refusal 2

-- the item that an answer tells C of: any other refusal; a frame by its length, which is not 0, its body at the frame's start
abbrev pub heard : MfcFed × List ℕ → List Item
heard t =
    cond (eqb t.0.refusal 0)
    (cond (eqb t.0.frame_length 0) [] (served (take t.0.frame_length t.1) ∷ []))
    (cond (refused_told t.0) [] (refused (refusal_told t.0) ∷ []))

unfoldable pub heard_in : List (MfcFed × List ℕ) → List Item
heard_in [] = []
heard_in (t ∷ ts) = heard t ++ heard_in ts

unfoldable pub NoneTold2 : List (MfcFed × List ℕ) → Type 0
NoneTold2 [] = Unit {0}
NoneTold2 (t ∷ ts) = (t.0.refusal ≡ 2 → ⊥) × NoneTold2 ts

-- what C has left of what a call handed in, by its answer: the bytes not taken, with the flag only where the call was refused
abbrev pub left_told : Call → MfcFed → List Event
left_told call f = marks (call.silence && refused_told f) ++ map byte (drop f.taken call.piece)

-- a series of C that hands in a stream, cut anywhere, each rest again until nothing is left, as `HandsIn` of the receiver's claim
unfoldable pub HandsOver : List ℕ → List Event → List Call → Type 0
HandsOver lent stream [] = stream ≡ []
HandsOver lent stream (call ∷ calls) =
    (rest : List Event) × (stream ≡ handed call ++ rest)
    × HandsOver (called lent call).1 (left_told call (called lent call).0 ++ rest) calls

-- what `mfc_receiver_fresh` leaves in lent bytes
abbrev pub begun : Kind → List ℕ → List ℕ
begun kind lent = (fresh_record (number_of_kind kind) lent).1

-- a record's bytes at the start of lent ones; those past them are as they were
abbrev pub laid_in : List ℕ → Record → List ℕ
laid_in lent r = bytes_of r ++ drop record_size lent

-- Demand 3, for C: every series of calls after `mfc_receiver_fresh` over any 268 lent bytes or more.
pub record SeriesOverBytes (kind : Kind) : Type 0 where
  -- the series begins with the fresh record
  pub fresh_record_lem : (lent : List ℕ) → record_size ≤ length lent → fresh_record (number_of_kind kind) lent ≡ (0, laid_in lent (fresh kind))
  -- each call's answer, the bytes it took and the lent frame afterwards are those that the stream says
  pub each-call : (lent : List ℕ) → record_size ≤ length lent → (calls : List Call)
      → answers (begun kind lent) calls ≡ map told (expected_from kind [] calls)
  -- "Refusal 2 never comes in a series."
  pub never_2 : (lent : List ℕ) → record_size ≤ length lent → (calls : List Call) → NoneTold2 (answers (begun kind lent) calls)
  -- what C is told of, refused calls left out, is the stream's list
  pub all_items : (lent : List ℕ) → record_size ≤ length lent → (calls : List Call)
      → heard_in (answers (begun kind lent) calls) ≡ items kind (stream_of kind calls)
  -- the record's bytes at the end are a function of the kind and the stream
  pub end_record : (lent : List ℕ) → record_size ≤ length lent → (calls : List Call)
      → bytes_after (begun kind lent) calls ≡ laid_in lent (record_of kind (stream_of kind calls))
  -- 02 (viii): the count that C is then told is "the stream's noise bytes, or that limit if they are more"
  pub noise-count : (lent : List ℕ) → record_size ≤ length lent → (calls : List Call)
      → noise_record (bytes_after (begun kind lent) calls) ≡ record { refusal = 0; count = min (noise (stream_of kind calls)) 4294967295 }
  -- two series with the same stream end in the same 268 bytes, whatever was lent for each
  pub one_record : (lent other : List ℕ) → record_size ≤ length lent → record_size ≤ length other → (calls others : List Call)
      → stream_of kind calls ≡ stream_of kind others
      → take record_size (bytes_after (begun kind lent) calls) ≡ take record_size (bytes_after (begun kind other) others)
  -- a stream cut anywhere, each rest handed in again, is taken whole, with calls refused for room in between: from the fresh record, and
  -- after any series of calls
  pub every_cut : (lent : List ℕ) → record_size ≤ length lent → (calls : List Call) (left : List Event) (more : List Call)
      → HandsOver (bytes_after (begun kind lent) calls) left more → stream_of kind (calls ++ more) ≡ stream_of kind calls ++ left
  -- what `every_cut` supposes can always be done: after any series of calls, whatever is left of a stream can be handed in to its end
  pub handed_in : (lent : List ℕ) → record_size ≤ length lent → (calls : List Call) (left : List Event)
      → (more : List Call) × HandsOver (bytes_after (begun kind lent) calls) left more
  -- a call that is lent 260 bytes and hands in a mark or a byte leaves less than that: a loop that hands in what is left comes to an end
  pub progress : (lent : List ℕ) → record_size ≤ length lent → (calls : List Call) (call : Call) → 1 ≤ length (handed call) → 260 ≤ length call.buffer
      → length (left_told call (called (bytes_after (begun kind lent) calls) call).0) < length (handed call)
