-- 01, What a stream means, demand 3, as 02 (ix) changes it: one claim over every series of calls with one receiver. To be believed is what a
-- series is and what it must give, up to `expected_from`; what follows is what the calls do give, and the claim.
use Rattle.std.specs.Prelude.{ℕ, ◌≤◌, ◌<◌, min, ◌≡◌, Bool, true, false, cond, ◌&&◌, ◌||◌, List, [], ◌∷◌, ◌++◌, map, ltb, eqb, length, take, drop}
use Rattle.refusal.specs.Refusals.{Numbered, number, ◌carrying◌, served, refused}
use Rattle.shdlc.specs.declared.Kind.{Kind}
use Rattle.shdlc.specs.Stream.{Event, byte, mark, Item, items, noise}
use Rattle.receiver.specs.Record.{Record, in_range, fresh, record_of}
use Rattle.receiver.specs.Calls.{Said, nothing, gave, Result, Outcome, said_of, buffer_of, feed_of}

-- A series is calls "with one receiver"; 02 (ix): "a call says whether silence came before its piece". Each lends a frame buffer.
pub record Call : Type 0 where
  pub silence : Bool
  pub piece : List ℕ
  pub buffer : List ℕ

-- whether a stream gains an item by more events
unfoldable pub gains : Kind → List Event → List Event → Bool
gains kind stream more = ltb (length (items kind stream)) (length (items kind (stream ++ more)))

-- "its piece up to and including the first byte at which the stream gains an item, else the whole piece"
unfoldable pub up_to : Kind → List Event → List ℕ → List ℕ
up_to kind stream [] = []
up_to kind stream (b ∷ piece) = b ∷ cond (gains kind stream (byte b ∷ [])) [] (up_to kind (stream ++ (byte b ∷ [])) piece)

-- 02 (ix): "In demand 3 a mark is a set flag"
abbrev pub marks : Bool → List Event
marks true = mark ∷ []
marks false = []

-- "a call not refused with 1 or 2 adds its mark to the stream first, then its bytes, none where the mark gave 9"
unfoldable pub bytes_added : Kind → List Event → Bool → List ℕ → List ℕ
bytes_added kind stream true piece = cond (gains kind stream (mark ∷ [])) [] (up_to kind (stream ++ (mark ∷ [])) piece)
bytes_added kind stream false piece = up_to kind stream piece

abbrev pub events_added : Kind → List Event → Bool → List ℕ → List Event
events_added kind stream silence piece = marks silence ++ map byte (bytes_added kind stream silence piece)

-- what a call adds to the stream: one that is lent under 260 bytes is "refused with 1 and adds nothing"
unfoldable pub added : Kind → List Event → Call → List Event
added kind stream call = cond (ltb (length call.buffer) 260) [] (events_added kind stream call.silence call.piece)

unfoldable pub stream_from : Kind → List Event → List Call → List Event
stream_from kind stream [] = stream
stream_from kind stream (call ∷ calls) = stream_from kind (stream ++ added kind stream call) calls

-- the stream of a series: "begins empty and follows from the calls' pieces, room and marks alone"
abbrev pub stream_of : Kind → List Call → List Event
stream_of kind calls = stream_from kind [] calls

-- the items that a stream gains by more events
unfoldable pub gained : Kind → List Event → List Event → List Item
gained kind stream more = drop (length (items kind stream)) (items kind (stream ++ more))

-- what a call that gains such items must give: the item, or nothing, and "a frame's body stands at the buffer's start, and all else
-- lent is untouched"
abbrev pub giving : List Item → ℕ → List ℕ → Result
giving [] taken buffer = record { said = nothing; taken = taken; buffer = buffer }
giving (item ∷ items) taken buffer = record { said = said_of item; taken = taken; buffer = buffer_of item buffer }

unfoldable pub expected : Kind → List Event → Call → Result
expected kind stream call =
    cond (ltb (length call.buffer) 260)
    (record { said = gave (refused (number 1)); taken = 0; buffer = call.buffer })
    (giving (gained kind stream (events_added kind stream call.silence call.piece)) (length (bytes_added kind stream call.silence call.piece)) call.buffer)

unfoldable pub expected_from : Kind → List Event → List Call → List Result
expected_from kind stream [] = []
expected_from kind stream (call ∷ calls) = expected kind stream call ∷ expected_from kind (stream ++ added kind stream call) calls

-- what a call does give, by the contract of `feed`
abbrev pub outcome : Record → Call → Outcome
outcome r call = feed_of r call.silence call.piece call.buffer

unfoldable pub results : Record → List Call → List Result
results r [] = []
results r (call ∷ calls) = (outcome r call).result ∷ results (outcome r call).leaves calls

unfoldable pub record_after : Record → List Call → Record
record_after r [] = r
record_after r (call ∷ calls) = record_after (outcome r call).leaves calls

-- the numbers that refuse a call, and are no item
abbrev pub refuses_call : Numbered → Bool
refuses_call (number n) = eqb n 1 || eqb n 2
refuses_call (n carrying value) = false

-- the items that the answers report
abbrev pub reported : Said → List ℕ → List Item
reported nothing buffer = []
reported (gave (served n)) buffer = served (take n buffer) ∷ []
reported (gave (refused n)) buffer = cond (refuses_call n) [] (refused n ∷ [])

unfoldable pub reports : List Result → List Item
reports [] = []
reports (result ∷ results) = reported result.said result.buffer ++ reports results

unfoldable pub NoneRefused2 : List Result → Type 0
NoneRefused2 [] = Unit {0}
NoneRefused2 (result ∷ results) = (result.said ≡ gave (refused (number 2)) → ⊥) × NoneRefused2 results

-- whether a call was refused with 1 or 2
abbrev pub turned_away : Said → Bool
turned_away nothing = false
turned_away (gave (served n)) = false
turned_away (gave (refused n)) = refuses_call n

-- what a call hands in of a stream: a mark or none, and then some bytes
abbrev pub handed : Call → List Event
handed call = marks call.silence ++ map byte call.piece

-- what it leaves of that. 02 (ix): "the rest of a call not refused with 1 or 2 is handed in without it. A refused call (1 or 2) has not dealt
-- with the mark and adds none; its rest carries the flag as before, and an empty rest with the flag still counts as left."
abbrev pub left_by : Call → Result → List Event
left_by call result = marks (call.silence && turned_away result.said) ++ map byte (drop result.taken call.piece)

-- a series that hands in a stream, cut anywhere: each call hands in what is next, so that "A cut piece carries the flag on its first part
-- only"; what a call leaves stands before the rest; in the end nothing is left
unfoldable pub HandsIn : Record → List Event → List Call → Type 0
HandsIn r stream [] = stream ≡ []
HandsIn r stream (call ∷ calls) =
    (rest : List Event) × (stream ≡ handed call ++ rest)
    × HandsIn (outcome r call).leaves (left_by call (outcome r call).result ++ rest) calls

-- Demand 3, for a receiver of a kind, over every series of calls from its fresh record.
pub record Demand3 (kind : Kind) : Type 0 where
  -- each call's answer, the bytes it took and the lent buffer afterwards are those that the stream says
  pub each-call : (calls : List Call) → results (fresh kind) calls ≡ expected_from kind [] calls
  -- "Refusal 2 never comes in a series."
  pub never_2 : (calls : List Call) → NoneRefused2 (results (fresh kind) calls)
  -- the answers, those of refused calls left out, are the stream's list
  pub all_items : (calls : List Call) → reports (results (fresh kind) calls) ≡ items kind (stream_of kind calls)
  -- the record at the end is a function of the stream
  pub end_record : (calls : List Call) → record_after (fresh kind) calls ≡ record_of kind (stream_of kind calls)
  -- 02 (viii), "the one end record of demand 3 now includes this count: the stream's noise bytes, or that limit if they are more"
  pub noise-count : (calls : List Call) → (record_after (fresh kind) calls).noise ≡ min (noise (stream_of kind calls)) 4294967295
  -- two series with the same stream end in one and the same record
  pub one_record : (calls others : List Call) → stream_of kind calls ≡ stream_of kind others
      → record_after (fresh kind) calls ≡ record_after (fresh kind) others
  -- "the ranges admit every record that a stream leaves from the fresh one"
  pub in_ranges : (stream : List Event) → in_range (record_of kind stream) ≡ true
  -- a stream cut anywhere, each rest handed in again, is taken whole, with calls refused for room in between: from the fresh record, and
  -- after any series of calls
  pub every_cut : (calls : List Call) (left : List Event) (more : List Call) → HandsIn (record_after (fresh kind) calls) left more
      → stream_of kind (calls ++ more) ≡ stream_of kind calls ++ left
  -- what `every_cut` supposes can always be done: after any series of calls, whatever is left of a stream can be handed in to its end;
  -- with no calls before, so can every stream
  pub handed_in : (calls : List Call) (left : List Event) → (more : List Call) × HandsIn (record_after (fresh kind) calls) left more
  -- "A refused call (1 or 2) has not dealt with the mark and adds none", whatever the record: all that it handed in is left, and the record
  -- is as it was
  pub refused_call_lem : (r : Record) (call : Call) (n : ℕ) → (eqb n 1 || eqb n 2) ≡ true → (outcome r call).result.said ≡ gave (refused (number n))
      → (left_by call (outcome r call).result ≡ handed call) × ((outcome r call).leaves ≡ r)
  -- a call that is lent 260 bytes and hands in a mark or a byte leaves less than that, so that handing in again comes to an end
  pub progress : (calls : List Call) (call : Call) → 1 ≤ length (handed call) → 260 ≤ length call.buffer
      → length (left_by call (outcome (record_after (fresh kind) calls) call).result) < length (handed call)
