-- The refusals of document 01 in its own words: a number of its table and, with 3, 4, 15 and 17, the value that the number carries.
-- Every answer of every crate is stated through `paper`. The law `paper-one_to_one` of proofs/ says that nothing is lost by it.
use Rattle.std.specs.Prelude.{ℕ, Bool, cond, ◌||◌, eqb, List, [], ◌∷◌, Result, Ok, Err}
use Rattle.refusal.specs.declared.Refusal.{Refusal}
use Rattle.refusal.specs.declared.Refusal.TheVariants.{NoRoom, BadRecord, BadEscape, BareControl, BodyTooLong, BodyTooShort, WrongLength, WrongChecksum, CutBySilence, AddressBroadcast, UnknownCommand, OutOfRange, BadFloat, ForeignReply, DeviceError, BadWordCount, WrongCrc, BadScale, BoardFull, BadTotal, BadTrailer, BadKind, WrongCount}

infix 30 ◌carrying◌
-- 01, Refusal numbers: `number 5`, or `17 carrying 3`; 02 (vii): `4 carrying 0`
pub data Numbered : Type 0 where
  number : ℕ → Numbered
  ◌carrying◌ : ℕ → ℕ → Numbered

-- 01, Refusal numbers: the table, a row for each case of the enum
abbrev pub paper : Refusal → Numbered
paper NoRoom = number 1
paper BadRecord = number 2
paper (BadEscape place) = 3 carrying place
paper (BareControl place) = 4 carrying place
paper BodyTooLong = number 5
paper BodyTooShort = number 6
paper WrongLength = number 7
paper WrongChecksum = number 8
paper CutBySilence = number 9
paper AddressBroadcast = number 10
paper UnknownCommand = number 11
paper OutOfRange = number 12
paper BadFloat = number 13
paper ForeignReply = number 14
paper (DeviceError code) = 15 carrying code
paper BadWordCount = number 16
paper (WrongCrc index) = 17 carrying index
paper BadScale = number 18
paper BoardFull = number 19
paper BadTotal = number 20
paper BadTrailer = number 21
paper BadKind = number 22
paper WrongCount = number 23

-- the number alone
abbrev pub number_in : Numbered → ℕ
number_in (number n) = n
number_in (n carrying value) = n

abbrev pub number_of : Refusal → ℕ
number_of r = number_in (paper r)

-- 02 (vii): the refusals that carry a place in the stretch, and the place; 0 where there is none
abbrev pub is_placed : ℕ → Bool
is_placed n = eqb n 3 || eqb n 4

abbrev pub place_by : Numbered → ℕ
place_by (number n) = 0
place_by (n carrying value) = cond {A = ℕ} (is_placed n) value 0

abbrev pub place_of : Refusal → ℕ
place_of r = place_by (paper r)

-- What an entry point answers, in 01's words: it serves, with a value, or it refuses.
pub data Answered (A : Type 0) : Type 0 where
  served : A → Answered A
  refused : Numbered → Answered A

-- the answer of a function of the code in 01's words, with what it serves put in the words of its document
abbrev pub answered_as : {A B : Type 0} → (A → B) → Result A Refusal → Answered B
answered_as says (Ok a) = served (says a)
answered_as says (Err r) = refused (paper r)

abbrev pub answered : {A : Type 0} → Result A Refusal → Answered A
answered result = answered_as (λ a. a) result

-- 01, Refusal numbers, "Order": the first number whose condition holds, else served
abbrev pub in_order : {A : Type 0} → List (Bool × Numbered) → A → Answered A
in_order [] a = served a
in_order (check ∷ checks) a = cond check.0 (refused check.1) (in_order checks a)
