-- `paper` is one-to-one: a refusal can be told from its number and what the number carries. Assumes nothing.
use Prim.Native.Nat.{ℕ, pred}
use mathlib.Core.Path.{◌≡◌, refl, sym, ap, ◌∙◌}
use mathlib.Core.List.{List, [], ◌∷◌}
use mathlib.Core.Bool.{cond}
use lib.Dec.{eqb}
use Rattle.refusal.specs.declared.Refusal.{Refusal}
use Rattle.refusal.specs.declared.Refusal.TheVariants.{NoRoom, BadRecord, BadEscape, BareControl, BodyTooLong, BodyTooShort, WrongLength, WrongChecksum, CutBySilence, AddressBroadcast, UnknownCommand, OutOfRange, BadFloat, ForeignReply, DeviceError, BadWordCount, WrongCrc, BadScale, BoardFull, BadTotal, BadTrailer, BadKind, WrongCount}
use Rattle.std.specs.Prelude.{Result, Ok, Err}
use Rattle.refusal.specs.Refusals.{Numbered, number, ◌carrying◌, paper, Answered, refused, answered}

-- the refusal of the number at the list's place; the last of the list past its end
nth : List Refusal → ℕ → Refusal
nth [] n = WrongCount
nth (r ∷ rs) n = cond (eqb n 0) r (nth rs (pred n))

plain : List Refusal
plain =
    NoRoom
    ∷ BadRecord
    ∷ BadEscape 0
    ∷ BareControl 0
    ∷ BodyTooLong
    ∷ BodyTooShort
    ∷ WrongLength
    ∷ WrongChecksum
    ∷ CutBySilence
    ∷ AddressBroadcast
    ∷ UnknownCommand
    ∷ OutOfRange
    ∷ BadFloat
    ∷ ForeignReply
    ∷ DeviceError 0
    ∷ BadWordCount
    ∷ WrongCrc 0
    ∷ BadScale
    ∷ BoardFull
    ∷ BadTotal
    ∷ BadTrailer
    ∷ BadKind
    ∷ WrongCount
    ∷ []

back : Numbered → Refusal
back (number n) = nth plain (pred n)
back (n carrying value) =
    cond (eqb n 3) (BadEscape value) (cond (eqb n 4) (BareControl value) (cond (eqb n 15) (DeviceError value) (WrongCrc value)))

back-paper : (r : Refusal) → back (paper r) ≡ r
unfolding nth plain back
back-paper NoRoom = refl
back-paper BadRecord = refl
back-paper (BadEscape value) = refl
back-paper (BareControl value) = refl
back-paper BodyTooLong = refl
back-paper BodyTooShort = refl
back-paper WrongLength = refl
back-paper WrongChecksum = refl
back-paper CutBySilence = refl
back-paper AddressBroadcast = refl
back-paper UnknownCommand = refl
back-paper OutOfRange = refl
back-paper BadFloat = refl
back-paper ForeignReply = refl
back-paper (DeviceError value) = refl
back-paper BadWordCount = refl
back-paper (WrongCrc value) = refl
back-paper BadScale = refl
back-paper BoardFull = refl
back-paper BadTotal = refl
back-paper BadTrailer = refl
back-paper BadKind = refl
back-paper WrongCount = refl

pub paper-one_to_one : (r s : Refusal) → paper r ≡ paper s → r ≡ s
paper-one_to_one r s e = sym (back-paper r) ∙ ap back e ∙ back-paper s

-- the same inside an answer
pub refused_one_to_one : {A : Type 0} (r s : Refusal) → ◌≡◌ {A = Answered A} (refused (paper r)) (refused (paper s)) → r ≡ s
refused_one_to_one r s e = paper-one_to_one r s (let z : paper r ≡ paper s = cc in z)

-- an answer of the code can be told from the document's words: nothing is lost by `answered`
pub answered-one_to_one : {A : Type 0} (a b : Result A Refusal) → answered a ≡ answered b → a ≡ b
answered-one_to_one (Ok m) (Ok n) e = cc
answered-one_to_one (Ok m) (Err s) e = cc
answered-one_to_one (Err r) (Ok n) e = cc
answered-one_to_one (Err r) (Err s) e = ap Err (refused_one_to_one r s e)
