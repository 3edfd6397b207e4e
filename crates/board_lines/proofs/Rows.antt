-- The lines of entries, one more, and the entries that are due. Assumes nothing.
use Prim.Native.Nat.{ℕ, suc, ◌+◌, ◌<◌}
use native.Mathlib.Omega.{arith}
use mathlib.Core.Path.{◌≡◌, refl, sym, ap, ◌∙◌}
use mathlib.Core.Bool.{Bool, true, false, cond}
use mathlib.Core.List.{List, [], ◌∷◌, ◌++◌, append-nil, append_assoc}
use lib.ListN.{length, get_or, take}
use borrow.Author.Tests.{ne_eqb}
use Rattle.std.specs.Prelude.{count_by, filter}
use Rattle.std.proofs.lemmas.List.Sums.{length-filter, count_by-le-length}
use Rattle.refusal.specs.declared.Refusal.{Refusal}
use Rattle.refusal.specs.declared.Refusal.TheVariants.{NoRoom, BadRecord, BadEscape, BareControl, BodyTooLong, BodyTooShort, WrongLength, WrongChecksum, CutBySilence, AddressBroadcast, UnknownCommand, OutOfRange, BadFloat, ForeignReply, DeviceError, BadWordCount, WrongCrc, BadScale, BoardFull, BadTotal, BadTrailer, BadKind, WrongCount}
use Rattle.refusal.specs.Refusals.{number_of}
use Rattle.std.proofs.lemmas.List.{take_more}
use Rattle.board.specs.declared.entries.Entry.{Entry}
use Rattle.board.specs.Entries.{free, count}
use Rattle.board_lines.specs.Text.{entry_line, entry_lines, board_lines, refused_line, board_text}

lines-append : (xs ys : List Entry) → entry_lines (xs ++ ys) ≡ entry_lines xs ++ entry_lines ys
unfolding entry_lines
lines-append [] ys = refl
lines-append (e ∷ xs) ys = ap (λ (l : List ℕ). entry_line e ++ l) (lines-append xs ys) ∙ sym (append_assoc (entry_line e) (entry_lines xs) (entry_lines ys))

pub lines_more : (xs : List Entry) (i : ℕ) → i < length xs → entry_lines (take (i + 1) xs) ≡ entry_lines (take i xs) ++ entry_line (get_or xs i free)
unfolding entry_lines
lines_more xs i h = ap entry_lines (take_more xs i free h) ∙ lines-append (take i xs) (get_or xs i free ∷ []) ∙ ap (λ (l : List ℕ). entry_lines (take i xs) ++ l) (append-nil (entry_line (get_or xs i free)))

-- a list's text, and that of a refusal, whose number is not 0
pub of_list : (entries : List Entry) → board_lines entries ≡ board_text 0 entries
unfolding board_text
of_list entries = refl

pub of_refusal : (why : Refusal) → refused_line (number_of why) ≡ board_text (number_of why) []
unfolding board_text
of_refusal why = rw (ne_eqb (number_of why) 0 (not_0 why))
  where
    not_0 : (r : Refusal) → number_of r ≡ 0 → ⊥
    not_0 NoRoom h = omega (arith, h)
    not_0 BadRecord h = omega (arith, h)
    not_0 (BadEscape place) h = omega (arith, h)
    not_0 (BareControl place) h = omega (arith, h)
    not_0 BodyTooLong h = omega (arith, h)
    not_0 BodyTooShort h = omega (arith, h)
    not_0 WrongLength h = omega (arith, h)
    not_0 WrongChecksum h = omega (arith, h)
    not_0 CutBySilence h = omega (arith, h)
    not_0 AddressBroadcast h = omega (arith, h)
    not_0 UnknownCommand h = omega (arith, h)
    not_0 OutOfRange h = omega (arith, h)
    not_0 BadFloat h = omega (arith, h)
    not_0 ForeignReply h = omega (arith, h)
    not_0 (DeviceError code) h = omega (arith, h)
    not_0 BadWordCount h = omega (arith, h)
    not_0 (WrongCrc index) h = omega (arith, h)
    not_0 BadScale h = omega (arith, h)
    not_0 BoardFull h = omega (arith, h)
    not_0 BadTotal h = omega (arith, h)
    not_0 BadTrailer h = omega (arith, h)
    not_0 BadKind h = omega (arith, h)
    not_0 WrongCount h = omega (arith, h)

pub ruleset texts = (of_list, of_refusal)

-- the entries that are due
counted : (f : Entry → Bool) (xs : List Entry) → count f xs ≡ length (filter f xs)
unfolding count
counted f [] = refl
counted f (e ∷ xs) = go (f e) refl (counted f xs)
  where
    go : (b : Bool) → f e ≡ b → count f xs ≡ length (filter f xs) → cond {A = ℕ} b (suc (count f xs)) (count f xs) ≡ length (filter f (e ∷ xs))
    go true u r = rw u (ap suc r)
    go false u r = rw u r

pub count_is : (f : Entry → Bool) (xs : List Entry) → count_by f xs ≡ count f xs
count_is f xs = sym (length-filter f xs) ∙ sym (counted f xs)

pub ruleset due = (count_is, count_by-le-length)
