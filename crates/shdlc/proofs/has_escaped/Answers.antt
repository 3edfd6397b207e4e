use Rattle.std.proofs.Common.{◌≡◌, ◌+◌, ◌≤◌, ◌||◌, ℕ, Bool, true, false, not, cond, eqb, ltb, length, drop, get_or, bit_or, refl, arith, sym, ap, ◌∙◌}
use borrow.Author.Tests.{lt-ltb, le-ltb, ltb-true, ltb-false}
use mir.Val.{bool_byte}
use Rattle.shdlc.specs.Stuffing.{stuff}
use Rattle.refusal.proofs.Rest.{rest_end}
use Rattle.shdlc.proofs.Stuffing.{byte_size, byte_short, length_here}
use Rattle.shdlc.proofs.has_escaped.Goals as goal

-- a bool as a number, and back
abbrev flag : Bool → ℕ
flag t = cond {A = ℕ} t 1 0

from_bool : (t : Bool) → bool_byte t ≡ flag t
from_bool true = refl
from_bool false = refl

or-flags : (a b : Bool) → bit_or (flag a) (flag b) ≡ flag (a || b)
or-flags true true = refl
or-flags true false = refl
or-flags false true = refl
or-flags false false = refl

flag_told : (t : Bool) → not (eqb (flag t) 0) ≡ t
flag_told true = refl
flag_told false = refl

-- one more byte, which takes two bytes where it is sent after a 7D
found_more : (found escaped : Bool) (i rest size whole : ℕ) → found ≡ ltb (i + (size + rest)) whole → size ≡ cond {A = ℕ} escaped 2 1
    → i + (size + rest) ≤ whole → (found || escaped) ≡ ltb (i + 1 + rest) whole
found_more true true i rest size whole e is h = sym (lt-ltb (i + 1 + rest) whole (omega arith))
found_more true false i rest size whole e is h =
    let l = ltb-true (i + (size + rest)) whole (sym e) in sym (lt-ltb (i + 1 + rest) whole (omega arith))
found_more false true i rest size whole e is h = sym (lt-ltb (i + 1 + rest) whole (omega arith))
found_more false false i rest size whole e is h =
    let l = ltb-false (i + (size + rest)) whole (sym e) in sym (le-ltb (i + 1 + rest) whole (omega arith))

pub loop-b-preserved : goal.loop-b-preserved
loop-b-preserved c =
    let l = c.args.bytes.now in
    let i = c.loop-b.b-index in
    let here = length_here l i c.loop-b-test.true in
    let escaped = c.is_escaped.result in
    let size = byte_size (get_or l i 0) escaped c.is_escaped.ensures in
    let more = byte_short (get_or l i 0) in
    let found = rw here at c.loop-b.invariant.1 in
    let both : bit_or c.loop-b.found (flag escaped) ≡ flag (ltb (i + 1 + length (stuff (drop (i + 1) l))) (length (stuff l))) =
    ap (λ (n : ℕ). bit_or n (flag escaped)) found ∙ or-flags _ escaped ∙ ap flag (found_more _ escaped i _ _ _ refl size (omega arith)) in
    (omega arith, ap (bit_or c.loop-b.found) (c.from-found.ensures ∙ from_bool escaped) ∙ both)

pub returns : goal.returns
unfolding stuff
returns c =
    let end : c.loop-b.b-index + 0 ≡ length c.args.bytes.now = omega arith in
    let inv = rw (rest_end _ _ c.loop-b-test.false) at c.loop-b.invariant.1 in
    ap (λ (n : ℕ). not (eqb n 0)) inv ∙ flag_told _ ∙ ap (λ (n : ℕ). ltb n (length (stuff c.args.bytes.now))) end
