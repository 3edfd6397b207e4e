-- What a reply carries, where it is known not to be of one form. Assumes nothing.
use mathlib.Core.Path.{◌≡◌, refl, subst}
use mathlib.Core.Bool.{Bool, true, false, ◌||◌}
use mathlib.Core.List.{List, [], ◌++◌}
use Rattle.std.specs.List.{fold}
use Prim.Native.Nat.{ℕ, ◌+◌, min, ◌≤◌}
use native.Mathlib.Omega.{arith}
use lib.Dec.{T, eqb, ltb}
use lib.ListN.{length, take}
use lib.Seq.{take-append_seam}
use borrow.Author.Tests.{ltb-false, le-ltb}
use Rattle.std.specs.Prelude.{Result, Ok, Err}
use Rattle.refusal.specs.declared.Refusal.{Refusal}
use Rattle.refusal.specs.Refusals.{served, answered_as}
use Rattle.refusal.proofs.Order.{refused_not_served}
use Rattle.refusal.specs.Room.{overlay}
use Rattle.payload.specs.Field.{big_endian, bytes_in}
use Rattle.payload.specs.declared.fields.Width.{Width}
use Rattle.payload.specs.declared.fields.Width.TheVariants.{One, Two, Four}
use Rattle.payload.proofs.Big.{length-big_endian}
use Rattle.replies.specs.declared.Content.{Content}
use Rattle.replies.specs.declared.Content.TheVariants.{Nothing, Float, U16, U32, Validity, Address, Baud, Text, Error}
use Rattle.replies.specs.Replies.{out_of_range}
use Rattle.replies.specs.Writer.{bad_text, data_of, code_of}
use Rattle.replies.proofs.Text.{smallest_zero}

-- beside anything else a text is not looked at
pub no_text : (c : Content) (text : List ℕ) → (c ≡ Text → ⊥) → data_of c [] ≡ data_of c text
no_text Nothing text h = refl
no_text (Float x) text h = refl
no_text (U16 n) text h = refl
no_text (U32 n) text h = refl
no_text (Validity v) text h = refl
no_text (Address a) text h = refl
no_text (Baud rate) text h = refl
no_text Text text h = absurd (h refl)
no_text (Error code) text h = refl

pub or_false : (a b : Bool) → (a || b) ≡ false → (a ≡ false) × (b ≡ false)
or_false true b h = absurd (subst T h tt)
or_false false b h = (refl, h)

-- an error code in its range
pub code_fits : (c : Content) → out_of_range c ≡ false → code_of c ≤ 127
code_fits Nothing h = omega arith
code_fits (Float x) h = omega arith
code_fits (U16 n) h = omega arith
code_fits (U32 n) h = omega arith
code_fits (Validity v) h = omega arith
code_fits (Address a) h = omega arith
code_fits (Baud rate) h = omega arith
code_fits Text h = omega arith
code_fits (Error code) h = ltb-false _ _ (or_false (eqb code 0) (ltb 127 code) h).1

-- a text that is not too long is refused where it holds a 00
pub text_held : (c : Content) (text : List ℕ) → c ≡ Text → {n : ℕ} → length text ≤ 254 → n ≡ fold min 255 text → eqb n 0 ≡ bad_text c text
text_held c text is h e = rw (is, e) (simp (le-ltb _ _ h) (smallest_zero text))

-- a product type has its text before the other data
pub text_data : (c : Content) (text : List ℕ) {last : List ℕ} → c ≡ Text → last ≡ data_of c [] → text ++ last ≡ data_of c text
text_data c text is e = rw (e, is)

-- an answer that serves is a value
pub served_ok : {A : Type 0} (says : A → ℕ) (r : Result A Refusal) (m : ℕ) → answered_as says r ≡ served m → (x : A) × (r ≡ Ok x) × (says x ≡ m)
served_ok says (Ok x) m e = (x, refl, cc)
served_ok says (Err why) m e = absurd (refused_not_served e)

-- a number, and data of known form, at the start of the room
pub width_there : (width : Width) (room : ℕ) → 4 ≤ room → 0 + bytes_in width ≤ room
width_there One room h = omega arith
width_there Two room h = omega arith
width_there Four room h = omega arith

pub number_put : (width : Width) (n next : ℕ) (out w : List ℕ) → (next ≡ 0 + bytes_in width) × (w ≡ overlay out 0 (big_endian (bytes_in width) n))
    → (next ≤ 4) × (take next w ≡ big_endian (bytes_in width) n)
unfolding overlay
number_put width n next out w e =
    let l = length-big_endian (bytes_in width) n in
    let k : next ≡ length (big_endian (bytes_in width) n) = omega arith in
    (omega (arith, width_there width 4 (omega arith)), rw (k, e.1) (take-append_seam (big_endian (bytes_in width) n) _))
