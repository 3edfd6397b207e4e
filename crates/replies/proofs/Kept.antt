-- A reply is kept by its data: written and read it is the same, and read and written the data are. Assumes nothing.
use mathlib.Core.Path.{◌≡◌, refl, sym, ap, subst, ◌∙◌}
use mathlib.Core.Bool.{Bool, true, false, cond, not, ◌||◌}
use mathlib.Core.List.{List, [], ◌∷◌, ◌++◌}
use mathlib.Core.Option.{Option, none, some}
use Prim.Native.Nat.{ℕ, ◌^◌, ◌≤◌, ◌<◌}
use native.Mathlib.Omega.{arith}
use lib.Dec.{T, eqb, ltb}
use lib.ListN.{length}
use lib.Ieee.{binary32, to_bits, of_bits}
use lib.Ieee.Bits.{of_bits-to_bits, to_bits-lt, to_bits-of_bits}
use borrow.Author.Tests.{eq-eqb, ne_eqb, eqb-true, eqb-false, ltb-false, ltb-true, not-false}
use Rattle.refusal.specs.Refusals.{served}
use Rattle.payload.specs.Field.{big, big_endian, Bytes}
use Rattle.payload.proofs.Big.{big_of_big_endian, big_lt, big_endian_of_big}
use Rattle.sfc6.specs.declared.Request.{Request}
use Rattle.sfc6.specs.declared.Answer.{Answer}
use Rattle.sfc6.specs.declared.Answer.TheVariants as answer
use Rattle.sfc6.specs.Commands.{row, finite, member}
use Rattle.sfc6.proofs.Floats.{nan_or_not}
use Rattle.sfc6.proofs.Rewritten.{not_nan}
use Rattle.replies.specs.declared.Reading.{Reading}
use Rattle.replies.specs.declared.Reading.TheVariants.{Finite, Invalid, PlusInfinity, MinusInfinity}
use Rattle.replies.specs.declared.Reply.{Reply}
use Rattle.replies.specs.declared.Reply.TheVariants.{Acknowledged, Setpoint, MeasuredValue, Gain, InitStep, RawFlow, RawConductivity, Temperature, NumberOfCalibrations, Validity, FullScale, Calibration, Address, Baud, ProductType, DeviceError}
use Rattle.replies.specs.declared.Content.TheVariants as content
use Rattle.replies.specs.Replies.{bits_of, reading_of, validity_of, validity_byte, reply_to, kind_of, content_of, not_finite, bad_float}
use Rattle.replies.specs.Writer.{bad_text, data_of, code_of}
use Rattle.replies.specs.Reader.{size_of, is_size, value, text, got_by}
use Rattle.replies.specs.ReadBack.{FitsReading, Fits, comes_back, over_one}
use Rattle.replies.proofs.Carried.{or_false}
use Rattle.replies.proofs.Text.{text_kept}
use Rattle.replies.proofs.Table.{content_from, reply_at, answer_at, tabled}

-- ---- readings
no_coding : (b k : ℕ) → finite b ≡ true → finite k ≡ false → b ≡ k → ⊥
no_coding b k f g e = subst T (sym f ∙ ap finite e ∙ g) tt

coding_back : (x : Reading) → FitsReading x → not_finite x ≡ false → reading_of (bits_of x) ≡ x
coding_back (Finite x) h g =
    let f = not-false (finite (to_bits binary32 x)) g in
    simp (
      ne_eqb _ _ (no_coding (to_bits binary32 x) 0xFFFFFFFF f refl),
      ne_eqb _ _ (no_coding (to_bits binary32 x) 0x7F800000 f refl),
      ne_eqb _ _ (no_coding (to_bits binary32 x) 0xFF800000 f refl),
    )
    (ap Finite (of_bits-to_bits binary32 x h))
coding_back Invalid h g = refl
coding_back PlusInfinity h g = refl
coding_back MinusInfinity h g = refl

bits_small : (x : Reading) → FitsReading x → bits_of x < 2 ^ 32
bits_small (Finite x) h = to_bits-lt binary32 x h
bits_small Invalid h = omega arith
bits_small PlusInfinity h = omega arith
bits_small MinusInfinity h = omega arith

reading_back : (x : Reading) → FitsReading x → not_finite x ≡ false → reading_of (big (big_endian 4 (bits_of x))) ≡ x
reading_back x h g = rw (big_of_big_endian 4 (bits_of x) (bits_small x h)) (coding_back x h g)

-- the other way: a pattern that is read comes back
pub pattern_back : (n : ℕ) → n < 2 ^ 32 → not_finite (reading_of n) ≡ false → bits_of (reading_of n) ≡ n
pattern_back n h = go (eqb n 0xFFFFFFFF) (eqb n 0x7F800000) (eqb n 0xFF800000) refl refl refl
  where
    go : (x y z : Bool) → eqb n 0xFFFFFFFF ≡ x → eqb n 0x7F800000 ≡ y → eqb n 0xFF800000 ≡ z
        → not_finite (cond x Invalid (cond y PlusInfinity (cond z MinusInfinity (Finite (of_bits binary32 n))))) ≡ false
        → bits_of (cond x Invalid (cond y PlusInfinity (cond z MinusInfinity (Finite (of_bits binary32 n))))) ≡ n
    go true y z p q r g = sym (eqb-true n 0xFFFFFFFF p)
    go false true z p q r g = sym (eqb-true n 0x7F800000 q)
    go false false true p q r g = sym (eqb-true n 0xFF800000 r)
    go false false false p q r g = to_bits-of_bits binary32 n h (not_nan (of_bits binary32 n) g)

flipped : (n k : ℕ) → eqb n k ≡ false → eqb k n ≡ false
flipped n k e = ne_eqb k n (λ h. eqb-false n k e (sym h))

or_nothing : (b : Bool) → (b || false) ≡ b
or_nothing true = refl
or_nothing false = refl

-- and it is refused just where it is neither finite nor one of the three codings: "other non-finite patterns are 13"
pub bad_pattern : (n : ℕ) → n < 2 ^ 32 → not_finite (reading_of n) ≡ not (finite n || member n (0xFFFFFFFF ∷ 0x7F800000 ∷ 0xFF800000 ∷ []))
bad_pattern n h = go (eqb n 0xFFFFFFFF) (eqb n 0x7F800000) (eqb n 0xFF800000) refl refl refl
  where
    go : (x y z : Bool) → eqb n 0xFFFFFFFF ≡ x → eqb n 0x7F800000 ≡ y → eqb n 0xFF800000 ≡ z
        → not_finite (reading_of n) ≡ not (finite n || member n (0xFFFFFFFF ∷ 0x7F800000 ∷ 0xFF800000 ∷ []))
    go true y z p q r = let e = eqb-true n 0xFFFFFFFF p in rw e refl
    go false true z p q r = let e = eqb-true n 0x7F800000 q in rw e refl
    go false false true p q r = let e = eqb-true n 0xFF800000 r in rw e refl
    go false false false p q r =
        simp (p, q, r, flipped n 0xFFFFFFFF p, flipped n 0x7F800000 q, flipped n 0xFF800000 r) (nan_or_not n h ∙ ap not (sym (or_nothing (finite n))))

-- ---- validities
validity_back : (v : Bool) → validity_of (big (big_endian 1 (validity_byte v))) ≡ v
validity_back true = rw (big_of_big_endian 1 1 (omega arith)) refl
validity_back false = rw (big_of_big_endian 1 0 (omega arith)) refl

-- the other way: a byte comes back where it is not over 1
validity_byte_back : (n : ℕ) → ltb 1 n ≡ false → validity_byte (validity_of n) ≡ n
validity_byte_back n h = go (eqb n 0) refl
  where
    go : (z : Bool) → eqb n 0 ≡ z → validity_byte (not z) ≡ n
    go true p = sym (eqb-true n 0 p)
    go false p = let l : n ≤ 1 = ltb-false 1 n h in let u : n ≡ 0 → ⊥ = eqb-false n 0 p in omega (arith, l, u)

-- ---- a reply that is written and read
-- what its data are read as
pub record Back (q : Request) (r : Reply) (words : List ℕ) : Type 0 where
  pub same : reply_to q (big (data_of (content_of r) words)) ≡ r
  pub size : is_size (size_of (row q).answer) (length (data_of (content_of r) words)) ≡ true
  pub got : served (got_by (size_of (row q).answer) q (data_of (content_of r) words)) ≡ comes_back r words (content_of r)

number_back : (q : Request) (r : Reply) (words : List ℕ) (k : ℕ) → kind_of (reply_to q 0) ≡ k → (width : ℕ) → size_of (answer_at k) ≡ some width
    → length (data_of (content_of r) words) ≡ width → reply_at k (big (data_of (content_of r) words)) ≡ r
    → comes_back r words (content_of r) ≡ served (value r) → Back q r words
number_back q r words k e width f g h i =
    let d = data_of (content_of r) words in
    let t = tabled q (big d) in
    let same : reply_to q (big d) ≡ r = t.reply ∙ ap (λ (j : ℕ). reply_at j (big d)) e ∙ h in
    let form : size_of (row q).answer ≡ some width = ap size_of (t.form ∙ ap answer_at e) ∙ f in
    record {
      same = same;
      size = ap (λ (s : Option ℕ). is_size s (length d)) form ∙ eq-eqb (length d) width g;
      got = ap (λ (s : Option ℕ). served (got_by s q d)) form ∙ ap (λ (x : Reply). served (value x)) same ∙ sym i;
    }

pub back : (q : Request) (r : Reply) (words : List ℕ) → Fits (content_of r) → bad_float (content_of r) ≡ false → bad_text (content_of r) words ≡ false
    → (kind_of r ≡ 15 → ⊥) → kind_of (reply_to q 0) ≡ kind_of r → Back q r words
unfolding big big_endian
back q Acknowledged words h f t n e = number_back q Acknowledged words 0 e 0 refl refl refl refl
back q (Setpoint x) words h f t n e = number_back q (Setpoint x) words 1 e 4 refl refl (ap Setpoint (reading_back x h f)) refl
back q (MeasuredValue x) words h f t n e = number_back q (MeasuredValue x) words 2 e 4 refl refl (ap MeasuredValue (reading_back x h f)) refl
back q (Gain x) words h f t n e = number_back q (Gain x) words 3 e 4 refl refl (ap Gain (reading_back x h f)) refl
back q (InitStep x) words h f t n e = number_back q (InitStep x) words 4 e 4 refl refl (ap InitStep (reading_back x h f)) refl
back q (RawFlow n) words h f t m e = number_back q (RawFlow n) words 5 e 2 refl refl (ap RawFlow (big_of_big_endian 2 n h)) refl
back q (RawConductivity n) words h f t m e = number_back q (RawConductivity n) words 6 e 2 refl refl (ap RawConductivity (big_of_big_endian 2 n h)) refl
back q (Temperature x) words h f t n e = number_back q (Temperature x) words 7 e 4 refl refl (ap Temperature (reading_back x h f)) refl
back q (NumberOfCalibrations n) words h f t m e = number_back q (NumberOfCalibrations n) words 8 e 4 refl refl (ap NumberOfCalibrations (big_of_big_endian 4 n h)) refl
back q (Validity v) words h f t m e = number_back q (Validity v) words 9 e 1 refl refl (ap Validity (validity_back v)) refl
back q (FullScale x) words h f t n e = number_back q (FullScale x) words 10 e 4 refl refl (ap FullScale (reading_back x h f)) refl
back q (Calibration n) words h f t m e = number_back q (Calibration n) words 11 e 4 refl refl (ap Calibration (big_of_big_endian 4 n h)) refl
back q (Address n) words h f t m e = number_back q (Address n) words 12 e 1 refl refl (ap Address (big_of_big_endian 1 n h)) refl
back q (Baud n) words h f t m e = number_back q (Baud n) words 13 e 4 refl refl (ap Baud (big_of_big_endian 4 n h)) refl
back q ProductType words h f t n e =
    let d = words ++ (0 ∷ []) in
    let b = tabled q (big d) in
    let form : size_of (row q).answer ≡ none = ap size_of (b.form ∙ ap answer_at e) in
    let kept = text_kept words (or_false (ltb 254 (length words)) (member 0 words) t).1 in
    record {
      same = b.reply ∙ ap (λ (j : ℕ). reply_at j (big d)) e;
      size = ap (λ (s : Option ℕ). is_size s (length d)) form;
      got = ap (λ (s : Option ℕ). served (got_by s q d)) form ∙ ap (λ (l : List ℕ). served (text 4 (length l))) kept;
    }
back q (DeviceError code) words h f t n e = absurd (n refl)

-- ---- data that are read and written
pub record Again (a : Answer) (payload words : List ℕ) : Type 0 where
  pub same : over_one (content_from a (big payload)) payload ≡ false → data_of (content_from a (big payload)) words ≡ payload
  pub free : bad_text (content_from a (big payload)) words ≡ false
  pub no_code : code_of (content_from a (big payload)) ≡ 0

pub empty : (l : List ℕ) → length l ≡ 0 → [] ≡ l
empty [] h = refl
empty (x ∷ l) h = absurd (omega arith)

-- the bytes of the number that they stand for
bytes-again : (payload : List ℕ) (width n : ℕ) → Bytes payload → length payload ≡ width → n ≡ big payload → big_endian width n ≡ payload
bytes-again payload width n b e f = rw (f, ← e) (big_endian_of_big payload b)

small : (payload : List ℕ) (width : ℕ) → Bytes payload → length payload ≡ width → big payload < 256 ^ width
small payload width b e = subst (λ (w : ℕ). big payload < 256 ^ w) e (big_lt payload b)

pub again : (a : Answer) (payload words : List ℕ) (width : ℕ) → Bytes payload → size_of a ≡ some width → length payload ≡ width
    → bad_float (content_from a (big payload)) ≡ false → Again a payload words
unfolding content_from
again answer.Nothing payload words width b s e f = let w : 0 ≡ width = cc in record { same = λ o. empty payload (omega arith); free = refl; no_code = refl }
again answer.Float payload words width b s e f =
    let w : 4 ≡ width = cc in
    let l : length payload ≡ 4 = omega arith in
    record { same = λ o. bytes-again payload 4 _ b l (pattern_back (big payload) (small payload 4 b l) f); free = refl; no_code = refl }
again answer.U16 payload words width b s e f =
    let w : 2 ≡ width = cc in
    record { same = λ o. bytes-again payload 2 _ b (omega arith) refl; free = refl; no_code = refl }
again answer.U32 payload words width b s e f =
    let w : 4 ≡ width = cc in
    record { same = λ o. bytes-again payload 4 _ b (omega arith) refl; free = refl; no_code = refl }
again answer.Validity payload words width b s e f =
    let w : 1 ≡ width = cc in
    record { same = λ o. bytes-again payload 1 _ b (omega arith) (validity_byte_back (big payload) o); free = refl; no_code = refl }
again answer.Address payload words width b s e f =
    let w : 1 ≡ width = cc in
    record { same = λ o. bytes-again payload 1 _ b (omega arith) refl; free = refl; no_code = refl }
again answer.Baud payload words width b s e f =
    let w : 4 ≡ width = cc in
    record { same = λ o. bytes-again payload 4 _ b (omega arith) refl; free = refl; no_code = refl }
again answer.Text payload words width b s e f = absurd (let z : ◌≡◌ {A = ℕ} 0 1 = cc in omega arith)

-- a byte over 1 is that of a validity, and is yes
pub over-one_yes : (a : Answer) (payload : List ℕ) → over_one (content_from a (big payload)) payload ≡ true
    → (content_from a (big payload) ≡ content.Validity true) × (1 < big payload)
unfolding content_from
over-one_yes answer.Nothing payload h = absurd (subst T (sym h) tt)
over-one_yes answer.Float payload h = absurd (subst T (sym h) tt)
over-one_yes answer.U16 payload h = absurd (subst T (sym h) tt)
over-one_yes answer.U32 payload h = absurd (subst T (sym h) tt)
over-one_yes answer.Validity payload h =
    let l : 1 < big payload = ltb-true 1 (big payload) h in
    (simp (ne_eqb (big payload) 0 (λ e. omega (arith, e, l))), l)
over-one_yes answer.Address payload h = absurd (subst T (sym h) tt)
over-one_yes answer.Baud payload h = absurd (subst T (sym h) tt)
over-one_yes answer.Text payload h = absurd (subst T (sym h) tt)
