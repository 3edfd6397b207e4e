-- Fields at a place: the cases of reading one and of writing one, and that what is written is read back. Assumes nothing.
use mathlib.Core.Path.{◌≡◌, sym, ap, ◌∙◌}
use mathlib.Core.List.{List, ◌++◌}
use Prim.Native.Nat.{ℕ, ◌+◌, ◌-◌, ◌^◌, ◌≤◌, ◌<◌}
use native.Mathlib.Omega.{arith}
use borrow.Author.Tests.{lt-ltb, le-ltb, lt-leb}
use lib.ListN.{length, take, drop, length-append, length-drop}
use lib.Seq.{take_at, take_all, drop_at, length-take-le}
use Rattle.refusal.specs.declared.Refusal.{Refusal}
use Rattle.std.specs.Prelude.{slice_range, Option, Some, None, Result, Ok, MatchOption}
use Rattle.std.specs.Option.{ok_or}
use Rattle.refusal.specs.declared.Refusal.TheVariants.{OutOfRange}
use Rattle.refusal.specs.Refusals.{number, Answered, served, refused, answered, answered_as}
use Rattle.refusal.specs.Room.{overlay}
use Rattle.payload.specs.declared.fields.Width.{Width}
use Rattle.payload.specs.declared.fields.Width.TheVariants.{One, Two, Four}
use Rattle.payload.specs.Field.{big, big_endian, bytes_in, taken_at, put_at}
use Rattle.payload.proofs.Big.{length-big_endian, big_of_big_endian}

pub width_pos : (width : Width) → 0 < bytes_in width
width_pos One = omega arith
width_pos Two = omega arith
width_pos Four = omega arith

-- what the library's `payload.get(place..)` answers
pub rest_is : (payload : List ℕ) (place : ℕ) {l : List ℕ} → l ≡ slice_range payload place (length payload) → l ≡ drop place payload
rest_is payload place e = e ∙ take_all (length payload - place) (drop place payload) (omega (arith, length-drop place payload))

module _ (payload : List ℕ) (place width : ℕ) where
  pub taken_refused : length payload < place + width → taken_at payload place width ≡ (refused (number 12), place)
  unfolding taken_at
  taken_refused h = rw (lt-ltb _ _ h)

  pub taken_served : place + width ≤ length payload
      → taken_at payload place width ≡ (served (big (take width (drop place payload))), place + width)
  unfolding taken_at
  taken_served h = rw (le-ltb _ _ h)

  -- the number that bytes from the place on begin with, or 12 where there is none
  pub taken_as : {A : Type 0} (says : A → ℕ) {l : List ℕ} (found : Option A) → l ≡ drop place payload → place ≤ length payload
      → MatchOption found (length l < width) (λ n. (width ≤ length l) × (says n ≡ big (take width l)))
      → answered_as says (ok_or found OutOfRange) ≡ (taken_at payload place width).0
  taken_as says (Some n) e within is =
      ap served (is.1 ∙ ap (λ (m : List ℕ). big (take width m)) e)
      ∙ ap (λ (o : Answered ℕ × ℕ). o.0) (sym (taken_served (omega (arith, is.0, ap length e, length-drop place payload))))
  taken_as says None e within is = ap (λ (o : Answered ℕ × ℕ). o.0) (sym (taken_refused (omega (arith, ap length e, length-drop place payload))))

-- a field that ends a payload, and one that is all of it
pub taken_rest : (payload : List ℕ) (place width : ℕ) → length payload ≡ place + width → (taken_at payload place width).0 ≡ served (big (drop place payload))
taken_rest payload place width e =
    ap (λ (o : Answered ℕ × ℕ). o.0) (taken_served payload place width (omega arith))
    ∙ ap (λ (l : List ℕ). served (big l)) (take_all width (drop place payload) (omega (arith, length-drop place payload)))

pub taken_whole : (payload : List ℕ) (width : ℕ) → length payload ≡ width → (taken_at payload 0 width).0 ≡ served (big payload)
taken_whole payload width e = taken_rest payload 0 width (omega arith)

module _ (room : List ℕ) (place width n : ℕ) where
  pub put_served : n < 256 ^ width → place + width ≤ length room
      → put_at room place width n ≡ (served (place + width), overlay room place (big_endian width n))
  unfolding put_at
  put_served f h = rw (lt-leb _ _ f, le-ltb _ _ h)

-- a number that fits its bytes is put into room that is there
module _ (room : List ℕ) (place width n : ℕ) (small : n < 256 ^ width) (there : place + width ≤ length room) (p : Result ℕ Refusal)
    (w : List ℕ) (is : (answered p, w) ≡ put_at room place width n) where
  put : ◌≡◌ {A = Answered ℕ × List ℕ} (answered p, w) (served (place + width), overlay room place (big_endian width n))
  put = is ∙ put_served room place width n small there

  pub put_there : (next : ℕ) → p ≡ Ok next → (next ≡ place + width) × (w ≡ overlay room place (big_endian width n))
  put_there next e =
      let f : served next ≡ served (place + width) = sym (ap answered e) ∙ ap (λ (o : Answered ℕ × List ℕ). o.0) put in
      (cc, ap (λ (o : Answered ℕ × List ℕ). o.1) put)

-- the bytes of a number, wherever they stand, are read as that number
pub taken_of_bytes : (front back : List ℕ) (place count n : ℕ) → length front ≡ place → n < 256 ^ count
    → taken_at (front ++ (big_endian count n ++ back)) place count ≡ (served n, place + count)
taken_of_bytes front back place count n e f =
    let l : List ℕ = front ++ (big_endian count n ++ back) in
    let long : place + count ≤ length l = simp (length-append, length-big_endian) (omega arith) in
    let value : big (take count (drop place l)) ≡ n =
    rw (drop_at front (big_endian count n ++ back) place e, take_at (big_endian count n) back count (length-big_endian count n)) (big_of_big_endian count n f) in
    taken_served l place count long ∙ rw value

-- what is written is read back
pub taken_of_put : (room : List ℕ) (place width n : ℕ) → n < 256 ^ width → place + width ≤ length room
    → taken_at (overlay room place (big_endian width n)) place width ≡ (served n, place + width)
unfolding overlay
taken_of_put room place width n f h = taken_of_bytes (take place room) _ place width n (length-take-le place room (omega arith)) f
