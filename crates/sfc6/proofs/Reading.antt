-- Reading a request: each answer of the definitions, from the tests that lead to it. Assumes nothing.
use mathlib.Core.Path.{◌≡◌, refl, sym, ap, ◌∙◌}
use mathlib.Core.Logic.{◌⊎◌, inl, inr}
use mathlib.Core.Bool.{Bool, true, false, cond, ◌&&◌, true≢false}
use mathlib.Core.List.{List, [], ◌∷◌}
use Prim.Native.Nat.{ℕ, zero, suc, ◌+◌, ◌-◌, ◌≤◌, ◌<◌}
use native.Mathlib.Omega.{arith}
use borrow.Author.Tests.{eqb-true}
use lib.Dec.{eqb}
use lib.Ieee.{Float as Float32}
use lib.ListN.{length, get_or, take, drop, length-append, drop_of_length-le}
use Rattle.refusal.specs.Refusals.{Answered, number, served, refused, paper, answered, answered_as}
use Rattle.refusal.specs.declared.Refusal.{Refusal}
use Rattle.shdlc.specs.declared.Kind.TheVariants as kind
use Rattle.std.specs.Prelude.{Option, Some, None, Result, Ok, Err}
use Rattle.shdlc.specs.Body.{check_body}
use Rattle.shdlc.proofs.Body.{passes}
use Rattle.refusal.proofs.OneToOne.{answered-one_to_one}
use Rattle.payload.specs.Field.{big, big_endian, taken_at}
use Rattle.payload.proofs.At.{taken_rest}
use Rattle.sfc6.specs.declared.Request.{Request}
use Rattle.sfc6.specs.declared.Value.{Value}
use Rattle.sfc6.specs.declared.Value.TheVariants.{Nothing, Float, U32, Address, Baud}
use Rattle.sfc6.specs.declared.Row.{Row}
use Rattle.sfc6.specs.Commands.{row, table, request_at}
use Rattle.sfc6.specs.Requests.{sub_bytes, value_bytes, data_of, check_request}
use Rattle.sfc6.specs.Reading.{named, fitting, first, found_at, carried, typed, and_then, read_request}
use Rattle.sfc6.proofs.Table.{last}

-- what a row carries; an address is a byte
abbrev pub Carried : Row → List ℕ → ℕ → Type 0
Carried r payload n = (n ≡ carried r payload) × ((a : ℕ) → r.value ≡ Address a → n < 256)

-- whether a value is an address
unfoldable pub addresses : Value → ℕ
addresses Nothing = 0
addresses (Float x) = 0
addresses (U32 n) = 0
addresses (Address a) = 1
addresses (Baud rate) = 0

module _ (r : Row) (payload : List ℕ) (whole : length payload ≡ length (data_of r)) (known : Value) (is : r.value ≡ known) where
  abbrev after : ℕ
  after = length (sub_bytes r.sub)

  pub value_ends : length payload ≡ after + length (value_bytes known)
  unfolding data_of
  value_ends =
      let l = length-append (sub_bytes r.sub) (value_bytes r.value) in
      let k : length (value_bytes r.value) ≡ length (value_bytes known) = ap (λ (v : Value). length (value_bytes v)) is in
      omega arith

  pub carried_number : addresses known ≡ 0 → {n : ℕ} → n ≡ big (drop after payload) → Carried r payload n
  unfolding carried addresses
  carried_number plain h = (
    h,
    λ a e.
        let z : addresses known ≡ 1 = ap addresses (sym is ∙ e) in
        absurd (omega arith),
  )

  pub carried_nothing : addresses known ≡ 0 → length (value_bytes known) ≡ 0 → Carried r payload 0
  unfolding big
  carried_nothing plain h = carried_number plain (sym (ap big (drop_of_length-le payload {i = after} (omega (arith, value_ends)))))

  -- the number, where it is taken
  pub number_taken : {place width next : ℕ} → place ≡ after → length (value_bytes known) ≡ width → (answer : Result ℕ Refusal)
      → (answered answer, next) ≡ taken_at payload place width → answer ≡ Ok (carried r payload)
  unfolding carried
  number_taken {place} {width} e f answer h =
      answered-one_to_one answer (Ok (big (drop after payload)))
      (ap (λ (o : Answered ℕ × ℕ). o.0) h ∙ ap (λ (k : ℕ). (taken_at payload k width).0) e ∙ taken_rest payload after width (omega (arith, value_ends, f)))

-- a value of four bytes
pub four_long : (v : Value) → ((x : Float32) × (v ≡ Float x)) ⊎ (((x : ℕ) × (v ≡ U32 x)) ⊎ ((x : ℕ) × (v ≡ Baud x)))
    → (length (value_bytes v) ≡ 4) × (addresses v ≡ 0)
unfolding big_endian addresses
four_long v (inl e) = rw e.1 (refl, refl)
four_long v (inr (inl e)) = rw e.1 (refl, refl)
four_long v (inr (inr e)) = rw e.1 (refl, refl)

-- the table searched from the front: the first place whose row passes
module _ (test : Row → Bool) where
  first_over : (requests : List (ℕ → Request)) (last : ℕ → Request) (place : ℕ) → place < length requests
      → test (row (get_or requests place last 0)) ≡ true → ((k : ℕ) → k < place → test (row (get_or requests k last 0)) ≡ false)
      → Some (get_or requests place last) ≡ first test requests
  unfolding first
  first_over (q ∷ requests) last zero h e f = rw e
  first_over (q ∷ requests) last (suc place) h e f =
      rw (f 0 (omega arith)) (first_over requests last place (omega arith) e (λ k l. f (suc k) (omega arith)))
  first_over [] last place h e f = absurd (omega arith)

  none_over : (requests : List (ℕ → Request)) (last : ℕ → Request)
      → ((k : ℕ) → k < length requests → test (row (get_or requests k last 0)) ≡ false) → None ≡ first test requests
  unfolding first
  none_over [] last f = refl
  none_over (q ∷ requests) last f = rw (f 0 (omega arith)) (none_over requests last (λ k l. f (suc k) (omega arith)))

  pub table-found : {place : ℕ} → place < 21 → test (row (request_at place 0)) ≡ true → ((k : ℕ) → k < place → test (row (request_at k 0)) ≡ false)
      → Some (request_at place) ≡ first test table
  table-found {place} h e f = first_over table last place h e f

  pub table-ended : ((k : ℕ) → k < 21 → test (row (request_at k 0)) ≡ false) → None ≡ first test table
  table-ended f = none_over table last f

-- what is found passes the test
pub first_passes : (test : Row → Bool) (requests : List (ℕ → Request)) (request : ℕ → Request) → first test requests ≡ Some request
    → test (row (request 0)) ≡ true
unfolding first
first_passes test [] request h = absurd (let z : ◌≡◌ {A = ℕ} 0 1 = cc in omega arith)
first_passes test (q ∷ requests) request h = go (test (row (q 0))) refl (first_passes test requests request) h
  where
    go : (t : Bool) → test (row (q 0)) ≡ t → (first test requests ≡ Some request → test (row (request 0)) ≡ true)
        → cond t (Some q) (first test requests) ≡ Some request → test (row (request 0)) ≡ true
    go true e on h = let f : q ≡ request = cc in rw (← f) e
    go false e on h = on h

pub both : (a b : Bool) → (a && b) ≡ true → (a ≡ true) × (b ≡ true)
both true b h = (refl, h)
both false b h = absurd (true≢false (sym h))

pub fits_length : (command : ℕ) (payload : List ℕ) (r : Row) → fitting command payload r ≡ true → length payload ≡ length (data_of r)
unfolding fitting
fits_length command payload r h = eqb-true _ _ (both (named command payload r) _ h).1

-- the data of a command: each answer of `typed`
module _ (command : ℕ) (payload : List ℕ) where
  -- a row that fits is named, so that where one fits a named one is found
  first-named : (requests : List (ℕ → Request)) {request : ℕ → Request} → first (fitting command payload) requests ≡ Some request
      → (named-one : ℕ → Request) × (first (named command payload) requests ≡ Some named-one)
  unfolding first fitting
  first-named [] h = absurd (let z : ◌≡◌ {A = ℕ} 0 1 = cc in omega arith)
  first-named (q ∷ requests) {request} h = go (named command payload (row (q 0))) (first-named requests) h
    where
      go : (t : Bool)
          → (first (fitting command payload) requests ≡ Some request → (named-one : ℕ → Request) × (first (named command payload) requests ≡ Some named-one))
          → cond (t && eqb (length payload) (length (data_of (row (q 0))))) (Some q) (first (fitting command payload) requests) ≡ Some request
          → (named-one : ℕ → Request) × (cond t (Some q) (first (named command payload) requests) ≡ Some named-one)
      go true on h = (q, refl)
      go false on h = on h

  pub typed_unknown : {f : Option ℕ} → found_at f ≡ first (named command payload) table → f ≡ None → refused (number 11) ≡ typed command payload
  unfolding typed
  typed_unknown by_name e = rw (← by_name, e)

  module _ {g : Option ℕ} (by_length : found_at g ≡ first (fitting command payload) table) where
    pub typed_unfit : g ≡ None → {f : Option ℕ} → found_at f ≡ first (named command payload) table → {i : ℕ} → f ≡ Some i
        → refused (number 12) ≡ typed command payload
    unfolding typed
    typed_unfit h by_name e = rw (← by_name, e, ← by_length, h)

    module _ {place : ℕ} (h : g ≡ Some place) {q : Request} (request : q ≡ request_at place 0) {r : Row} (at_row : r ≡ row q) where
      fits : first (fitting command payload) table ≡ Some (request_at place)
      fits = sym by_length ∙ ap found_at h

      pub typed-whole : length payload ≡ length (data_of r)
      typed-whole =
          rw (at_row, request)
          (fits_length command payload (row (request_at place 0)) (first_passes (fitting command payload) table (request_at place) fits))

      -- the place of set address carries a byte
      pub typed_byte : {n : ℕ} → Carried r payload n → place ≡ 17 → n < 256
      unfolding row
      typed_byte k e = k.1 0 (ap (λ (x : Row). x.value) at_row ∙ ap (λ (x : Request). (row x).value) request ∙ ap (λ (m : ℕ). (row (request_at m 0)).value) e)

      pub typed-known : {n : ℕ} → n ≡ carried r payload → {answer : Request} → answer ≡ request_at place n → served answer ≡ typed command payload
      unfolding typed
      typed-known k a = rw ((first-named table fits).1, fits, ← request, ← at_row, ← k, a)

-- a body: each answer of `read_request`
module _ (body : List ℕ) {c : Result (Unit {0}) Refusal} (is : answered_as (λ _. body) c ≡ check_body kind.Request body) where
  pub read_refused : {why : Refusal} → c ≡ Err why → refused (paper why) ≡ read_request body
  unfolding read_request
  read_refused e = rw (← is, e)

  module _ (good : c ≡ Ok tt) where
    pub read_bounds : (4 ≤ length body) × (length body ≤ 259)
    read_bounds = let p = passes kind.Request body (sym is ∙ ap (answered_as (λ _. body)) good) in (p.least, p.most)

    module _ (t : Result Request Refusal) (data_is : answered t ≡ typed (get_or body 1 0) (take (length body - 1 - 3) (drop 3 body))) where
      read : read_request body ≡ and_then (answered t) (check_request (get_or body 0 0))
      unfolding read_request
      read =
          let four : length body - 1 - 3 ≡ length body - 4 = omega arith in
          let d = rw four at data_is in
          rw (← is, good, ← d)

      pub read_data_refused : {why : Refusal} → t ≡ Err why → refused (paper why) ≡ read_request body
      read_data_refused e = sym (read ∙ rw e)

      pub read_known : {q : Request} → t ≡ Ok q → (answer : Result (Unit {0}) Refusal) → answered_as (λ _. (get_or body 0 0, q)) answer ≡ check_request (get_or body 0 0) q
          → {known : Result (Unit {0}) Refusal} → answer ≡ known → answered_as (λ _. (get_or body 0 0, q)) known ≡ read_request body
      read_known e answer h k = rw (← k) (h ∙ sym (read ∙ rw e))
