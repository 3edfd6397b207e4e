-- A body that is read and written again comes to the same bytes. Assumes nothing.
use mathlib.Core.Path.{◌≡◌, refl, sym, ap, subst, ◌∙◌}
use mathlib.Core.Bool.{Bool, true, false, cond, not, ◌&&◌, true≢false}
use mathlib.Core.List.{List, [], ◌∷◌, ◌++◌}
use Prim.Native.Nat.{ℕ, zero, suc, ◌-◌, ◌^◌, ◌≤◌, ◌<◌}
use native.Mathlib.Omega.{arith}
use lib.Dec.{T, eqb}
use lib.ListN.{length, take, drop, get_or, length-append, length-take, length-drop}
use lib.Ieee.{Float, nan, inf, fin, binary32, is_nan, to_bits, of_bits}
use lib.Ieee.Bits.{to_bits-of_bits}
use borrow.Author.Tests.{eqb-true}
use Rattle.refusal.specs.Refusals.{Answered, served}
use Rattle.refusal.specs.Room.{emit, lay}
use Rattle.shdlc.specs.declared.Kind.{Kind}
use Rattle.shdlc.specs.declared.Kind.TheVariants as kind
use Rattle.shdlc.specs.Stuffing.{stuff_byte, stuff}
use Rattle.shdlc.specs.Body.{body_checks, check_body}
use Rattle.shdlc.specs.Frame.{with_checksum, frame_of}
use Rattle.shdlc.specs.ReadBack.{closed}
use Rattle.shdlc.proofs.Body.{passes, checked_body}
use Rattle.shdlc.proofs.Stuffing.{each_byte}
use Rattle.shdlc.proofs.Stream.{one_wire}
use Rattle.payload.specs.Field.{big, big_endian, Bytes}
use Rattle.payload.proofs.Big.{take-bytes, drop-bytes, big_lt, big_endian_of_big}
use Rattle.sfc6.specs.declared.Request.{Request}
use Rattle.sfc6.specs.declared.Request.TheVariants.{ProductType}
use Rattle.sfc6.specs.declared.Value.{Value}
use Rattle.sfc6.specs.declared.Value.TheVariants as value
use Rattle.std.specs.Prelude.{Option, Some, None}
use Rattle.sfc6.specs.declared.Row.{Row}
use Rattle.sfc6.specs.Commands.{row, table, request_at, finite, out_of_range, bad_float}
use Rattle.sfc6.specs.Requests.{body_at, request_checks, check_request, sub_bytes, value_bytes, data_of, body_of, write_request}
use Rattle.sfc6.specs.Reading.{starts_with, named, fitting, first, carried, found_or, typed, payload_of, and_then, read_request}
use Rattle.sfc6.specs.ReadBack.{Received}
use Rattle.sfc6.proofs.Order.{never, serves_it, and_then_served}
use Rattle.sfc6.proofs.Checks.{passed_request}
use Rattle.sfc6.proofs.Reading.{first_passes, both, fits_length}
use Rattle.sfc6.proofs.Written.{to_write}

-- a float's bits that are finite come back
pub not_nan : (x : Float) → not (finite (to_bits binary32 x)) ≡ false → T (not (is_nan x))
unfolding is_nan to_bits
not_nan nan h = absurd (true≢false h)
not_nan (inf s) h = tt
not_nan (fin s m e) h = tt

float_bytes : (n : ℕ) → n < 2 ^ 32 → not (finite (to_bits binary32 (of_bits binary32 n))) ≡ false
    → big_endian 4 (to_bits binary32 (of_bits binary32 n)) ≡ big_endian 4 n
float_bytes n h g = ap (big_endian 4) (to_bits-of_bits binary32 n h (not_nan (of_bits binary32 n) g))

-- only the value of a row depends on the number that the request carries, and its bytes are those of the number
pub record Carries (request : ℕ → Request) : Type 0 where
  pub command : (n : ℕ) → (row (request n)).command ≡ (row (request 0)).command
  pub sub : (n : ℕ) → (row (request n)).sub ≡ (row (request 0)).sub
  pub value : (n : ℕ) → n < 2 ^ 32 → out_of_range (row (request n)).value ≡ false → bad_float (row (request n)).value ≡ false
      → value_bytes (row (request n)).value ≡ big_endian (length (value_bytes (row (request 0)).value)) n

infixr 5 ◌also◌
data Each : List (ℕ → Request) → Type 0 where
  done : Each []
  ◌also◌ : {request : ℕ → Request} {requests : List (ℕ → Request)} → Carries request → Each requests → Each (request ∷ requests)

each : Each table
unfolding row big_endian
each =
    record { command = λ n. refl; sub = λ n. refl; value = λ n h r g. refl }
    also record { command = λ n. refl; sub = λ n. refl; value = λ n h r g. float_bytes n h g }
    also record { command = λ n. refl; sub = λ n. refl; value = λ n h r g. refl }
    also record { command = λ n. refl; sub = λ n. refl; value = λ n h r g. refl }
    also record { command = λ n. refl; sub = λ n. refl; value = λ n h r g. float_bytes n h g }
    also record { command = λ n. refl; sub = λ n. refl; value = λ n h r g. refl }
    also record { command = λ n. refl; sub = λ n. refl; value = λ n h r g. float_bytes n h g }
    also record { command = λ n. refl; sub = λ n. refl; value = λ n h r g. refl }
    also record { command = λ n. refl; sub = λ n. refl; value = λ n h r g. refl }
    also record { command = λ n. refl; sub = λ n. refl; value = λ n h r g. refl }
    also record { command = λ n. refl; sub = λ n. refl; value = λ n h r g. refl }
    also record { command = λ n. refl; sub = λ n. refl; value = λ n h r g. refl }
    also record { command = λ n. refl; sub = λ n. refl; value = λ n h r g. refl }
    also record { command = λ n. refl; sub = λ n. refl; value = λ n h r g. refl }
    also record { command = λ n. refl; sub = λ n. refl; value = λ n h r g. refl }
    also record { command = λ n. refl; sub = λ n. refl; value = λ n h r g. refl }
    also record { command = λ n. refl; sub = λ n. refl; value = λ n h r g. refl }
    also record { command = λ n. refl; sub = λ n. refl; value = λ n h r g. refl }
    also record { command = λ n. refl; sub = λ n. refl; value = λ n h r g. refl }
    also record { command = λ n. refl; sub = λ n. refl; value = λ n h r g. refl }
    also record { command = λ n. refl; sub = λ n. refl; value = λ n h r g. refl }
    also done

-- the request at a place
each_at : (requests : List (ℕ → Request)) → Each requests → (k : ℕ) (other : ℕ → Request) → k < length requests → Carries (get_or requests k other)
each_at [] done k other h = absurd (omega arith)
each_at (q ∷ requests) (this also es) zero other h = this
each_at (q ∷ requests) (this also es) (suc k) other h = each_at requests es k other (omega arith)

pub carries_at : (place : ℕ) → place ≤ 20 → Carries (request_at place)
carries_at place h = each_at table each place (λ n. ProductType) (omega arith)

found_carries : (test : Row → Bool) (requests : List (ℕ → Request)) → Each requests → (request : ℕ → Request) → first test requests ≡ Some request
    → Carries request
unfolding first
found_carries test [] done request h = absurd (let z : ◌≡◌ {A = ℕ} 0 1 = cc in omega arith)
found_carries test (q ∷ requests) (this also es) request h = go (test (row (q 0))) (found_carries test requests es request) h
  where
    go : (t : Bool) → (first test requests ≡ Some request → Carries request) → cond t (Some q) (first test requests) ≡ Some request → Carries request
    go true on h = let f : q ≡ request = cc in subst Carries f this
    go false on h = on h

-- data that are read: where the request stands in the table
typed-found : (command : ℕ) (payload : List ℕ) (request : Request) → typed command payload ≡ served request
    → (f : ℕ → Request) × (first (fitting command payload) table ≡ Some f) × (f (carried (row (f 0)) payload) ≡ request)
unfolding typed
typed-found command payload request = go (first (named command payload) table) (first (fitting command payload) table) refl
  where
    go : (x y : Option (ℕ → Request)) → first (fitting command payload) table ≡ y
        → found_or 11 x (λ f. found_or 12 y (λ f. served (f (carried (row (f 0)) payload)))) ≡ served request
        → (f : ℕ → Request) × (first (fitting command payload) table ≡ Some f) × (f (carried (row (f 0)) payload) ≡ request)
    go None y e h = never (sym h)
    go (Some g) None e h = never (sym h)
    go (Some g) (Some f) e h = (f, e, cc)

starts_split : (s : Option ℕ) (payload : List ℕ) → starts_with s payload ≡ true → sub_bytes s ++ drop (length (sub_bytes s)) payload ≡ payload
unfolding starts_with
starts_split None payload h = refl
starts_split (Some s) [] h = absurd (true≢false (sym h))
starts_split (Some s) (b ∷ payload) h = ap (λ (x : ℕ). x ∷ payload) (sym (eqb-true b s h))

-- the number in a value's bytes is that of a u32
value_fits : (v : Value) (n : ℕ) → n < 256 ^ length (value_bytes v) → n < 2 ^ 32
unfolding big_endian
value_fits value.Nothing n h = omega arith
value_fits (value.Float x) n h = omega arith
value_fits (value.U32 m) n h = omega arith
value_fits (value.Address a) n h = omega arith
value_fits (value.Baud rate) n h = omega arith

-- data that are read and written again
data_back : (command : ℕ) (payload : List ℕ) (request : Request) → Bytes payload → typed command payload ≡ served request
    → (out_of_range (row request).value ≡ false) × (bad_float (row request).value ≡ false)
    → ((row request).command ≡ command) × (data_of (row request) ≡ payload)
unfolding data_of fitting named carried
data_back command payload request bytes h passed =
    let at_table = typed-found command payload request h in
    let f = at_table.0 in
    let c = found_carries (fitting command payload) table each f at_table.1 in
    let r = row (f 0) in
    let rest = drop (length (sub_bytes r.sub)) payload in
    let n = big rest in
    let fits = first_passes (fitting command payload) table f at_table.1 in
    let name = (both (eqb command r.command && starts_with r.sub payload) _ fits).0 in
    let split = starts_split r.sub payload (both (eqb command r.command) _ name).1 in
    let width : length rest ≡ length (value_bytes r.value) =
    omega (arith, length-drop (length (sub_bytes r.sub)) payload, fits_length command payload r fits, length-append (sub_bytes r.sub) (value_bytes r.value)) in
    let rest-bytes = drop-bytes (length (sub_bytes r.sub)) payload bytes in
    let small : n < 256 ^ length (value_bytes r.value) = subst (λ (k : ℕ). n < 256 ^ k) width (big_lt rest rest-bytes) in
    let range : out_of_range (row (f n)).value ≡ false = ap (λ (q : Request). out_of_range (row q).value) at_table.2 ∙ passed.0 in
    let good : bad_float (row (f n)).value ≡ false = ap (λ (q : Request). bad_float (row q).value) at_table.2 ∙ passed.1 in
    let value : value_bytes (row (f n)).value ≡ rest =
    c.value n (value_fits r.value n small) range good ∙ ap (λ (k : ℕ). big_endian k n) (sym width) ∙ big_endian_of_big rest rest-bytes in (
      ap (λ (q : Request). (row q).command) (sym at_table.2) ∙ c.command n ∙ sym (eqb-true command r.command (both (eqb command r.command) _ name).0),
      ap (λ (q : Request). data_of (row q)) (sym at_table.2) ∙ rw (c.sub n, value) split,
    )

-- the front of a body of four bytes or more
front : (b : List ℕ) → 4 ≤ length b → get_or b 0 0 ∷ get_or b 1 0 ∷ get_or b 2 0 ∷ payload_of b ≡ take (length b - 1) b
front [] h = absurd (omega arith)
front (x ∷ []) h = absurd (omega arith)
front (x ∷ y ∷ []) h = absurd (omega arith)
front (x ∷ y ∷ z ∷ rest) h =
    let e : length (x ∷ y ∷ z ∷ rest) - 1 ≡ suc (suc (suc (length (x ∷ y ∷ z ∷ rest) - 4))) = omega arith in
    rw e

-- what a body that is read shows
pub record Read (body : List ℕ) (address : ℕ) (request : Request) : Type 0 where
  pub checked : check_body kind.Request body ≡ served body
  pub data_read : typed (get_or body 1 0) (payload_of body) ≡ served request
  pub address_read : get_or body 0 0 ≡ address
  pub request_passed : check_request address request ≡ served (address, request)

module _ (body : List ℕ) (address : ℕ) (request : Request) where
  abbrev Rest : List ℕ → Answered (ℕ × Request)
  Rest b = and_then (typed (get_or b 1 0) (payload_of b)) (λ q. check_request (get_or b 0 0) q)

  passed_same : (a : ℕ) (q : Request) → check_request a q ≡ served (address, request)
      → (a ≡ address) × (q ≡ request) × (check_request address request ≡ served (address, request))
  unfolding check_request
  passed_same a q h =
      let e = serves_it (request_checks a q) (a, q) h in
      (ap (λ (x : ℕ × Request). x.0) e, ap (λ (x : ℕ × Request). x.1) e, subst (λ (x : ℕ × Request). check_request x.0 x.1 ≡ served (address, request)) e h)

  body_same : (b : List ℕ) → check_body kind.Request body ≡ served b → body ≡ b
  unfolding check_body
  body_same b h = serves_it (body_checks kind.Request body) body h

  read-parts : read_request body ≡ served (address, request) → Read body address request
  unfolding read_request
  read-parts h =
      let s = and_then_served (check_body kind.Request body) Rest h in
      let same = body_same s.0 s.1 in
      let rest = subst (λ (b : List ℕ). Rest b ≡ served (address, request)) (sym same) s.2 in
      let t = and_then_served (typed (get_or body 1 0) (payload_of body)) (λ q. check_request (get_or body 0 0) q) rest in
      let p = passed_same (get_or body 0 0) t.0 t.2 in
      record {
        checked = s.1 ∙ ap served (sym same);
        data_read = t.1 ∙ ap served p.1;
        address_read = p.0;
        request_passed = p.2;
      }

  -- a body that is read and written again
  body_back : Bytes body → Read body address request → with_checksum (body_of address (row request)) ≡ body
  unfolding body_of
  body_back bytes r =
      let p = passes kind.Request body r.checked in
      let d = data_back (get_or body 1 0) (payload_of body) request (take-bytes (length body - 4) (drop 3 body) (drop-bytes 3 body bytes)) r.data_read (passed_request address request r.request_passed) in
      let size : length (payload_of body) ≡ get_or body 2 0 =
      omega (arith, length-take (length body - 4) (drop 3 body), length-drop 3 body, p.length_right, p.least) in
      let same : body_of address (row request) ≡ take (length body - 1) body =
      rw (d.1, d.0, size, ← r.address_read) (front body p.least) in
      ap with_checksum same ∙ sym (checked_body kind.Request body r.checked)

  pub read_rewritten : Bytes body → read_request body ≡ served (address, request)
      → (room : List ℕ) → write_request address request room ≡ emit (closed (stuff body)) room
  unfolding write_request frame_of
  read_rewritten bytes h room =
      let r = read-parts h in
      ap (λ (a : Answered (List ℕ)). lay a room) (to_write address request r.request_passed)
      ∙ ap (λ (b : List ℕ). emit (closed (stuff b)) room) (body_back bytes r)

-- the bytes of a body are those of its stretch, or of the table of escapes
byte_unstuffed : (b : ℕ) (rest : List ℕ) → Bytes (stuff_byte b ++ rest) → (b < 256) × Bytes rest
unfolding stuff_byte
byte_unstuffed b rest =
    each_byte (λ b. Bytes (stuff_byte b ++ rest) → (b < 256) × Bytes rest) (λ h. (omega arith, λ i. h (suc (suc i))))
    (λ h. (omega arith, λ i. h (suc (suc i)))) (λ h. (omega arith, λ i. h (suc (suc i)))) (λ h. (omega arith, λ i. h (suc (suc i))))
    (λ b p q r s h. let g = rw (p, q, r, s) at h in (g 0, λ i. g (suc i))) b

pub unstuffed_bytes : (body : List ℕ) → Bytes (stuff body) → Bytes body
unfolding stuff
unstuffed_bytes [] h i = h i
unstuffed_bytes (b ∷ body) h zero = (byte_unstuffed b (stuff body) h).0
unstuffed_bytes (b ∷ body) h (suc i) = unstuffed_bytes body (byte_unstuffed b (stuff body) h).1 i

-- a frame from the wire: its stretch is its stuffed body, of bytes
pub received_body : (kind : Kind) (stretch body : List ℕ) → Received kind stretch body → (stretch ≡ stuff body) × Bytes body
received_body kind stretch body r =
    let is = one_wire kind stretch r.1 body r.2 in
    (is, unstuffed_bytes body (subst Bytes is r.0))

pub wire_rewritten : (stretch body : List ℕ) → Received kind.Request stretch body → (address : ℕ) (request : Request)
    → read_request body ≡ served (address, request) → (room : List ℕ) → write_request address request room ≡ emit (closed stretch) room
wire_rewritten stretch body r address request h room =
    let is = received_body kind.Request stretch body r in
    read_rewritten body address request is.1 h room ∙ ap (λ (s : List ℕ). emit (closed s) room) (sym is.0)

-- the body at a place of the table, of a request that passes its checks
pub numbered-body : (address place n : ℕ) → place ≤ 20 → n < 2 ^ 32
    → (out_of_range (row (request_at place n)).value ≡ false) × (bad_float (row (request_at place n)).value ≡ false)
    → body_at address place n ≡ body_of address (row (request_at place n))
unfolding body_of data_of
numbered-body address place n in_table small passed =
    let c = carries_at place in_table in
    rw (c.command n, c.sub n, c.value n small passed.0 passed.1)
