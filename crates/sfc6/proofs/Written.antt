-- A request that is written is read back. Assumes nothing.
use mathlib.Core.Path.{◌≡◌, refl, sym, ap, ◌∙◌}
use mathlib.Core.Logic.{⊎_elim}
use mathlib.Core.List.{List, [], ◌∷◌, map}
use Prim.Native.Nat.{ℕ, ◌-◌, ◌^◌, ◌≤◌, ◌<◌}
use native.Mathlib.Omega.{arith}
use lib.Dec.{T}
use lib.ListN.{length, take, length-append}
use lib.Seq.{take_at}
use lib.Ieee.{Float, binary32, fits, to_bits, of_bits}
use lib.Ieee.Bits.{of_bits-to_bits, to_bits-lt}
use Rattle.refusal.specs.Refusals.{Answered, served}
use Rattle.refusal.specs.Room.{emit, lay}
use Rattle.refusal.proofs.Room.{take-overlay}
use Rattle.shdlc.specs.declared.Kind.TheVariants as kind
use Rattle.shdlc.specs.Checksum.{checksum_of}
use Rattle.shdlc.specs.Body.{check_body}
use Rattle.shdlc.specs.Frame.{with_checksum, frame_of}
use Rattle.shdlc.specs.Stream.{byte, items}
use Rattle.shdlc.proofs.Body.{good_body}
use Rattle.shdlc.proofs.Stream.{frame-items}
use Rattle.payload.specs.Field.{big, big_endian}
use Rattle.payload.proofs.Big.{big_of_big_endian}
use Rattle.sfc6.specs.declared.Request.{Request}
use Rattle.sfc6.specs.declared.Request.TheVariants.{GetSetpoint, SetSetpoint, MeasuredValue, GetGain, SetGain, GetInitStep, SetInitStep, RawFlow, RawConductivity, Temperature, NumberOfCalibrations, Validity, FullScale, GetCalibration, SetCalibration, VolatileCalibration, GetAddress, SetAddress, GetBaud, SetBaud, ProductType}
use Rattle.sfc6.specs.declared.Row.{Row}
use Rattle.sfc6.specs.Commands.{row}
use Rattle.sfc6.specs.Requests.{request_checks, check_request, data_of, body_of, frame_to_write, write_request}
use Rattle.sfc6.specs.Reading.{starts_with, named, fitting, first, carried, typed, payload_of, read_request}
use Rattle.sfc6.specs.ReadBack.{Fits}
use Rattle.sfc6.proofs.Order.{never, first_refuses, then_more, passes_or_refuses}
use Rattle.sfc6.proofs.Laid.{data_short}
use Rattle.sfc6.proofs.Writing.{emit-laid}

-- a number of so many bytes, and a float, that are written and read
long : (n : ℕ) → n < 2 ^ 32 → big (big_endian 4 n) ≡ n
long n h = big_of_big_endian 4 n h

float : (x : Float) → T (fits binary32 x) → of_bits binary32 (big (big_endian 4 (to_bits binary32 x))) ≡ x
float x h = ap (of_bits binary32) (long (to_bits binary32 x) (to_bits-lt binary32 x h)) ∙ of_bits-to_bits binary32 x h

-- the data of a request are read as that request: the table, row by row
pub typed-back : (request : Request) → Fits (row request).value → typed (row request).command (data_of (row request)) ≡ served request
unfolding typed first named fitting starts_with carried data_of row big_endian
typed-back GetSetpoint h = refl
typed-back (SetSetpoint x) h = ap (λ (y : Float). served (SetSetpoint y)) (float x h)
typed-back MeasuredValue h = refl
typed-back GetGain h = refl
typed-back (SetGain x) h = ap (λ (y : Float). served (SetGain y)) (float x h)
typed-back GetInitStep h = refl
typed-back (SetInitStep x) h = ap (λ (y : Float). served (SetInitStep y)) (float x h)
typed-back RawFlow h = refl
typed-back RawConductivity h = refl
typed-back Temperature h = refl
typed-back NumberOfCalibrations h = refl
typed-back (Validity n) h = ap (λ (m : ℕ). served (Validity m)) (long n h)
typed-back FullScale h = refl
typed-back GetCalibration h = refl
typed-back (SetCalibration n) h = ap (λ (m : ℕ). served (SetCalibration m)) (long n h)
typed-back (VolatileCalibration n) h = ap (λ (m : ℕ). served (VolatileCalibration m)) (long n h)
typed-back GetAddress h = refl
typed-back (SetAddress a) h = ap (λ (m : ℕ). served (SetAddress m)) (big_of_big_endian 1 a h)
typed-back GetBaud h = refl
typed-back (SetBaud n) h = ap (λ (m : ℕ). served (SetBaud m)) (long n h)
typed-back ProductType h = refl

module _ (address : ℕ) (request : Request) where
  abbrev r : Row
  r = row request

  abbrev body : List ℕ
  body = body_of address r

  short : length (data_of r) ≤ 255
  short = omega (arith, data_short r)

  pub good : check_body kind.Request (with_checksum body) ≡ served (with_checksum body)
  unfolding body_of
  good = good_body kind.Request (address ∷ r.command ∷ []) (data_of r) refl short

  data_there : payload_of (with_checksum body) ≡ data_of r
  unfolding body_of
  data_there =
      let l = length-append (data_of r) (checksum_of body ∷ []) in
      let n : length (data_of r) ≡ length (with_checksum body) - 4 = omega arith in
      take_at (data_of r) (checksum_of body ∷ []) _ n

  -- the body of a request that is not refused is read as that request
  pub read-body : Fits r.value → check_request address request ≡ served (address, request)
      → read_request (with_checksum body) ≡ served (address, request)
  unfolding read_request body_of
  read-body h passed = rw (good, data_there, typed-back request h) passed

  -- what is not refused is this frame
  pub to_write : check_request address request ≡ served (address, request) → frame_to_write address request ≡ served (frame_of body)
  unfolding check_request frame_to_write
  to_write h = then_more (address, request) (frame_of body) [] (request_checks address request) h

  -- a writer that succeeds was not refused, and the room starts with the frame
  module _ (room after : List ℕ) (n : ℕ) where
    laid : emit (frame_of body) room ≡ (served n, after) → take n after ≡ frame_of body
    laid h =
        let e = emit-laid (frame_of body) room n (ap (λ (o : Answered ℕ × List ℕ). o.0) h) in
        rw (e.0, ← ap (λ (o : Answered ℕ × List ℕ). o.1) h, e.1) (take-overlay room (frame_of body))

    pub written : write_request address request room ≡ (served n, after)
        → (check_request address request ≡ served (address, request)) × (take n after ≡ frame_of body)
    unfolding write_request check_request frame_to_write
    written h =
        ⊎_elim
        (λ passed. (passed, laid (sym (ap (λ (a : Answered (List ℕ)). lay a room) (to_write passed)) ∙ h)))
        (λ stopped.
        let e = first_refuses (address, request) (frame_of body) [] (request_checks address request) stopped.1 in
        never (sym (ap (λ (a : Answered (List ℕ)). (lay a room).0) (sym e) ∙ ap (λ (o : Answered ℕ × List ℕ). o.0) h)))
        (passes_or_refuses (request_checks address request) (address, request))

    pub written_read : Fits r.value → write_request address request room ≡ (served n, after)
        → (b : List ℕ) × (items kind.Request (map byte (take n after)) ≡ served b ∷ []) × (read_request b ≡ served (address, request))
    written_read h e =
        let w = written e in
        (with_checksum body, ap (λ (l : List ℕ). items kind.Request (map byte l)) w.1 ∙ frame-items kind.Request body good, read-body h w.0)
