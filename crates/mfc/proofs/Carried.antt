-- A receiver over lent bytes from call to call: what one call puts back is what the next one finds. EverySeries.antt has the claim over
-- every series of calls by it. Assumes nothing.
use mathlib.Core.Path.{◌≡◌, refl, ap}
use mathlib.Core.Bool.{Bool, true, false, ◌&&◌, false≢true}
use mathlib.Core.List.{List}
use mathlib.Core.Option.{Option, some}
use Prim.Native.Nat.{ℕ, ◌+◌, ◌*◌, ◌/◌, ◌%◌, ◌≤◌, ◌<◌}
use native.Mathlib.Omega.{arith}
use borrow.Author.Tests.{le-ltb, ltb-true, eqb-true}
use lib.Dec.{ltb, eqb}
use lib.ListN.{length, drop}
use lib.Seq.{take_at}
use Rattle.refusal.specs.Room.{overlay}
use Rattle.refusal.proofs.Room.{length-overlay}
use Rattle.shdlc.specs.declared.Kind.{Kind}
use Rattle.shdlc.specs.declared.Kind.TheVariants.{Request, Reply}
use Rattle.receiver.specs.declared.Mode.{Mode}
use Rattle.receiver.specs.declared.Mode.TheVariants.{Outside, Plain, Escaped, BadEscape, BareControl}
use Rattle.receiver.specs.Record.{Record, number_of_mode, length_in_range, in_range}
use Rattle.shdlc.specs.Numbers.{number_of_kind}
use Rattle.mfc.specs.Receivers.{kind_at, mode_at, record_size, bytes_of, store_in, fields_in, record_in, feed_as, feed_record, noise_as, noise_record}

pub kind_back : (kind : Kind) → kind_at (number_of_kind kind) ≡ some kind
kind_back Request = refl
kind_back Reply = refl

mode_back : (mode : Mode) → mode_at (number_of_mode mode) ≡ some mode
mode_back Outside = refl
mode_back Plain = refl
mode_back Escaped = refl
mode_back BadEscape = refl
mode_back BareControl = refl

length_below : (mode : Mode) (n : ℕ) → length_in_range mode n ≡ true → n < 65536
length_below Outside n h = omega (arith, eqb-true n 0 h)
length_below Plain n h = ltb-true n 65536 h
length_below Escaped n h = ltb-true n 65536 h
length_below BadEscape n h = ltb-true n 65536 h
length_below BareControl n h = ltb-true n 65536 h

both : (t u : Bool) → (t && u) ≡ true → (t ≡ true) × (u ≡ true)
both true u h = (refl, h)
both false u h = absurd (false≢true h)

pub in_range_lem : (r : Record) → in_range r ≡ true → (length r.store ≡ 260) × (r.len < 65536) × (r.noise < 4294967296)
in_range_lem r h =
    let s = both (eqb (length r.store) 260) (ltb r.noise 4294967296 && length_in_range r.mode r.len) h in
    let n = both (ltb r.noise 4294967296) (length_in_range r.mode r.len) s.1 in
    (eqb-true _ _ s.0, length_below r.mode r.len n.1, ltb-true _ _ n.0)

two_bytes : (n : ℕ) → n < 65536 → n / 256 % 256 * 256 + n % 256 ≡ n
two_bytes n h = omega arith

four_bytes : (n : ℕ) → n < 4294967296 → ((n / 16777216 % 256 * 256 + n / 65536 % 256) * 256 + n / 256 % 256) * 256 + n % 256 ≡ n
four_bytes n h =
    let a : n / 16777216 ≡ n / 65536 / 256 = omega arith in
    let b : n / 65536 ≡ n / 256 / 256 = omega arith in
    let c : n / 65536 < 65536 = omega arith in
    let d : n / 16777216 % 256 * 256 + n / 65536 % 256 ≡ n / 65536 = rw a (two_bytes (n / 65536) c) in
    let e : n / 65536 * 256 + n / 256 % 256 ≡ n / 256 = omega arith in
    rw (d, e) (omega arith)

module _ (lent : List ℕ) (r : Record) (long : record_size ≤ length lent) (good : in_range r ≡ true) where
  put_long : record_size ≤ length (overlay lent 0 (bytes_of r))
  put_long =
      let size = (in_range_lem r good).0 in
      omega (arith, length-overlay lent 0 (bytes_of r) (omega arith))

  store_back : store_in (overlay lent 0 (bytes_of r)) ≡ r.store
  unfolding overlay
  store_back = take_at r.store (drop (0 + length (bytes_of r)) lent) 260 (in_range_lem r good).0

  fields_again : fields_in (overlay lent 0 (bytes_of r)) ≡ some r
  unfolding fields_in overlay
  fields_again =
      rw (le-ltb (length (overlay lent 0 (bytes_of r))) record_size put_long, store_back, kind_back r.kind, mode_back r.mode, two_bytes r.len (in_range_lem r good).1, four_bytes r.noise (in_range_lem r good).2)

  pub found-again : record_in (overlay lent 0 (bytes_of r)) ≡ some r
  unfolding record_in
  found-again = rw (fields_again, good)

  pub feed_again : (silence : Bool) (piece frame : List ℕ)
      → feed_record (overlay lent 0 (bytes_of r)) silence piece frame ≡ feed_as (some r) (overlay lent 0 (bytes_of r)) silence piece frame
  unfolding feed_record
  feed_again silence piece frame = ap (λ (o : Option Record). feed_as o (overlay lent 0 (bytes_of r)) silence piece frame) found-again

  pub noise-again : noise_record (overlay lent 0 (bytes_of r)) ≡ noise_as (some r)
  unfolding noise_record
  noise-again = ap noise_as found-again
