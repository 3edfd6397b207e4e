-- The ranges are tight: every record within them is left by some stream. Assumes nothing.
use Prim.Native.Nat.{ℕ, zero, suc, ◌+◌, ◌-◌, ◌≤◌, ◌<◌}
use native.Mathlib.Nat.{add-zero}
use native.Mathlib.Omega.{arith}
use native.Mathlib.Numerals.{add-one}
use mathlib.Core.Path.{◌≡◌, refl, sym, ap, subst, ◌∙◌}
use mathlib.Core.Bool.{Bool, true, false, ◌&&◌, false≢true}
use mathlib.Core.List.{List, [], ◌∷◌, ◌++◌, map}
use lib.Dec.{ltb, eqb}
use lib.ListN.{length, take, drop, set, replicate, length-set, length-replicate, take-append-drop}
use lib.Seq.{length-take-le}
use borrow.Author.Tests.{eqb-true, ltb-true, ltb-false}
use Rattle.refusal.specs.Room.{overlay}
use Rattle.refusal.proofs.Room.{overlay_nothing, set-overlay, overlay_then, overlay_all}
use Rattle.shdlc.specs.declared.Kind.{Kind}
use Rattle.shdlc.specs.Stuffing.{stuff_byte, stuff}
use Rattle.shdlc.specs.Stream.{Event, byte, mark}
use Rattle.shdlc.proofs.Stuffing.{each_byte}
use Rattle.shdlc.proofs.Stream.{map-append}
use Rattle.receiver.specs.declared.Mode.{Mode}
use Rattle.receiver.specs.declared.Mode.TheVariants.{Outside, Plain, Escaped, BadEscape, BareControl}
use Rattle.receiver.specs.Record.{Record, held, length_in_range, in_range, outside_of, fresh, Store, limited, pushed, acted, next_byte, next_record, record_from, record_of}
use Rattle.receiver.proofs.Cases.{range_size}
use Rattle.receiver.proofs.Turns.{in_stretch, store_room, store_full}
use Rattle.receiver.proofs.EverySeries.{record_append}

-- a byte as it is sent is stored
module _ (kind : Kind) (n noise : ℕ) (store : List ℕ) where
  abbrev Stores : ℕ → Type 0
  Stores b = record_from (in_stretch kind n noise store) (map byte (stuff_byte b)) ≡ acted (in_stretch kind n noise store) (Store b)

  same_push : (t : Bool) (b : ℕ)
      → pushed t (record { kind = kind; mode = Escaped; len = n; noise = noise; store = store }) b ≡ pushed t (in_stretch kind n noise store) b
  same_push true b = refl
  same_push false b = refl

  stores : (b : ℕ) → Stores b
  unfolding stuff_byte record_from next_record next_byte acted
  stores =
      each_byte Stores (same_push (ltb n 260) 0x7E) (same_push (ltb n 260) 0x7D) (same_push (ltb n 260) 0x11) (same_push (ltb n 260) 0x13)
      (λ b p q r s. simp (p, q, r, s))

-- bytes as they are sent are stored one after the other
stores_all : (kind : Kind) (bytes : List ℕ) (n noise : ℕ) (store : List ℕ) → length store ≡ 260 → n + length bytes ≤ 260
    → record_from (in_stretch kind n noise store) (map byte (stuff bytes)) ≡ in_stretch kind (n + length bytes) noise (overlay store n bytes)
unfolding stuff record_from
stores_all kind [] n noise store size fits = rw (add-zero, overlay_nothing)
stores_all kind (b ∷ bytes) n noise store size fits =
    let here : n < length store = omega arith in
    let more : n ≤ length store = omega arith in
    let kept : length (set store n b) ≡ 260 = rw length-set size in
    ap (record_from (in_stretch kind n noise store)) (map-append (stuff_byte b) (stuff bytes))
    ∙ record_append (map byte (stuff_byte b)) (map byte (stuff bytes)) (in_stretch kind n noise store)
    ∙ ap (λ (r : Record). record_from r (map byte (stuff bytes)))
    (stores kind n noise store b ∙ store_room (in_stretch kind n noise store) b (omega arith))
    ∙ stores_all kind bytes (n + 1) noise (set store n b) kept (omega arith)
    ∙ (let count : n + 1 + length bytes ≡ n + length (b ∷ bytes) = omega arith in
    let held : overlay (set store n b) (n + 1) bytes ≡ overlay store n (b ∷ bytes) =
    ap (λ (s : List ℕ). overlay s (n + 1) bytes) (set-overlay store n b here) ∙ overlay_then store n (b ∷ []) bytes (n + 1) more (omega arith) in
    λ i. in_stretch kind (count i) noise (held i))

record Left (kind : Kind) (r : Record) : Type 0 where
  stream : List Event
  is_left : record_of kind stream ≡ r

-- a stream that goes on
and_then : (kind : Kind) (r : Record) (more : List Event) → Left kind r → Left kind (record_from r more)
and_then kind r more l =
    record {
      stream = l.stream ++ more;
      is_left = record_append l.stream more (fresh kind) ∙ ap (λ (x : Record). record_from x more) l.is_left;
    }

-- any count of noise bytes up to the limit
abbrev heard : Kind → ℕ → Record
heard kind noise = held (outside_of kind noise) (replicate 260 0)

one-heard : (kind : Kind) (n : ℕ) → n < 4294967295 → record_from (heard kind n) (byte 0 ∷ []) ≡ heard kind (n + 1)
unfolding record_from next_record next_byte acted
one-heard kind n h = ap (heard kind) (let z : limited (n + 1) ≡ n + 1 = omega arith in z)

all_heard : (kind : Kind) (n : ℕ) → n ≤ 4294967295 → Left kind (heard kind n)
unfolding record_from
all_heard kind zero h = record { stream = []; is_left = refl }
all_heard kind (suc n) h =
    subst (λ (k : ℕ). Left kind (heard kind k)) (add-one n)
    (subst (Left kind) (one-heard kind n (omega arith)) (and_then kind (heard kind n) (byte 0 ∷ []) (all_heard kind n (omega arith))))

-- a 7E and some bytes after it
stretch : (kind : Kind) (r : Record) (bytes : List ℕ) → r.kind ≡ kind → length r.store ≡ 260 → length bytes ≤ 260
    → record_from r (byte 0x7E ∷ map byte (stuff bytes)) ≡ in_stretch kind (length bytes) r.noise (overlay r.store 0 bytes)
unfolding record_from next_record next_byte
stretch kind r bytes k size fits =
    ap (λ (x : Kind). record_from (in_stretch x 0 r.noise r.store) (map byte (stuff bytes))) k
    ∙ stores_all kind bytes 0 r.noise r.store size (omega arith)
    ∙ (let count : 0 + length bytes ≡ length bytes = omega arith in λ i. in_stretch kind (count i) r.noise (overlay r.store 0 bytes))

again : (store : List ℕ) (n : ℕ) → n ≤ length store → overlay store 0 (take n store) ≡ store
unfolding overlay
again store n h =
    let count : 0 + length (take n store) ≡ n = omega (arith, length-take-le n store h) in
    ap (λ (k : ℕ). take n store ++ drop k store) count ∙ take-append-drop n store

module _ (kind : Kind) (noise : ℕ) (few : noise ≤ 4294967295) (store : List ℕ) (size : length store ≡ 260) where
  -- any store
  filled : Left kind (in_stretch kind 260 noise store)
  filled =
      let zeros : List ℕ = replicate 260 0 in
      let z : length zeros ≡ 260 = length-replicate {A = ℕ} 260 0 in
      subst (Left kind)
      (stretch kind (heard kind noise) store refl z (omega arith)
      ∙ (λ i. in_stretch kind (size i) noise (overlay_all zeros store (size ∙ sym z) i)))
      (and_then kind (heard kind noise) (byte 0x7E ∷ map byte (stuff store)) (all_heard kind noise few))

  -- any length up to 260 in that store
  short : (n : ℕ) → n ≤ 260 → Left kind (in_stretch kind n noise store)
  short n h =
      let within : n ≤ length store = omega arith in
      let count : length (take n store) ≡ n = length-take-le n store within in
      subst (Left kind)
      (stretch kind (in_stretch kind 260 noise store) (take n store) refl size (omega arith)
      ∙ (λ i. in_stretch kind (count i) noise (again store n within i)))
      (and_then kind (in_stretch kind 260 noise store) (byte 0x7E ∷ map byte (stuff (take n store))) filled)

  -- and past 260, a byte at a time
  one_more : (n : ℕ) → 260 ≤ n → n < 65535 → record_from (in_stretch kind n noise store) (byte 0 ∷ []) ≡ in_stretch kind (n + 1) noise store
  unfolding record_from next_record next_byte stuff_byte
  one_more n h l = store_full (in_stretch kind n noise store) 0 h refl (omega arith)

  past : (n : ℕ) → 260 + n < 65536 → Left kind (in_stretch kind (260 + n) noise store)
  past zero h = filled
  past (suc n) h =
      let next : 260 + n + 1 ≡ 260 + suc n = omega arith in
      subst (λ (k : ℕ). Left kind (in_stretch kind k noise store)) next
      (subst (Left kind) (one_more (260 + n) (omega arith) (omega arith))
      (and_then kind (in_stretch kind (260 + n) noise store) (byte 0 ∷ []) (past n (omega arith))))

  any_length : (n : ℕ) → n < 65536 → Left kind (in_stretch kind n noise store)
  any_length n h = go (ltb n 261) refl
    where
      go : (t : Bool) → ltb n 261 ≡ t → Left kind (in_stretch kind n noise store)
      go true e = short n (omega (arith, ltb-true n 261 e))
      go false e =
          let l : 261 ≤ n = ltb-false n 261 e in
          let all : 260 + (n - 260) ≡ n = omega arith in
          subst (λ (m : ℕ). Left kind (in_stretch kind m noise store)) all (past (n - 260) (omega arith))

  -- and any mode
  any_mode : (m : Mode) (n : ℕ) → length_in_range m n ≡ true → Left kind (record { kind = kind; mode = m; len = n; noise = noise; store = store })
  unfolding record_from next_record next_byte acted
  any_mode Outside n h =
      let none : 0 ≡ n = sym (eqb-true n 0 h) in
      subst (λ (k : ℕ). Left kind (record { kind = kind; mode = Outside; len = k; noise = noise; store = store })) none
      (and_then kind (in_stretch kind 260 noise store) (mark ∷ []) filled)
  any_mode Plain n h = any_length n (ltb-true n 65536 h)
  any_mode Escaped n h = and_then kind (in_stretch kind n noise store) (byte 0x7D ∷ []) (any_length n (ltb-true n 65536 h))
  any_mode BadEscape n h = and_then kind (in_stretch kind n noise store) (byte 0x7D ∷ byte 0 ∷ []) (any_length n (ltb-true n 65536 h))
  any_mode BareControl n h = and_then kind (in_stretch kind n noise store) (byte 0x11 ∷ []) (any_length n (ltb-true n 65536 h))

both : (t u : Bool) → (t && u) ≡ true → (t ≡ true) × (u ≡ true)
both true u h = (refl, h)
both false u h = absurd (false≢true h)

pub reached : (r : Record) → in_range r ≡ true → (stream : List Event) × (record_of r.kind stream ≡ r)
reached r h =
    let ranges = (both (eqb (length r.store) 260) (ltb r.noise 4294967296 && length_in_range r.mode r.len) h).1 in
    let b = both (ltb r.noise 4294967296) (length_in_range r.mode r.len) ranges in
    let few : r.noise < 4294967296 = ltb-true _ _ b.0 in
    let l = any_mode r.kind r.noise (omega arith) r.store (range_size r h) r.mode r.len b.1 in
    (l.stream, l.is_left)
