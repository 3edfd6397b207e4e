-- The record counts the noise bytes of its stream, up to the limit. Assumes nothing.
use Prim.Native.Nat.{ℕ, ◌+◌}
use native.Mathlib.Nat.{add-zero, add_assoc}
use native.Mathlib.Omega.{arith}
use mathlib.Core.Path.{◌≡◌, refl, sym, ap, subst, ◌∙◌}
use mathlib.Core.Bool.{Bool, true, false, cond}
use mathlib.Core.List.{List, [], ◌∷◌}
use mathlib.Core.Option.{Option, none, some}
use lib.Dec.{ltb, eqb}
use Rattle.shdlc.specs.declared.Kind.{Kind}
use Rattle.shdlc.specs.Stuffing.{escapes, left_of, is_control}
use Rattle.shdlc.specs.Stream.{Event, byte, mark, Place, outside, inside, next, noise_in, noise_from, noise}
use Rattle.shdlc.proofs.Noise.{delimiter, no_byte}
use Rattle.receiver.specs.declared.Mode.{Mode}
use Rattle.receiver.specs.declared.Mode.TheVariants.{Outside, Plain, Escaped, BadEscape, BareControl}
use Rattle.receiver.specs.Record.{Record, fresh, Act, Store, Become, Discard, limited, unescape, act_of, pushed, acted, opened, next_byte, next_record, record_from, record_of}
use Rattle.receiver.proofs.Simulation.{progress, start, Inside, inside_mode, At, at_next, at-fresh}

-- an act adds so many to the count, up to the limit
abbrev Counted : Act → ℕ → Type 0
Counted a k = (r : Record) (n : ℕ) → r.noise ≡ limited n → (acted r a).noise ≡ limited (n + k)

counted_store : (b : ℕ) → Counted (Store b) 0
unfolding acted
counted_store b r n h = go (ltb r.len 260) ∙ h ∙ ap limited (sym (add-zero n))
  where
    go : (t : Bool) → (pushed t r b).noise ≡ r.noise
    go true = refl
    go false = refl

counted_become : (m : Mode) → Counted (Become m) 0
unfolding acted
counted_become m r n h = h ∙ ap limited (sym (add-zero n))

counted_discard : Counted Discard 1
unfolding acted
counted_discard r n h = omega arith

counted_plain : (t u : Bool) (b : ℕ) → Counted (cond t (Become Escaped) (cond u (Become BareControl) (Store b))) 0
counted_plain true u b = counted_become Escaped
counted_plain false true b = counted_become BareControl
counted_plain false false b = counted_store b

counted_escaped : (o : Option ℕ) → Counted (unescape o) 0
counted_escaped none = counted_become BadEscape
counted_escaped (some b) = counted_store b

counted_inside : (m : Mode) (b : ℕ) → Inside m → Counted (act_of m b) 0
counted_inside Outside b h = absurd h
counted_inside Plain b h = counted_plain (eqb b 0x7D) (is_control b) b
counted_inside Escaped b h = counted_escaped (left_of escapes b)
counted_inside BadEscape b h = counted_become BadEscape
counted_inside BareControl b h = counted_become BareControl

-- a byte other than 7E in the mode that a place has
at_act : (kind : Kind) (place : Place) (r : Record) (b : ℕ) → At kind place r → eqb b 0x7E ≡ false
    → Counted (act_of r.mode b) (noise_in place (byte b))
unfolding noise_in
at_act kind outside r b h e = rw e (subst (λ (m : Mode). Counted (act_of m b) 1) (sym h.2) counted_discard)
at_act kind (inside s) r b h e = subst (λ (m : Mode). Counted (act_of m b) 0) (sym h.1.mode) (counted_inside (progress start s).mode b (inside_mode s))

at-noise : (kind : Kind) (place : Place) (r : Record) (event : Event) (n : ℕ) → At kind place r → r.noise ≡ limited n
    → (next_record r event).noise ≡ limited (n + noise_in place event)
unfolding next_record next_byte
at-noise kind place r (byte b) n h e = go (eqb b 0x7E) refl
  where
    go : (t : Bool) → eqb b 0x7E ≡ t → (cond t (opened r) (acted r (act_of r.mode b))).noise ≡ limited (n + noise_in place (byte b))
    go true q = e ∙ ap limited (sym (ap (λ (k : ℕ). n + k) (delimiter place b q) ∙ add-zero n))
    go false q = at_act kind place r b h q r n e
at-noise kind place r mark n h e = e ∙ ap limited (sym (ap (λ (k : ℕ). n + k) (no_byte place) ∙ add-zero n))

noise_record_lem : (kind : Kind) (es : List Event) (place : Place) (r : Record) (n : ℕ) → At kind place r → r.noise ≡ limited n
    → (record_from r es).noise ≡ limited (n + noise_from place es)
unfolding record_from noise_from
noise_record_lem kind [] place r n h e = e ∙ ap limited (sym (add-zero n))
noise_record_lem kind (event ∷ es) place r n h e =
    noise_record_lem kind es (next place event) (next_record r event) (n + noise_in place event) (at_next kind place r event h) (at-noise kind place r event n h e)
    ∙ ap limited (add_assoc n (noise_in place event) (noise_from (next place event) es))

pub noise_stream : (kind : Kind) (stream : List Event) → (record_of kind stream).noise ≡ limited (noise stream)
unfolding noise
noise_stream kind stream = noise_record_lem kind stream outside (fresh kind) 0 (at-fresh kind) refl ∙ ap limited (let z : 0 + noise_from outside stream ≡ noise_from outside stream = omega arith in z)
