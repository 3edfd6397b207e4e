-- The record's length for a body of any size, which past 260 bytes counts those received, and the place of a fault. Assumes nothing.
use Prim.Native.Nat.{ℕ, ◌+◌, ◌-◌, ◌≤◌, ◌<◌, min}
use native.Mathlib.Omega.{arith}
use mathlib.Core.Path.{◌≡◌, refl, sym, ap, subst, ◌∙◌}
use mathlib.Core.Bool.{Bool, true, false, cond, ◌||◌, false≢true}
use mathlib.Core.List.{List, [], ◌∷◌, ◌++◌}
use mathlib.Core.Option.{none, some}
use borrow.Author.Tests.{ltb-true, ltb-false, ne_eqb}
use lib.Dec.{ltb, eqb}
use lib.ListN.{length, take, drop, length-append, length-take, length-drop, take-append-drop}
use lib.Seq.{take_all, drop-append-le}
use Rattle.refusal.proofs.Rest.{rest_end}
use Rattle.shdlc.specs.Stuffing.{stuff_byte, stuff, reported_place}
use Rattle.shdlc.proofs.Stuffing.{stuff-append, stuff-one, stuff_long}
use Rattle.receiver.specs.declared.Mode.{Mode}
use Rattle.receiver.specs.declared.Mode.TheVariants.{Outside, Plain, Escaped, BadEscape, BareControl}
use Rattle.receiver.specs.Record.{Act, Store, Become, Discard, unescape, act_of, place_in}

-- how many bytes the part of a body past 260 was sent as
abbrev pub beyond : List ℕ → ℕ
beyond body = length (stuff (drop 260 body))

abbrev pub length_for : List ℕ → ℕ
length_for body = min (min (length body) 260 + beyond body) 65535

pub beyond_none : (body : List ℕ) → length body ≤ 260 → beyond body ≡ 0
unfolding stuff
beyond_none body h = rw (rest_end body 260 h)

pub beyond_some : (body : List ℕ) → length body ≤ 260 + beyond body
beyond_some body = omega (arith, length-drop 260 body, stuff_long (drop 260 body))

pub beyond-more : (body : List ℕ) (b : ℕ) → 260 ≤ length body → beyond (body ++ (b ∷ [])) ≡ beyond body + length (stuff_byte b)
beyond-more body b h =
    rw (drop-append-le 260 body (b ∷ []) h, stuff-append (drop 260 body) (b ∷ []), stuff-one b) (length-append (stuff (drop 260 body)) (stuff_byte b))

pub stuffed_more : (body : List ℕ) (b : ℕ) → length (stuff (body ++ (b ∷ []))) ≡ length (stuff body) + length (stuff_byte b)
stuffed_more body b = rw (stuff-append body (b ∷ []), stuff-one b) (length-append (stuff body) (stuff_byte b))

-- the bytes received before a fault are what the body so far was sent as
pub same_place : (n : ℕ) (store body : List ℕ) → n ≡ length_for body → take n store ≡ take 260 body
    → place_in n store ≡ reported_place (length (stuff body))
unfolding place_in
same_place n store body len kept = rw kept (go (ltb 260 (length body)) refl)
  where
    parts : length (stuff body) ≡ length (stuff (take 260 body)) + beyond body
    parts =
        ap (λ (s : List ℕ). length (stuff s)) (sym (take-append-drop 260 body))
        ∙ ap length (stuff-append (take 260 body) (drop 260 body))
        ∙ length-append (stuff (take 260 body)) (stuff (drop 260 body))

    go : (t : Bool) → ltb 260 (length body) ≡ t
        → reported_place (length (stuff (take 260 body)) + (n - 260)) ≡ reported_place (length (stuff body))
    go true e =
        let l : 260 < length body = ltb-true _ _ e in
        omega (arith, len, parts, stuff_long (take 260 body), length-take 260 body)
    go false e =
        let l : length body ≤ 260 = ltb-false _ _ e in
        omega (arith, len, parts, beyond_none body l)

-- how many bytes a byte of the body came as
abbrev pub came_as : Mode → ℕ
came_as Outside = 1
came_as Plain = 1
came_as Escaped = 2
came_as BadEscape = 1
came_as BareControl = 1

-- a byte that is stored came as it would be sent
abbrev pub Sent : Mode → Act → Type 0
Sent m (Store b) = length (stuff_byte b) ≡ came_as m
Sent m (Become n) = Unit {0}
Sent m Discard = Unit {0}

pub sent_plain : (x y z w : Bool) (b : ℕ) → eqb b 0x7E ≡ x → eqb b 0x7D ≡ y → eqb b 0x11 ≡ z → eqb b 0x13 ≡ w → x ≡ false
    → Sent Plain (cond y (Become Escaped) (cond (z || w) (Become BareControl) (Store b)))
unfolding stuff_byte
sent_plain true y z w b p q r s h = absurd (false≢true (sym h))
sent_plain false true z w b p q r s h = tt
sent_plain false false true w b p q r s h = tt
sent_plain false false false true b p q r s h = tt
sent_plain false false false false b p q r s h = simp (p, q, r, s)

pub sent_escaped : (x y z w : Bool)
    → Sent Escaped (unescape (cond x (some 0x7E) (cond y (some 0x7D) (cond z (some 0x11) (cond w (some 0x13) none)))))
unfolding stuff_byte
sent_escaped true y z w = refl
sent_escaped false true z w = refl
sent_escaped false false true w = refl
sent_escaped false false false true = refl
sent_escaped false false false false = tt

pub act_sent : (m : Mode) (b : ℕ) → eqb b 0x7E ≡ false → Sent m (act_of m b)
act_sent Outside b h = tt
act_sent Plain b h = sent_plain (eqb b 0x7E) (eqb b 0x7D) (eqb b 0x11) (eqb b 0x13) b refl refl refl refl h
act_sent Escaped b h = sent_escaped (eqb b 0x5E) (eqb b 0x5D) (eqb b 0x31) (eqb b 0x33)
act_sent BadEscape b h = tt
act_sent BareControl b h = tt

-- the same of a mode that is known by an equation
pub came_as_lem : (m : Mode) (b v : ℕ) {k : Mode} → (b ≡ 0x7E → ⊥) → m ≡ k → act_of m b ≡ Store v → length (stuff_byte v) ≡ came_as k
came_as_lem m b v no_end is p = subst (Sent m) p (act_sent m b (ne_eqb b 0x7E no_end)) ∙ ap came_as is

-- the place by the length: what is stored of so many, and those past 260
module _ (n : ℕ) (store : List ℕ) (size : length store ≡ 260) where
  same_kept : take (min n 260) store ≡ take n store
  same_kept = go (ltb n 260) refl
    where
      go : (t : Bool) → ltb n 260 ≡ t → take (min n 260) store ≡ take n store
      go true e =
          let l : n < 260 = ltb-true n 260 e in
          let k : min n 260 ≡ n = omega arith in
          ap (λ (m : ℕ). take m store) k
      go false e =
          let l : 260 ≤ n = ltb-false n 260 e in
          take_all (min n 260) store (omega arith) ∙ sym (take_all n store (omega arith))

  pub place_kept : min (length (stuff (take (min n 260) store)) + (n - min n 260)) 65535 ≡ place_in n store
  unfolding place_in
  place_kept = let is = ap (λ (l : List ℕ). length (stuff l)) same_kept in omega arith
