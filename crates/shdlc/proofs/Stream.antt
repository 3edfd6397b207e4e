-- Laws of a stream: the place that it leaves, the items of a stream that goes on, and the one item of a frame that was written.
-- Assumes nothing.
use mathlib.Core.Path.{◌≡◌, refl, sym, ap, ◌∙◌}
use mathlib.Core.Bool.{Bool, false}
use mathlib.Core.List.{List, [], ◌∷◌, ◌++◌, map, append_assoc, append-nil}
use Prim.Native.Nat.{ℕ, ◌≤◌}
use native.Mathlib.Omega.{arith}
use lib.Dec.{eqb}
use lib.ListN.{length, length-append}
use Rattle.refusal.specs.Refusals.{Numbered, Answered, served, refused, in_order}
use Rattle.shdlc.specs.declared.Kind.{Kind}
use Rattle.shdlc.specs.Checksum.{checksum_of}
use Rattle.shdlc.specs.Stuffing.{stuff_byte, stuff, unstuff}
use Rattle.shdlc.specs.Body.{check_body}
use Rattle.shdlc.specs.Frame.{with_checksum, frame_of}
use Rattle.shdlc.specs.ReadBack.{Unbroken, closed}
use Rattle.shdlc.specs.Stream.{Event, byte, judge_body, judge, Place, inside, next_byte, next, gain, items_from, items}
use Rattle.refusal.proofs.Order.{passed, refused_not_served}
use Rattle.shdlc.specs.Body.{body_checks}
use Rattle.shdlc.proofs.Stuffing.{byte_short, each_byte, unstuff-stuff}
use Rattle.shdlc.proofs.Restuffed.{restuffed}

-- the place after a stream
unfoldable pub place_from : Place → List Event → Place
place_from place [] = place
place_from place (event ∷ events) = place_from (next place event) events

pub place_append : (es fs : List Event) (place : Place) → place_from place (es ++ fs) ≡ place_from (place_from place es) fs
unfolding place_from
place_append [] fs place = refl
place_append (e ∷ es) fs place = place_append es fs (next place e)

pub items-append : (kind : Kind) (es fs : List Event) (place : Place)
    → items_from kind place (es ++ fs) ≡ items_from kind place es ++ items_from kind (place_from place es) fs
unfolding items_from place_from
items-append kind [] fs place = refl
items-append kind (e ∷ es) fs place = rw (items-append kind es fs (next place e), append_assoc)

unbroken_append : (xs ys : List ℕ) → Unbroken xs → Unbroken ys → Unbroken (xs ++ ys)
unbroken_append [] ys h g = g
unbroken_append (x ∷ xs) ys h g = (h.0, unbroken_append xs ys h.1 g)

unbroken_byte : (b : ℕ) → Unbroken (stuff_byte b)
unfolding stuff_byte
unbroken_byte =
    each_byte (λ b. Unbroken (stuff_byte b)) (refl, (refl, tt)) (refl, (refl, tt)) (refl, (refl, tt)) (refl, (refl, tt))
    (λ b p q r s. rw (p, q, r, s) (p, tt))

pub unbroken_stuff : (bytes : List ℕ) → Unbroken (stuff bytes)
unfolding stuff
unbroken_stuff [] = tt
unbroken_stuff (b ∷ bytes) = unbroken_append (stuff_byte b) (stuff bytes) (unbroken_byte b) (unbroken_stuff bytes)

-- a byte other than 7E gives no item, and is one more of its stretch
gain_inside : (kind : Kind) (stretch : List ℕ) (b : ℕ) → eqb b 0x7E ≡ false → gain kind (inside stretch) (byte b) ≡ []
unfolding gain
gain_inside kind [] b h = refl
gain_inside kind (x ∷ stretch) b h = rw h

run_items : (kind : Kind) (bytes stretch : List ℕ) → Unbroken bytes → items_from kind (inside stretch) (map byte bytes) ≡ []
unfolding items_from next next_byte
run_items kind [] stretch h = refl
run_items kind (b ∷ bytes) stretch h = rw (gain_inside kind stretch b h.0, h.0) (run_items kind bytes (stretch ++ (b ∷ [])) h.1)

run_place : (bytes stretch : List ℕ) → Unbroken bytes → place_from (inside stretch) (map byte bytes) ≡ inside (stretch ++ bytes)
unfolding place_from next next_byte
run_place [] stretch h = ap inside (sym (append-nil stretch))
run_place (b ∷ bytes) stretch h =
    ap (λ (t : Bool). place_from (next_byte t b (inside stretch)) (map byte bytes)) h.0
    ∙ run_place bytes (stretch ++ (b ∷ [])) h.1
    ∙ ap inside (append_assoc stretch (b ∷ []) bytes)

closing : (kind : Kind) (stretch : List ℕ) → 1 ≤ length stretch → gain kind (inside stretch) (byte 0x7E) ≡ judge kind stretch ∷ []
unfolding gain
closing kind [] h = absurd (omega arith)
closing kind (b ∷ stretch) h = refl

pub map-append : (xs ys : List ℕ) → map byte (xs ++ ys) ≡ map byte xs ++ map byte ys
map-append [] ys = refl
map-append (x ∷ xs) ys = ap (λ (l : List Event). byte x ∷ l) (map-append xs ys)

stuffed_some : (bytes : List ℕ) → 1 ≤ length bytes → 1 ≤ length (stuff bytes)
unfolding stuff
stuffed_some [] h = omega arith
stuffed_some (b ∷ bytes) h = omega (arith, length-append (stuff_byte b) (stuff bytes), (byte_short b).0)

-- a frame on the wire has one item, that of its stretch
pub wire_items : (kind : Kind) (bytes : List ℕ) → 1 ≤ length bytes → items kind (map byte (closed (stuff bytes))) ≡ check_body kind bytes ∷ []
unfolding items items_from next next_byte gain judge judge_body
wire_items kind bytes h =
    let s = stuff bytes in
    let u = unbroken_stuff bytes in
    rw (map-append s (0x7E ∷ []), items-append kind (map byte s) (byte 0x7E ∷ []) (inside []), run_items kind s [] u, run_place s [] u, closing kind s (stuffed_some bytes h))
    (ap (λ (r : Answered (List ℕ)). judge_body kind r ∷ []) (unstuff-stuff bytes))

-- a frame that the writer wrote, where its body passes the checks
pub frame-items : (kind : Kind) (body : List ℕ) → check_body kind (with_checksum body) ≡ served (with_checksum body)
    → items kind (map byte (frame_of body)) ≡ served (with_checksum body) ∷ []
unfolding frame_of judge_body
frame-items kind body h =
    wire_items kind (with_checksum body) (omega (arith, length-append body (checksum_of body ∷ []))) ∙ ap (λ (r : Answered (List ℕ)). r ∷ []) h

-- a stretch between two 7E has one item
pub stretch_items : (kind : Kind) (s : List ℕ) → Unbroken s → 1 ≤ length s → items kind (map byte (closed s)) ≡ judge kind s ∷ []
unfolding items items_from next next_byte gain
stretch_items kind s u h =
    rw (map-append s (0x7E ∷ []), items-append kind (map byte s) (byte 0x7E ∷ []) (inside []), run_items kind s [] u, run_place s [] u, closing kind s h)

-- a body that is served is the one that was checked
served_body : (kind : Kind) (b body : List ℕ) → check_body kind b ≡ served body → b ≡ body
unfolding check_body
served_body kind b body e = go (body_checks kind b) e
  where
    go : (checks : List (Bool × Numbered)) → in_order checks b ≡ served body → b ≡ body
    go [] h = let z : b ≡ body = cc in z
    go (c ∷ cs) h = go cs (passed c.0 c.1 (in_order cs b) body h).1

judged : (kind : Kind) (u : Answered (List ℕ)) (body : List ℕ) → judge_body kind u ≡ served body → u ≡ served body
unfolding judge_body
judged kind (served b) body e = ap served (served_body kind b body e)
judged kind (refused n) body e = absurd (refused_not_served e)

-- a frame has one form on the wire: what is read of a stretch and stuffed again comes to the same bytes
pub one_wire : (kind : Kind) (s : List ℕ) → Unbroken s → (body : List ℕ) → items kind (map byte (closed s)) ≡ served body ∷ [] → s ≡ stuff body
unfolding judge items items_from next next_byte gain
one_wire kind [] u body e = let z : ◌≡◌ {A = ℕ} 0 1 = ap length e in absurd (omega arith)
one_wire kind (b ∷ s) u body e =
    let both : judge kind (b ∷ s) ∷ [] ≡ served body ∷ [] = sym (stretch_items kind (b ∷ s) u (omega arith)) ∙ e in
    let one : judge kind (b ∷ s) ≡ served body = cc in
    sym (restuffed 0 (b ∷ s) u body (judged kind (unstuff (b ∷ s)) body one))
