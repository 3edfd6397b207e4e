-- Laws of the checks of a body. Assumes nothing.
use mathlib.Core.Path.{◌≡◌, refl, sym, ap, ◌∙◌}
use mathlib.Core.Bool.{Bool, true, false, not}
use mathlib.Core.List.{List, [], ◌∷◌, ◌++◌, append_assoc}
use Prim.Native.Nat.{ℕ, suc, ◌+◌, ◌-◌, ◌%◌, ◌≤◌, ◌<◌}
use native.Mathlib.Omega.{arith}
use lib.Dec.{ltb, eqb}
use borrow.Author.Tests.{lt-ltb, le-ltb, eq-eqb, ne_eqb, ltb-false, eqb-true}
use lib.ListN.{length, get_or, take, length-append}
use lib.Seq.{take_at, get_or_at, take_all, take-suc}
use Rattle.refusal.specs.Refusals.{number, served, refused, in_order}
use Rattle.refusal.proofs.Order.{passed}
use Rattle.shdlc.specs.declared.Kind.{Kind}
use Rattle.shdlc.specs.declared.Kind.TheVariants.{Request, Reply}
use Rattle.shdlc.specs.Checksum.{checksum_of}
use Rattle.shdlc.specs.Body.{shortest, longest, length_place, check_body}
use Rattle.shdlc.specs.Frame.{with_checksum}

-- a sum modulo 256, taken byte by byte
pub sum_step : (s b t : ℕ) → ((s + b) % 256 + t) % 256 ≡ (s + (b + t)) % 256
sum_step s b t = omega arith

pub length_place_lem : (kind : Kind) → length_place kind ≡ shortest kind - 2
length_place_lem Request = refl
length_place_lem Reply = refl

pub shortest_is : (kind : Kind) → (4 ≤ shortest kind) × (longest kind ≡ shortest kind + 255)
shortest_is Request = (omega arith, refl)
shortest_is Reply = (omega arith, refl)

-- the answers of the checks, in the order of the tests
module _ (kind : Kind) (body : List ℕ) where
  pub body_long : longest kind < length body → check_body kind body ≡ refused (number 5)
  unfolding check_body
  body_long h = rw (lt-ltb _ _ h)

  module _ (most : length body ≤ longest kind) where
    pub body_short : length body < shortest kind → check_body kind body ≡ refused (number 6)
    unfolding check_body
    body_short h = rw (le-ltb _ _ most, lt-ltb _ _ h)

    module _ (least : shortest kind ≤ length body) where
      -- L, then the checksum
      pub body_wrong_length : (get_or body (length_place kind) 0 ≡ length body - shortest kind → ⊥) → check_body kind body ≡ refused (number 7)
      unfolding check_body
      body_wrong_length l = rw (le-ltb _ _ most, le-ltb _ _ least, ne_eqb _ _ l)

      pub body_wrong_sum : get_or body (length_place kind) 0 ≡ length body - shortest kind
          → (get_or body (length body - 1) 0 ≡ checksum_of (take (length body - 1) body) → ⊥) → check_body kind body ≡ refused (number 8)
      unfolding check_body
      body_wrong_sum l h = rw (le-ltb _ _ most, le-ltb _ _ least, eq-eqb _ _ l, ne_eqb _ _ h)

      pub body_good : get_or body (length_place kind) 0 ≡ length body - shortest kind
          → get_or body (length body - 1) 0 ≡ checksum_of (take (length body - 1) body) → check_body kind body ≡ served body
      unfolding check_body
      body_good l h = rw (le-ltb _ _ most, le-ltb _ _ least, eq-eqb _ _ l, eq-eqb _ _ h)

-- the refusal of a wrong L, by what the code reads and tests
pub length_refused : (kind : Kind) (body : List ℕ) (least l : ℕ) → least ≡ shortest kind → l ≡ get_or body (least - 2) 0
    → length body ≤ longest kind → shortest kind ≤ length body → (l ≡ length body - least → ⊥) → refused (number 7) ≡ check_body kind body
length_refused kind body least l e f most short wrong =
    let at : get_or body (length_place kind) 0 ≡ l = rw (length_place_lem, ← e) (sym f) in
    sym (body_wrong_length kind body most short (λ h. wrong (sym at ∙ h ∙ ap (λ (k : ℕ). length body - k) (sym e))))

-- a body as it is written, with its checksum: `front` is what stands before L, two bytes of a request, three of a reply
module _ (kind : Kind) (front payload : List ℕ) (before : length front ≡ length_place kind) (short : length payload ≤ 255) where
  abbrev body : List ℕ
  body = front ++ (length payload ∷ payload)

  pub good_length : length (with_checksum body) ≡ length payload + shortest kind
  good_length =
      let l = length-append body (checksum_of body ∷ []) in
      let m = length-append front (length payload ∷ payload) in
      omega (arith, length_place_lem kind, shortest_is kind)

  pub good_body : check_body kind (with_checksum body) ≡ served (with_checksum body)
  good_body =
      let l = good_length in
      let m = length-append front (length payload ∷ payload) in
      let s = shortest_is kind in
      let last : length body ≡ length (with_checksum body) - 1 = omega (arith, length-append body (checksum_of body ∷ [])) in
      let field : get_or (with_checksum body) (length_place kind) 0 ≡ length payload =
      rw append_assoc (get_or_at front (length payload) (payload ++ (checksum_of body ∷ [])) 0 (length_place kind) before) in
      body_good kind (with_checksum body) (omega arith) (omega arith) (omega arith)
      (get_or_at body (checksum_of body) [] 0 _ last ∙ ap checksum_of (sym (take_at body (checksum_of body ∷ []) _ last)))

not_false : (t : Bool) → not t ≡ false → t ≡ true
not_false true h = refl
not_false false h = sym h

-- what a body that passes its checks shows
pub record Passes (kind : Kind) (b : List ℕ) : Type 0 where
  pub most : length b ≤ longest kind
  pub least : shortest kind ≤ length b
  pub length_right : get_or b (length_place kind) 0 ≡ length b - shortest kind
  pub sum_right : get_or b (length b - 1) 0 ≡ checksum_of (take (length b - 1) b)

pub passes : (kind : Kind) (b : List ℕ) → check_body kind b ≡ served b → Passes kind b
unfolding check_body
passes kind b h =
    go (ltb (longest kind) (length b)) (ltb (length b) (shortest kind)) (eqb (get_or b (length_place kind) 0) (length b - shortest kind))
    (eqb (get_or b (length b - 1) 0) (checksum_of (take (length b - 1) b))) refl refl refl refl h
  where
    go : (x y z w : Bool) → ltb (longest kind) (length b) ≡ x → ltb (length b) (shortest kind) ≡ y
        → eqb (get_or b (length_place kind) 0) (length b - shortest kind) ≡ z
        → eqb (get_or b (length b - 1) 0) (checksum_of (take (length b - 1) b)) ≡ w
        → in_order ((x, number 5) ∷ (y, number 6) ∷ (not z, number 7) ∷ (not w, number 8) ∷ []) b ≡ served b → Passes kind b
    go x y z w p q r s e =
        let long = passed x (number 5) (in_order ((y, number 6) ∷ (not z, number 7) ∷ (not w, number 8) ∷ []) b) b e in
        let short = passed y (number 6) (in_order ((not z, number 7) ∷ (not w, number 8) ∷ []) b) b long.1 in
        let wrong-length = passed (not z) (number 7) (in_order ((not w, number 8) ∷ []) b) b short.1 in
        let wrong-sum = passed (not w) (number 8) (served b) b wrong-length.1 in
        record {
          most = ltb-false _ _ (p ∙ long.0);
          least = ltb-false _ _ (q ∙ short.0);
          length_right = eqb-true _ _ (r ∙ not_false z wrong-length.0);
          sum_right = eqb-true _ _ (s ∙ not_false w wrong-sum.0);
        }

-- a body that passes its checks is what stands before its checksum, with that checksum
pub checked_body : (kind : Kind) (b : List ℕ) → check_body kind b ≡ served b → b ≡ with_checksum (take (length b - 1) b)
checked_body kind b h =
    let n = length b - 1 in
    let is = passes kind b h in
    let inside : n < length b = omega (arith, shortest_is kind) in
    let whole : length b ≤ suc n = omega arith in
    sym (take_all (suc n) b whole) ∙ take-suc b n 0 inside ∙ ap (λ (x : ℕ). take n b ++ (x ∷ [])) is.sum_right
