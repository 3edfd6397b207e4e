-- Reading a reply: each answer of the definition, from the tests that lead to it. Assumes nothing.
use mathlib.Core.Path.{◌≡◌, refl, sym, ap, subst, ◌∙◌}
use mathlib.Core.Bool.{Bool, true, false, cond, not, ◌||◌}
use mathlib.Core.List.{List, [], ◌∷◌, ◌++◌}
use mathlib.Core.Option.{Option, none, some}
use Prim.Native.Nat.{ℕ, ◌-◌, ◌≤◌}
use native.Mathlib.Omega.{arith}
use lib.Dec.{T, eqb}
use lib.ListN.{length, get_or, take, drop, length-take, length-drop}
use borrow.Author.Tests.{eq-eqb, ne_eqb, not-false}
use Rattle.refusal.specs.declared.Refusal.{Refusal}
use Rattle.refusal.proofs.Deciding.{Without}
use Rattle.refusal.specs.Refusals.{Numbered, number, ◌carrying◌, number_in, Answered, served, refused, paper, in_order, answered_as}
use Rattle.shdlc.specs.declared.Kind.TheVariants as kind
use Rattle.std.specs.Prelude.{Result, Ok, Err}
use Rattle.shdlc.specs.Body.{body_checks, check_body}
use Rattle.shdlc.proofs.Body.{passes}
use Rattle.payload.specs.Field.{big}
use Rattle.sfc6.specs.declared.Request.{Request}
use Rattle.sfc6.specs.declared.Row.{Row}
use Rattle.sfc6.specs.declared.Answer.{Answer}
use Rattle.sfc6.specs.declared.Answer.TheVariants as answer
use Rattle.sfc6.specs.Commands.{row}
use Rattle.sfc6.specs.Requests.{request_checks, check_request}
use Rattle.sfc6.proofs.Order.{never, first_refuses, then_more}
use Rattle.replies.specs.declared.Content.TheVariants as content
use Rattle.replies.specs.Replies.{reply_to, content_of}
use Rattle.replies.specs.Reader.{code_in, bit7_in, length_in, data_in, size_of, is_size, foreign, text_in, Got, text, got_by, value_checks, read_checks, answer_to, with_bit7, read_reply}
use Rattle.replies.proofs.Table.{content_from, tabled}

-- ---- the data, their length settled
abbrev pub of_data : Request → Answer → List ℕ → Bool → Answered Got × Option Bool
of_data q a payload bit7 = with_bit7 (in_order (value_checks (reply_to q (big payload))) (got_by (size_of a) q payload)) bit7

module _ (q : Request) (a : Answer) (payload : List ℕ) (bit7 : Bool) where
  pub text_read : (n : ℕ) → a ≡ answer.Text → a ≡ (row q).answer → n ≡ length (text_in payload) → (served (text 4 n), some bit7) ≡ of_data q a payload bit7
  unfolding content_from
  text_read n is e f =
      let c : content_of (reply_to q (big payload)) ≡ content.Text = (tabled q (big payload)).carried ∙ ap (λ (x : Answer). content_from x (big payload)) (sym e ∙ is) in
      rw (c, is, f)

-- the data as they are lent
data_lent : (body : List ℕ) → take (length body - 1 - 4) (drop 4 body) ≡ data_in body
unfolding data_in
data_lent body =
    let m : length body - 1 - 4 ≡ length body - 5 = omega arith in
    ap (λ (n : ℕ). take n (drop 4 body)) m

pub lent_read : (q : Request) (a : Answer) (body : List ℕ) (bit7 : Bool) {o : Answered Got × Option Bool}
    → o ≡ of_data q a (take (length body - 1 - 4) (drop 4 body)) bit7 → o ≡ of_data q a (data_in body) bit7
lent_read q a body bit7 e = e ∙ ap (λ (d : List ℕ). of_data q a d bit7) (data_lent body)

-- ---- the whole
-- no number of these checks is k
pub not_number : {A : Type 0} (k : ℕ) (checks : List (Bool × Numbered)) (a : A) {n : Numbered} → Without k checks → in_order checks a ≡ refused n
    → eqb (number_in n) k ≡ false
not_number k [] a h e = never e
not_number k (check ∷ checks) a {n} h e = go check.0 (not_number k checks a h.1) e
  where
    go : (t : Bool) → (in_order checks a ≡ refused n → eqb (number_in n) k ≡ false) → cond t (refused check.1) (in_order checks a) ≡ refused n → eqb (number_in n) k ≡ false
    go true on e = let f : check.1 ≡ n = cc in subst (λ (m : Numbered). eqb (number_in m) k ≡ false) f h.0
    go false on e = on e

last_false : (a b c d : Bool) → (a || b || c || d) ≡ false → d ≡ false
last_false true b c d h = absurd (subst T h tt)
last_false false true c d h = absurd (subst T h tt)
last_false false false true d h = absurd (subst T h tt)
last_false false false false d h = h

-- what the last test of 14 says of a reply that belongs to its request
pub lengths : (address : ℕ) (r : Row) (body : List ℕ) → foreign address r body ≡ false
    → cond (eqb (code_in body) 0) (not (is_size (size_of r.answer) (length_in body))) (not (eqb (length_in body) 0)) ≡ false
unfolding foreign
lengths address r body h = last_false (eqb address 255) (not (eqb (get_or body 0 0) address)) (not (eqb (get_or body 1 0) r.command)) _ h

abbrev pub got : Request → List ℕ → Got
got q body = got_by (size_of (row q).answer) q (data_in body)

module _ (address : ℕ) (q : Request) (body : List ℕ) where
  -- what is refused with another number than 15 comes without bit 7
  bare : (n : Numbered) → eqb (number_in n) 15 ≡ false → answer_to address q body ≡ refused n → (refused n, none) ≡ read_reply address q body
  unfolding read_reply
  bare n h e = rw (e, h)

  module _ {c : Result (Unit {0}) Refusal} (is : answered_as (λ _. (address, q)) c ≡ check_request address q) where
    pub request_refused : {why : Refusal} → c ≡ Err why → (refused (paper why), none) ≡ read_reply address q body
    unfolding check_request answer_to
    request_refused {why} e =
        let f = sym is ∙ ap (answered_as (λ _. (address, q))) e in
        bare (paper why) (not_number 15 (request_checks address q) (address, q) (refl, (refl, (refl, tt))) f)
        (first_refuses (address, q) (got q body) (body_checks kind.Reply body ++ read_checks address q body) (request_checks address q) f)

    module _ (good : c ≡ Ok tt) where
      past_request : answer_to address q body ≡ in_order (body_checks kind.Reply body ++ read_checks address q body) (got q body)
      unfolding check_request answer_to
      past_request =
          then_more (address, q) (got q body) (body_checks kind.Reply body ++ read_checks address q body) (request_checks address q)
          (sym is ∙ ap (answered_as (λ _. (address, q))) good)

      module _ {d : Result (Unit {0}) Refusal} (body_is : answered_as (λ _. body) d ≡ check_body kind.Reply body) where
        pub body_refused : {why : Refusal} → d ≡ Err why → (refused (paper why), none) ≡ read_reply address q body
        unfolding check_body
        body_refused {why} e =
            let f = sym body_is ∙ ap (answered_as (λ _. body)) e in
            bare (paper why) (not_number 15 (body_checks kind.Reply body) body (refl, (refl, (refl, (refl, tt)))) f)
            (past_request ∙ first_refuses body (got q body) (read_checks address q body) (body_checks kind.Reply body) f)

        module _ (good_body : d ≡ Ok tt) where
          past_body : answer_to address q body ≡ in_order (read_checks address q body) (got q body)
          unfolding check_body
          past_body =
              past_request
              ∙ then_more body (got q body) (read_checks address q body) (body_checks kind.Reply body) (sym body_is ∙ ap (answered_as (λ _. body)) good_body)

          pub body_bounds : (5 ≤ length body) × (get_or body 3 0 ≡ length body - 5)
          body_bounds = let p = passes kind.Reply body (sym body_is ∙ ap (answered_as (λ _. body)) good_body) in (p.least, p.length_right)

          module _ {r : Row} (at_row : r ≡ row q) {x : Bool} (belongs : x ≡ foreign address r body) where
            pub reply_14 : x ≡ true → (refused (number 14), none) ≡ read_reply address q body
            reply_14 h = bare (number 14) refl (past_body ∙ rw (← at_row, ← belongs, h))

            module _ (own : x ≡ false) where
              pub reply_15 : (code_in body ≡ 0 → ⊥) → (refused (15 carrying code_in body), some (bit7_in body)) ≡ read_reply address q body
              unfolding read_reply
              reply_15 h =
                  let k = lengths address r body (sym belongs ∙ own) in
                  let l : eqb (length_in body) 0 ≡ true = not-false _ (rw (ne_eqb _ _ h) at k) in
                  let e : answer_to address q body ≡ refused (15 carrying code_in body) = past_body ∙ rw (← at_row, ← belongs, own, ne_eqb _ _ h, l) in
                  rw e

              module _ (no_error : code_in body ≡ 0) where
                pub size_settled : is_size (size_of r.answer) (length (take (length body - 1 - 4) (drop 4 body))) ≡ true
                size_settled =
                    let k = lengths address r body (sym belongs ∙ own) in
                    let l : is_size (size_of r.answer) (length_in body) ≡ true = not-false _ (rw (eq-eqb _ _ no_error) at k) in
                    let n : length (take (length body - 1 - 4) (drop 4 body)) ≡ length_in body =
                    omega (arith, length-take (length body - 1 - 4) (drop 4 body), length-drop 4 body, body_bounds.1) in
                    rw n l

                pub data_read : {o : Answered Got × Option Bool} → o ≡ of_data q r.answer (data_in body) (bit7_in body) → o ≡ read_reply address q body
                unfolding read_reply
                data_read f =
                    let e : answer_to address q body ≡ in_order (value_checks (reply_to q (big (data_in body)))) (got_by (size_of r.answer) q (data_in body)) =
                    past_body ∙ rw (← at_row, ← belongs, own, eq-eqb _ _ no_error) in
                    rw e f

pub ruleset reading = (request_refused, body_refused, reply_14, reply_15)
