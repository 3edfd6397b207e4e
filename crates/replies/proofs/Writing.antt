-- Writing a reply: each answer of the definition, from the tests that lead to it. Assumes nothing.
use mathlib.Core.Path.{◌≡◌, sym, ap, ◌∙◌}
use mathlib.Core.Bool.{Bool, true, false}
use mathlib.Core.List.{List}
use Prim.Native.Nat.{ℕ}
use borrow.Author.Tests.{eq-eqb, ne_eqb}
use Rattle.refusal.specs.declared.Refusal.{Refusal}
use Rattle.refusal.specs.Refusals.{number, Answered, refused, paper, in_order, answered_as}
use Rattle.std.specs.Prelude.{Result, Ok, Err}
use Rattle.refusal.specs.Room.{emit, lay}
use Rattle.sfc6.specs.declared.Request.{Request}
use Rattle.sfc6.specs.declared.Row.{Row}
use Rattle.sfc6.specs.Commands.{row}
use Rattle.sfc6.specs.Requests.{request_checks, check_request}
use Rattle.sfc6.proofs.Order.{first_refuses, then_more}
use Rattle.replies.specs.declared.Reply.{Reply}
use Rattle.replies.specs.declared.Content.{Content}
use Rattle.replies.specs.Replies.{suits, content_of, out_of_range, bad_float}
use Rattle.replies.specs.Writer.{bad_text, frame_for, write_checks, frame_to_write, write_reply}

-- the frame of a reply
abbrev pub frame : ℕ → Request → Reply → List ℕ → Bool → List ℕ
frame address q r text bit7 = frame_for address (row q).command (content_of r) text bit7

module _ (address : ℕ) (q : Request) (r : Reply) (text : List ℕ) (bit7 : Bool) (room : List ℕ)
    {c : Result (Unit {0}) Refusal} (is : answered_as (λ _. (address, q)) c ≡ check_request address q) where
  pub reply_refused : {why : Refusal} → c ≡ Err why → (refused (paper why), room) ≡ write_reply address q r text bit7 room
  unfolding write_reply frame_to_write check_request
  reply_refused e =
      sym (ap (λ (a : Answered (List ℕ)). lay a room)
      (first_refuses (address, q) (frame address q r text bit7) (write_checks address q r text) (request_checks address q) (sym is ∙ ap (answered_as (λ _. (address, q))) e)))

  module _ (good : c ≡ Ok tt) where
    rest : lay (in_order (write_checks address q r text) (frame address q r text bit7)) room ≡ write_reply address q r text bit7 room
    unfolding write_reply frame_to_write check_request
    rest =
        sym (ap (λ (a : Answered (List ℕ)). lay a room)
        (then_more (address, q) (frame address q r text bit7) (write_checks address q r text) (request_checks address q) (sym is ∙ ap (answered_as (λ _. (address, q))) good)))

    pub reply_to_all : address ≡ 255 → (refused (number 14), room) ≡ write_reply address q r text bit7 room
    reply_to_all h = simp (eq-eqb _ _ h) at rest

    module _ (one : address ≡ 255 → ⊥) {t : Bool} (suit : t ≡ suits q r) where
      pub other_kind : t ≡ false → (refused (number 14), room) ≡ write_reply address q r text bit7 room
      other_kind h = rw (ne_eqb _ _ one, ← suit, h) at rest

      module _ (suited : t ≡ true) {known : Content} (carried : known ≡ content_of r) {x : Bool} (range : x ≡ out_of_range known) where
        pub range_12 : x ≡ true → (refused (number 12), room) ≡ write_reply address q r text bit7 room
        range_12 h = rw (ne_eqb _ _ one, ← suit, suited, ← carried, ← range, h) at rest

        module _ (in_range_lem : x ≡ false) {y : Bool} (words : y ≡ bad_text known text) where
          pub text_12 : y ≡ true → (refused (number 12), room) ≡ write_reply address q r text bit7 room
          text_12 h = rw (ne_eqb _ _ one, ← suit, suited, ← carried, ← range, in_range_lem, ← words, h) at rest

          module _ (good_text : y ≡ false) {z : Bool} (float : z ≡ bad_float known) where
            pub float_13 : z ≡ true → (refused (number 13), room) ≡ write_reply address q r text bit7 room
            float_13 h = rw (ne_eqb _ _ one, ← suit, suited, ← carried, ← range, in_range_lem, ← words, good_text, ← float, h) at rest

            pub reply-laid : z ≡ false → {at_row : Row} → at_row ≡ row q → {o : Answered ℕ × List ℕ}
                → o ≡ emit (frame_for address at_row.command known text bit7) room → o ≡ write_reply address q r text bit7 room
            reply-laid h e f =
                f ∙ ap (λ (k : Row). emit (frame_for address k.command known text bit7) room) e
                ∙ (rw (ne_eqb _ _ one, ← suit, suited, ← carried, ← range, in_range_lem, ← words, good_text, ← float, h) at rest)

pub ruleset writing = (reply_refused, reply_to_all, other_kind, range_12, text_12, float_13, reply-laid)
