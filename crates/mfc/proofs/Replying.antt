-- Replies by their numbers: each `return`. Assumes nothing.
use mathlib.Core.Path.{◌≡◌, refl, sym, ap, subst, ◌∙◌}
use mathlib.Core.Logic.{◌⊎◌, inl, inr, ⊎_elim}
use mathlib.Core.Bool.{Bool, true, false, cond, not, ◌||◌, true≢false}
use mathlib.Core.List.{List, [], ◌∷◌}
use mathlib.Core.Option.{Option, none}
use Prim.Native.Nat.{ℕ, ◌≤◌, ◌<◌}
use native.Mathlib.Omega.{arith}
use borrow.Author.Tests.{lt-ltb, le-ltb, eq-eqb, ne_eqb, ltb-true, ltb-false, eqb-true}
use lib.Dec.{ltb, eqb}
use Rattle.std.specs.Prelude.{Result, Ok, Err}
use Rattle.refusal.specs.Refusals.{Numbered, number, paper, Answered, refused, answered, answered_as, in_order}
use Rattle.refusal.specs.declared.Refusal.{Refusal}
use Rattle.refusal.specs.declared.Refusal.TheVariants.{OutOfRange}
use Rattle.refusal.specs.Room.{lay}
use Rattle.refusal.proofs.Deciding.{in_order_append}
use Rattle.sfc6.specs.declared.Request.{Request}
use Rattle.sfc6.specs.Commands.{row, request_at}
use Rattle.sfc6.specs.Requests.{request_checks, check_request, numbered}
use Rattle.sfc6.proofs.Order.{first_refuses, then_more, passes_or_refuses}
use Rattle.sfc6.proofs.Numbered.{numbered_refused, numbered_served, wide_refused}
use Rattle.replies.specs.declared.Reply.{Reply}
use Rattle.replies.specs.Replies.{reply_to, kind_of, content_of, out_of_range}
use Rattle.replies.specs.Reader.{Got, read_reply}
use Rattle.replies.specs.Writer.{write_checks, frame_for, frame_to_write, write_reply}
use Rattle.replies.proofs.Answers.{request_refused}
use Rattle.mfc.specs.declared.answers.MfcWritten.{MfcWritten}
use Rattle.mfc.specs.declared.answers.MfcReply.{MfcReply}
use Rattle.mfc.specs.Answers.{written}
use Rattle.mfc.specs.Answering.{reply_at, no_reply, write_answer, reply_in, read_answer}
use Rattle.mfc.specs.Private.{too_wide, refusal_of, write_known}

-- a value that is too wide is out of its reply's range
abbrev Wide : ℕ → ℕ → Type 0
Wide place n = (kind_of (reply_at place n) ≡ place) × (out_of_range (content_of (reply_at place n)) ≡ true)

wide_error : (n : ℕ) → 255 < n → (eqb n 0 || ltb 127 n) ≡ true
wide_error n h = go (eqb n 0) (lt-ltb 127 n (omega arith))
  where
    go : (t : Bool) → ltb 127 n ≡ true → (t || ltb 127 n) ≡ true
    go true e = refl
    go false e = e

wide_out : (place n : ℕ) → too_wide place n ≡ true → Wide place n
wide_out place n = go (eqb place 5) (eqb place 6) (eqb place 12) (eqb place 15) refl refl refl refl
  where
    at : (k : ℕ) → eqb place k ≡ true → Wide k n → Wide place n
    at k e w = subst (λ (p : ℕ). Wide p n) (sym (eqb-true place k e)) w

    go : (a b c d : Bool) → eqb place 5 ≡ a → eqb place 6 ≡ b → eqb place 12 ≡ c → eqb place 15 ≡ d
        → cond (a || b) (ltb 65535 n) (cond (c || d) (ltb 255 n) false) ≡ true → Wide place n
    go true b c d p q r s h = at 5 p (refl, h)
    go false true c d p q r s h = at 6 q (refl, h)
    go false false true d p q r s h = at 12 r (refl, lt-ltb 254 n (omega (arith, ltb-true 255 n h)))
    go false false false true p q r s h = at 15 s (refl, wide_error n (ltb-true 255 n h))
    go false false false false p q r s h = absurd (true≢false (sym h))

-- ---- why a reply cannot be said
module _ (address : ℕ) (request : Request) (place : ℕ) where
  abbrev foreign : Bool
  foreign = ltb 15 place || eqb address 255 || not (eqb place 15 || eqb place (kind_of (reply_to request 0)))

  abbrev more : List (Bool × Numbered)
  more = (foreign, number 14) ∷ (true, number 12) ∷ []

  module _ {c : Result (Unit {0}) Refusal} (is : answered_as (λ _. (address, request)) c ≡ check_request address request) where
    pub refused_first : {why : Refusal} → c ≡ Err why → refused (paper why) ≡ refusal_of address request place
    unfolding refusal_of check_request
    refused_first e =
        sym (first_refuses {A = ℕ × Request} {B = ℕ} (address, request) 0 more (request_checks address request) (sym is ∙ ap (answered_as (λ _. (address, request))) e))

    module _ (good : c ≡ Ok tt) where
      rest : refusal_of address request place ≡ cond {A = Answered ℕ} foreign (refused (number 14)) (refused (number 12))
      unfolding refusal_of check_request
      rest = then_more {A = ℕ × Request} {B = ℕ} (address, request) 0 more (request_checks address request) (sym is ∙ ap (answered_as (λ _. (address, request))) good)

      pub refused_above : 15 < place → refused (number 14) ≡ refusal_of address request place
      refused_above h = rw (rest, lt-ltb 15 place h)

      module _ (low : place ≤ 15) where
        pub refused_to_all : address ≡ 255 → refused (number 14) ≡ refusal_of address request place
        refused_to_all e = rw (rest, le-ltb 15 place low, eq-eqb address 255 e)

        module _ (one : address ≡ 255 → ⊥) where
          pub refused_error : place ≡ 15 → refused (number 12) ≡ refusal_of address request place
          refused_error h = rw (rest, le-ltb 15 place low, ne_eqb address 255 one, eq-eqb place 15 h)

          module _ (plain : place ≡ 15 → ⊥) {k : ℕ} (kind : k ≡ kind_of (reply_to request 0)) where
            pub refused_wide : place ≡ k → refused (number 12) ≡ refusal_of address request place
            refused_wide h = rw (rest, le-ltb 15 place low, ne_eqb address 255 one, ne_eqb place 15 plain, ← kind, eq-eqb place k h)

            pub refused_kind : (place ≡ k → ⊥) → refused (number 14) ≡ refusal_of address request place
            refused_kind h = rw (rest, le-ltb 15 place low, ne_eqb address 255 one, ne_eqb place 15 plain, ← kind, ne_eqb place k h)

-- ---- writing
-- a reply that can be said
pub sayable : (place w : ℕ) {t : Bool} → t ≡ (ltb 15 place || too_wide place w) → t ≡ false → (place ≤ 15) × (too_wide place w ≡ false)
sayable place w e h = go (ltb 15 place) refl (sym e ∙ h)
  where
    go : (x : Bool) → ltb 15 place ≡ x → (x || too_wide place w) ≡ false → (place ≤ 15) × (too_wide place w ≡ false)
    go true f g = absurd (true≢false g)
    go false f g = (ltb-false _ _ f, g)

module _ (address : ℕ) (q : Request) (place w : ℕ) (said : List ℕ) (bit7 : ℕ) (room : List ℕ) where
  abbrev reply : Reply
  reply = reply_at place w

  abbrev frame : List ℕ
  frame = frame_for address (row q).command (content_of reply) said (not (eqb bit7 0))

  -- where the request itself is refused, and where only 14 and 12 are left
  same_refusal : (t : Bool) (why : Refusal) → refused (paper why) ≡ cond {A = Answered ℕ} t (refused (number 14)) (refused (number 12))
      → cond {A = Answered (List ℕ)} t (refused (number 14)) (refused (number 12)) ≡ refused (paper why)
  same_refusal true why e = let z : paper why ≡ number 14 = cc in ap refused (sym z)
  same_refusal false why e = let z : paper why ≡ number 12 = cc in ap refused (sym z)

  above : (why : Refusal) → 15 < place → refused (paper why) ≡ refusal_of address q place → no_reply address q ≡ refused (paper why)
  unfolding refusal_of
  above why h f =
      in_order_append {A = ℕ} (request_checks address q) ((true, number 14) ∷ []) (more address q place) 0 (rw (lt-ltb 15 place h)) ∙ sym f

  wide : (why : Refusal) → place ≤ 15 → too_wide place w ≡ true → refused (paper why) ≡ refusal_of address q place
      → frame_to_write address q reply said (not (eqb bit7 0)) ≡ refused (paper why)
  unfolding refusal_of frame_to_write check_request
  wide why low on f =
      let o = wide_out place w on in
      let stops : in_order (write_checks address q reply said) frame ≡ cond {A = Answered (List ℕ)} (foreign address q place) (refused (number 14)) (refused (number 12)) =
      rw (o.0, o.1, le-ltb 15 place low) in
      ⊎_elim
      (λ passed.
      then_more {A = ℕ × Request} (address, q) frame (write_checks address q reply said) (request_checks address q) passed
      ∙ stops
      ∙ same_refusal (foreign address q place) why (f ∙ then_more {A = ℕ × Request} {B = ℕ} (address, q) 0 (more address q place) (request_checks address q) passed))
      (λ stopped.
      first_refuses {A = ℕ × Request} (address, q) frame (write_checks address q reply said) (request_checks address q) stopped.1
      ∙ ap refused (refused_same (sym (first_refuses {A = ℕ × Request} {B = ℕ} (address, q) 0 (more address q place) (request_checks address q) stopped.1) ∙ sym f)))
      (passes_or_refuses {A = ℕ × Request} (request_checks address q) (address, q))
    where
      refused_same : {m k : Numbered} → ◌≡◌ {A = Answered ℕ} (refused m) (refused k) → m ≡ k
      refused_same e = cc

  pub known_unsayable : {t : Bool} → t ≡ (ltb 15 place || too_wide place w) → t ≡ true → (why : Refusal) → refused (paper why) ≡ refusal_of address q place
      → (written (refused (paper why)), room) ≡ write_known address q place w said bit7 room
  unfolding write_known write_reply
  known_unsayable e on why f = go (ltb 15 place) refl (sym e ∙ on)
    where
      go : (x : Bool) → ltb 15 place ≡ x → (x || too_wide place w) ≡ true
          → (written (refused (paper why)), room)
          ≡ cond {A = MfcWritten × List ℕ} x (written (no_reply address q), room)
          (written (lay (frame_to_write address q reply said (not (eqb bit7 0))) room).0, (lay (frame_to_write address q reply said (not (eqb bit7 0))) room).1)
      go true h g = ap (λ (x : Answered ℕ). (written x, room)) (sym (above why (ltb-true _ _ h) f))
      go false h g = rw (wide why (ltb-false _ _ h) g f)

  pub known-said : place ≤ 15 → {said-reply : Reply} {answer : Answered ℕ} {after : List ℕ} → said-reply ≡ reply
      → (answer, after) ≡ write_reply address q said-reply said (not (eqb bit7 0)) room
      → (written answer, after) ≡ write_known address q place w said bit7 room
  unfolding write_known
  known-said low e f =
      rw (le-ltb 15 place low)
      (ap (λ (o : Answered ℕ × List ℕ). (written o.0, o.1)) (f ∙ ap (λ (x : Reply). write_reply address q x said (not (eqb bit7 0)) room) e))

-- a request that is refused by its number, and one that is not
module _ (address n v : ℕ) (t : Result Request Refusal) (is : answered t ≡ numbered n v) where
  told : {m : Refusal} → t ≡ Err m
      → ((ltb 20 n ≡ true) × (paper m ≡ number 11)) ⊎ ((ltb 20 n ≡ false) × (paper m ≡ number 12) × (check_request address (request_at n v) ≡ refused (number 12)))
  told {m} e =
      ⊎_elim inl (λ h. inr (h.0, h.1, wide_refused address n v h.2 h.3))
      (numbered_refused n v (paper m) (sym is ∙ ap answered e))

  named : {q : Request} → t ≡ Ok q → (ltb 20 n ≡ false) × (request_at n v ≡ q)
  named {q} e = numbered_served n v q (sym is ∙ ap answered e)

  module _ (place w : ℕ) (said : List ℕ) (bit7 : ℕ) (room : List ℕ) where
    pub write_refused : {why : Refusal} → t ≡ Err why → {result : MfcWritten} → result ≡ written (refused (paper why))
        → (result, room) ≡ write_answer address n v place w said bit7 room
    unfolding write_answer write_reply frame_to_write check_request
    write_refused {why} e r =
        let q = request_at n v in
        let reply = reply_at place w in
        ap (λ (x : MfcWritten). (x, room)) r
        ∙ ⊎_elim (λ h. rw (h.0, h.1))
        (λ h.
        rw (
          h.0,
          h.1,
          first_refuses {A = ℕ × Request} {B = ℕ} (address, q) 0 ((true, number 14) ∷ []) (request_checks address q) h.2,
          first_refuses {A = ℕ × Request} (address, q) (frame_for address (row q).command (content_of reply) said (not (eqb bit7 0))) (write_checks address q reply said) (request_checks address q) h.2,
        )
        (same (ltb 15 place)))
        (told e)
      where
        same : (t : Bool) → ◌≡◌ {A = MfcWritten × List ℕ} (written (refused (number 12)), room)
            (cond t (written (refused (number 12)), room) (written (refused (number 12)), room))
        same true = refl
        same false = refl

    pub write_known_lem : {q : Request} → t ≡ Ok q → {result : MfcWritten × List ℕ} → result ≡ write_known address q place w said bit7 room
        → result ≡ write_answer address n v place w said bit7 room
    unfolding write_answer write_known
    write_known_lem {q} e r = let k = named e in r ∙ rw (k.0, k.1)

  module _ (body : List ℕ) {result : MfcReply} where
    pub read_refused : {why : Refusal} → t ≡ Err why → result ≡ reply_in (refused (paper why), none) → result ≡ read_answer address n v body
    unfolding read_answer check_request
    read_refused {why} e r =
        let q = request_at n v in
        r
        ∙ ⊎_elim (λ h. rw (h.0, h.1))
        (λ h. rw (h.0, h.1) (ap reply_in (request_refused address q body {c = Err OutOfRange} (sym h.2) refl)))
        (told e)

    pub read_known : {q : Request} → t ≡ Ok q → {answer : Answered Got × Option Bool} → answer ≡ read_reply address q body
        → result ≡ reply_in answer → result ≡ read_answer address n v body
    unfolding read_answer
    read_known e f r = let k = named e in r ∙ ap reply_in f ∙ rw (k.0, k.1)

-- the request of the number given
pub asked : (request n place : ℕ) {t : Answered Request} → t ≡ numbered place n → place ≡ request → t ≡ numbered request n
asked request n place e p = e ∙ ap (λ (k : ℕ). numbered k n) p

-- the reply that a number names
pub reply-known : (place k n : ℕ) {r : Reply} → place ≡ k → r ≡ reply_at k n → r ≡ reply_at place n
reply-known place k n e h = h ∙ ap (λ (m : ℕ). reply_at m n) (sym e)
