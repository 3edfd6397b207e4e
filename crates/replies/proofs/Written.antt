-- A reply that is written is read back. Assumes nothing.
use mathlib.Core.Path.{◌≡◌, refl, sym, ap, subst, ◌∙◌}
use mathlib.Core.Logic.{⊎_elim}
use mathlib.Core.Bool.{Bool, true, false, cond, not, ◌||◌}
use mathlib.Core.List.{List, [], ◌∷◌, ◌++◌, map, append_assoc}
use mathlib.Core.Option.{Option, some}
use Prim.Native.Nat.{ℕ, ◌+◌, ◌-◌, ◌%◌, ◌≤◌}
use native.Mathlib.Omega.{arith}
use lib.Dec.{eqb, ltb, leb}
use lib.ListN.{length, get_or, take, drop, length-append}
use lib.Seq.{take_at, take-append_seam}
use borrow.Author.Tests.{eq-eqb, ne_eqb, le-leb, lt-leb, eqb-true, eqb-false, not-false}
use Rattle.refusal.specs.Refusals.{Numbered, number, ◌carrying◌, Answered, served, refused, in_order}
use Rattle.refusal.specs.Room.{overlay, emit, lay}
use Rattle.refusal.proofs.Order.{passed}
use Rattle.shdlc.specs.declared.Kind.TheVariants as kind
use Rattle.std.specs.Prelude.{Ok}
use Rattle.shdlc.specs.Checksum.{checksum_of}
use Rattle.shdlc.specs.Body.{check_body}
use Rattle.shdlc.specs.Frame.{with_checksum}
use Rattle.shdlc.specs.Stream.{byte, items}
use Rattle.shdlc.proofs.Body.{good_body}
use Rattle.shdlc.proofs.Stream.{frame-items}
use Rattle.payload.specs.Field.{big}
use Rattle.sfc6.specs.declared.Request.{Request}
use Rattle.sfc6.specs.declared.Row.{Row}
use Rattle.sfc6.specs.Commands.{row}
use Rattle.sfc6.specs.Requests.{request_checks, check_request}
use Rattle.sfc6.proofs.Order.{never, first_refuses, then_more, passes_or_refuses, serves_it}
use Rattle.refusal.proofs.Room.{take-overlay}
use Rattle.replies.specs.declared.Reply.{Reply}
use Rattle.replies.specs.declared.Reply.TheVariants as reply
use Rattle.replies.specs.declared.Reply.TheVariants.{DeviceError}
use Rattle.replies.specs.declared.Content.{Content}
use Rattle.replies.specs.declared.Content.TheVariants.{Text}
use Rattle.replies.specs.Replies.{reply_to, kind_of, suits, content_of, out_of_range, bad_float}
use Rattle.replies.specs.Writer.{bad_text, data_of, code_of, state_of, body_of, frame_for, write_checks, frame_to_write, write_reply}
use Rattle.replies.specs.Reader.{code_in, bit7_in, length_in, data_in, size_of, is_size, foreign, Got, got_by, value_checks, with_bit7, read_reply}
use Rattle.replies.specs.ReadBack.{Fits, comes_back}
use Rattle.replies.proofs.Carried.{or_false, code_fits}
use Rattle.replies.proofs.Accepted.{data_short}
use Rattle.replies.proofs.Writing.{frame}
use Rattle.replies.proofs.Answers.{of_data, reply_15, data_read}
use Rattle.replies.proofs.Kept.{back}

-- ---- checks that pass
-- checks followed by more pass where both do
pub both_pass : {A B : Type 0} (a : A) (b : B) (checks more : List (Bool × Numbered)) {c : B} → in_order (checks ++ more) b ≡ served c
    → (in_order checks a ≡ served a) × (in_order more b ≡ served c)
both_pass a b checks more h =
    ⊎_elim (λ e. (e, sym (then_more a b more checks e) ∙ h)) (λ e. never (sym h ∙ first_refuses a b more checks e.1))
    (passes_or_refuses checks a)

-- what the writer's checks show
pub record Accepted (address : ℕ) (q : Request) (r : Reply) (words : List ℕ) : Type 0 where
  pub request_good : check_request address q ≡ served (address, q)
  pub one : eqb address 255 ≡ false
  pub suit : suits q r ≡ true
  pub in_range_lem : out_of_range (content_of r) ≡ false
  pub good_text : bad_text (content_of r) words ≡ false
  pub good_float : bad_float (content_of r) ≡ false

module _ (address : ℕ) (q : Request) (r : Reply) (words : List ℕ) (bit7 : Bool) where
  pub accepted : {f : List ℕ} → frame_to_write address q r words bit7 ≡ served f → Accepted address q r words × (frame address q r words bit7 ≡ f)
  unfolding frame_to_write check_request
  accepted {f} h =
      let p = both_pass {A = ℕ × Request} (address, q) (frame address q r words bit7) (request_checks address q) (write_checks address q r words) h in
      let c = content_of r in
      let end : Answered (List ℕ) = served (frame address q r words bit7) in
      let thirteen : Answered (List ℕ) = cond (bad_float c) (refused (number 13)) end in
      let twelve : Answered (List ℕ) = cond (out_of_range c || bad_text c words) (refused (number 12)) thirteen in
      let k = passed (eqb address 255 || not (suits q r)) (number 14) twelve f p.1 in
      let l = passed (out_of_range c || bad_text c words) (number 12) thirteen f k.1 in
      let m = passed (bad_float c) (number 13) end f l.1 in
      let o = or_false (eqb address 255) (not (suits q r)) k.0 in
      let s = or_false (out_of_range c) (bad_text c words) l.0 in (
        record {
          request_good = p.0;
          one = o.0;
          suit = not-false (suits q r) o.1;
          in_range_lem = s.0;
          good_text = s.1;
          good_float = m.0;
        },
        serves_it (request_checks address q ++ write_checks address q r words) (frame address q r words bit7) h,
      )

  -- and the other way
  pub to_write : Accepted address q r words → frame_to_write address q r words bit7 ≡ served (frame address q r words bit7)
  unfolding frame_to_write check_request
  to_write a =
      then_more (address, q) (frame address q r words bit7) (write_checks address q r words) (request_checks address q) a.request_good
      ∙ rw (a.one, a.suit, a.in_range_lem, a.good_text, a.good_float)

-- a writer that succeeds left its frame at the start of the room
pub emitted : (f room after : List ℕ) (n : ℕ) → emit f room ≡ (served n, after) → take n after ≡ f
unfolding emit
emitted f room after n = go (ltb (length room) (length f))
  where
    go : (t : Bool) → ◌≡◌ {A = Answered ℕ × List ℕ} (cond t (refused (number 1), room) (served (length f), overlay room 0 f)) (served n, after) → take n after ≡ f
    go true h = never (sym (ap (λ (o : Answered ℕ × List ℕ). o.0) h))
    go false h =
        let d : served (length f) ≡ served n = ap (λ (o : Answered ℕ × List ℕ). o.0) h in
        let e : length f ≡ n = cc in
        rw (← e, ← ap (λ (o : Answered ℕ × List ℕ). o.1) h) (take-overlay room f)

pub laid : (a : Answered (List ℕ)) (room after : List ℕ) (n : ℕ) → lay a room ≡ (served n, after) → (f : List ℕ) × (a ≡ served f) × (take n after ≡ f)
laid (refused m) room after n h = never (sym (ap (λ (o : Answered ℕ × List ℕ). o.0) h))
laid (served f) room after n h = (f, refl, emitted f room after n h)

-- ---- the state
code_of_state : (code : ℕ) (bit7 : Bool) → code ≤ 127 → (code + cond bit7 0x80 0) % 128 ≡ code
code_of_state code true h = omega arith
code_of_state code false h = omega arith

bit7_of_state : (code : ℕ) (bit7 : Bool) → code ≤ 127 → leb 0x80 (code + cond bit7 0x80 0) ≡ bit7
bit7_of_state code true h = le-leb 0x80 (code + 0x80) (omega arith)
bit7_of_state code false h = lt-leb 0x80 (code + 0) (omega arith)

-- ---- the body of a reply, as it is read
pub not-foreign : (address : ℕ) (r : Row) (body : List ℕ) → eqb address 255 ≡ false → get_or body 0 0 ≡ address → get_or body 1 0 ≡ r.command
    → cond (eqb (code_in body) 0) (not (is_size (size_of r.answer) (length_in body))) (not (eqb (length_in body) 0)) ≡ false
    → false ≡ foreign address r body
unfolding foreign
not-foreign address r body one e f h = rw (one, eq-eqb _ _ e, eq-eqb _ _ f, h)

-- a reply is an error answer, or it is none
data Sort (r : Reply) : Type 0 where
  error : (code : ℕ) → r ≡ DeviceError code → Sort r
  plain : code_of (content_of r) ≡ 0 → (kind_of r ≡ 15 → ⊥) → Sort r

sort : (r : Reply) → Sort r
sort reply.Acknowledged = plain refl (λ e. omega arith)
sort (reply.Setpoint x) = plain refl (λ e. omega arith)
sort (reply.MeasuredValue x) = plain refl (λ e. omega arith)
sort (reply.Gain x) = plain refl (λ e. omega arith)
sort (reply.InitStep x) = plain refl (λ e. omega arith)
sort (reply.RawFlow n) = plain refl (λ e. omega arith)
sort (reply.RawConductivity n) = plain refl (λ e. omega arith)
sort (reply.Temperature x) = plain refl (λ e. omega arith)
sort (reply.NumberOfCalibrations n) = plain refl (λ e. omega arith)
sort (reply.Validity v) = plain refl (λ e. omega arith)
sort (reply.FullScale x) = plain refl (λ e. omega arith)
sort (reply.Calibration n) = plain refl (λ e. omega arith)
sort (reply.Address a) = plain refl (λ e. omega arith)
sort (reply.Baud rate) = plain refl (λ e. omega arith)
sort reply.ProductType = plain refl (λ e. omega arith)
sort (reply.DeviceError code) = error code refl

first-words : (words payload rest : List ℕ) → payload ≡ words ++ (0 ∷ []) → take (length words) (payload ++ rest) ≡ words
first-words words payload rest e = rw (e, append_assoc) (take-append_seam words _)

-- an answer with bit 7 beside it
abbrev beside : Answered Got → Bool → Answered Got × Option Bool
beside answer bit7 = (answer, some bit7)

read_as : (q : Request) (r : Reply) (payload : List ℕ) (bit7 : Bool) {answer : Answered Got} → out_of_range (content_of r) ≡ false → bad_float (content_of r) ≡ false
    → reply_to q (big payload) ≡ r → served (got_by (size_of (row q).answer) q payload) ≡ answer
    → beside answer bit7 ≡ with_bit7 (in_order (value_checks (reply_to q (big payload))) (got_by (size_of (row q).answer) q payload)) bit7
read_as q r payload bit7 range float same is =
    let g = got_by (size_of (row q).answer) q payload in
    let e : in_order (value_checks (reply_to q (big payload))) g ≡ served g = ap (λ (y : Reply). in_order (value_checks y) g) same ∙ rw (range, float) in
    sym (ap (λ (x : Answered Got). with_bit7 x bit7) e ∙ ap (λ (x : Answered Got). beside x bit7) is)

module _ (address : ℕ) (q : Request) (r : Reply) (words : List ℕ) (bit7 : Bool) (a : Accepted address q r words) where
  abbrev payload : List ℕ
  payload = data_of (content_of r) words

  abbrev state : ℕ
  state = state_of (content_of r) bit7

  abbrev front : List ℕ
  front = body_of address (row q).command state payload

  abbrev pub body : List ℕ
  body = with_checksum front

  pub good : check_body kind.Reply body ≡ served body
  unfolding body_of
  good = good_body kind.Reply (address ∷ (row q).command ∷ state ∷ []) payload refl (data_short (content_of r) words a.good_text)

  pub data_there : data_in body ≡ payload
  unfolding body_of data_in
  data_there =
      let l = length-append payload (checksum_of front ∷ []) in
      let n : length payload ≡ length body - 5 = omega arith in
      take_at payload (checksum_of front ∷ []) _ n

  code_there : code_in body ≡ code_of (content_of r)
  unfolding body_of
  code_there = code_of_state (code_of (content_of r)) bit7 (code_fits (content_of r) a.in_range_lem)

  bit7_there : bit7_in body ≡ bit7
  unfolding body_of
  bit7_there = bit7_of_state (code_of (content_of r)) bit7 (code_fits (content_of r) a.in_range_lem)

  length_there : length_in body ≡ length payload
  unfolding body_of
  length_there = refl

  own : cond (eqb (code_in body) 0) (not (is_size (size_of (row q).answer) (length_in body))) (not (eqb (length_in body) 0)) ≡ false
      → false ≡ foreign address (row q) body
  unfolding body_of
  own h = not-foreign address (row q) body a.one refl refl h

  -- an error answer
  error_back : (code : ℕ) → r ≡ DeviceError code → read_reply address q body ≡ (refused (15 carrying code), some bit7)
  error_back code e =
      let c : code_of (content_of r) ≡ code = ap (λ (x : Reply). code_of (content_of x)) e in
      let range : (eqb code 0 || ltb 127 code) ≡ false = sym (ap (λ (x : Reply). out_of_range (content_of x)) e) ∙ a.in_range_lem in
      let some-code : code_in body ≡ 0 → ⊥ = λ z. eqb-false code 0 (or_false (eqb code 0) (ltb 127 code) range).0 (sym c ∙ sym code_there ∙ z) in
      let empty : length_in body ≡ 0 = length_there ∙ ap (λ (x : Reply). length (data_of (content_of x) words)) e in
      let f = own (rw (ne_eqb _ _ some-code, eq-eqb _ _ empty)) in
      sym (reply_15 address q body {c = Ok tt} (sym a.request_good) refl {d = Ok tt} (sym good) refl {r = row q} refl {x = false} f refl some-code)
      ∙ ap (λ (x : ℕ). beside (refused (15 carrying x)) (bit7_in body)) (code_there ∙ c)
      ∙ ap (beside (refused (15 carrying code))) bit7_there

  -- any other reply
  plain_back : Fits (content_of r) → code_of (content_of r) ≡ 0 → (kind_of r ≡ 15 → ⊥) → read_reply address q body ≡ (comes_back r words (content_of r), some bit7)
  unfolding body_of
  plain_back h c n =
      let kinds : kind_of (reply_to q 0) ≡ kind_of r = let s = a.suit in sym (eqb-true _ _ (rw (ne_eqb _ _ n) at s)) in
      let b = back q r words h a.good_float a.good_text n kinds in
      let no_code : code_in body ≡ 0 = code_there ∙ c in
      let fits : is_size (size_of (row q).answer) (length_in body) ≡ true = b.size in
      let f = own (rw (eq-eqb _ _ no_code, fits)) in
      let read : beside (comes_back r words (content_of r)) bit7 ≡ of_data q (row q).answer (data_in body) (bit7_in body) =
      subst (λ (t : Bool). beside (comes_back r words (content_of r)) bit7 ≡ of_data q (row q).answer (data_in body) t) (sym bit7_there)
      (read_as q r (data_in body) bit7 a.in_range_lem a.good_float (ap (λ (d : List ℕ). reply_to q (big d)) data_there ∙ b.same)
      (ap (λ (d : List ℕ). served (got_by (size_of (row q).answer) q d)) data_there ∙ b.got)) in
      sym (data_read address q body {c = Ok tt} (sym a.request_good) refl {d = Ok tt} (sym good) refl {r = row q} refl {x = false} f refl no_code read)

  pub reply-back : Fits (content_of r) → read_reply address q body ≡ (comes_back r words (content_of r), some bit7)
  reply-back h = go (sort r)
    where
      go : Sort r → read_reply address q body ≡ (comes_back r words (content_of r), some bit7)
      go (error code e) = error_back code e ∙ ap (λ (x : Reply). beside (comes_back x words (content_of x)) bit7) (sym e)
      go (plain c n) = plain_back h c n

  pub frame_there : items kind.Reply (map byte (frame address q r words bit7)) ≡ served body ∷ []
  unfolding frame_for
  frame_there = frame-items kind.Reply front good

  pub text_there : content_of r ≡ Text → take (length words) (drop 4 body) ≡ words
  unfolding body_of
  text_there e = first-words words payload (checksum_of front ∷ []) (ap (λ (c : Content). data_of c words) e)

pub written_read : (address : ℕ) (q : Request) (r : Reply) (words : List ℕ) (bit7 : Bool) → Fits (content_of r) → (room after : List ℕ) (n : ℕ)
    → write_reply address q r words bit7 room ≡ (served n, after)
    → (body : List ℕ)
    × (items kind.Reply (map byte (take n after)) ≡ served body ∷ [])
    × (read_reply address q body ≡ (comes_back r words (content_of r), some bit7))
    × (content_of r ≡ Text → take (length words) (drop 4 body) ≡ words)
unfolding write_reply
written_read address q r words bit7 h room after n e =
    let l = laid (frame_to_write address q r words bit7) room after n e in
    let a = accepted address q r words bit7 l.1 in (
      body address q r words bit7 a.0,
      ap (λ (bytes : List ℕ). items kind.Reply (map byte bytes)) (l.2 ∙ sym a.1) ∙ frame_there address q r words bit7 a.0,
      reply-back address q r words bit7 a.0 h,
      text_there address q r words bit7 a.0,
    )
