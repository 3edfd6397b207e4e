-- A body that is read and written again. Assumes nothing.
use mathlib.Core.Path.{◌≡◌, refl, sym, ap, subst, ◌∙◌}
use mathlib.Core.Logic.{⊎_elim}
use mathlib.Core.Bool.{Bool, true, false, cond, not, ◌||◌, ◌&&◌}
use mathlib.Core.List.{List, [], ◌∷◌, ◌++◌}
use mathlib.Core.Option.{Option, none, some}
use Prim.Native.Nat.{ℕ, suc, ◌+◌, ◌-◌, ◌%◌, ◌≤◌, ◌<◌}
use native.Mathlib.Omega.{arith}
use lib.Dec.{T, eqb, leb}
use lib.ListN.{length, get_or, take, drop, length-append, length-take, length-drop}
use lib.Seq.{take-take}
use borrow.Author.Tests.{lt-ltb, le-ltb, leb-true, leb-false, eqb-true, not-false}
use Rattle.refusal.specs.Refusals.{Numbered, number, ◌carrying◌, number_in, Answered, served, refused, in_order}
use Rattle.refusal.specs.Room.{emit, lay}
use Rattle.refusal.proofs.Order.{passed}
use Rattle.refusal.proofs.Deciding.{Without}
use Rattle.shdlc.specs.declared.Kind.TheVariants as kind
use Rattle.shdlc.specs.Body.{body_checks, check_body}
use Rattle.shdlc.specs.Frame.{with_checksum, frame_of}
use Rattle.shdlc.specs.Stuffing.{stuff}
use Rattle.shdlc.specs.ReadBack.{closed}
use Rattle.shdlc.proofs.Body.{Passes, passes, checked_body}
use Rattle.payload.specs.Field.{big, Bytes}
use Rattle.payload.proofs.Big.{take-bytes, drop-bytes}
use Rattle.sfc6.specs.declared.Request.{Request}
use Rattle.sfc6.specs.declared.Row.{Row}
use Rattle.sfc6.specs.Commands.{row, member}
use Rattle.sfc6.specs.Requests.{request_checks, check_request}
use Rattle.sfc6.specs.ReadBack.{Received}
use Rattle.sfc6.proofs.Rewritten.{received_body}
use Rattle.sfc6.proofs.Order.{first_refuses, then_more, passes_or_refuses}
use Rattle.replies.specs.declared.Reply.{Reply}
use Rattle.replies.specs.declared.Reply.TheVariants.{ProductType, DeviceError}
use Rattle.replies.specs.declared.Content.{Content}
use Rattle.replies.specs.declared.Content.TheVariants.{Text}
use Rattle.replies.specs.Replies.{reply_to, kind_of, suits, content_of, out_of_range, bad_float}
use Rattle.replies.specs.Writer.{bad_text, data_of, code_of, state_of, body_of, frame_for, write_checks, frame_to_write, write_reply}
use Rattle.replies.specs.Reader.{code_in, bit7_in, length_in, data_in, size_of, is_size, foreign, text_in, Got, value, text, got_by, value_checks, read_checks, answer_to, reported, read_reply}
use Rattle.replies.proofs.Carried.{or_false}
use Rattle.replies.proofs.Taking.{same_kind}
use Rattle.replies.proofs.Text.{text_clean, text_first, text_no_longer}
use Rattle.replies.proofs.Writing.{frame}
use Rattle.replies.proofs.Answers.{not_number, got, lengths}
use Rattle.replies.proofs.Table.{content_from, tabled}
use Rattle.replies.specs.ReadBack.{over_one}
use Rattle.replies.proofs.Kept.{empty, Again, again}
use Rattle.replies.proofs.Written.{Accepted, to_write}

nothing_said : {A : Type 0} {b : Bool} → none ≡ some b → A
nothing_said h = absurd (let z : ◌≡◌ {A = ℕ} 0 1 = cc in omega arith)

wrong : {A : Type 0} → true ≡ false → A
wrong h = absurd (subst T h tt)

-- ---- what is read with bit 7 beside it
said_bit7 : (a : Answered Got) (t b : Bool) → reported a t ≡ some b → t ≡ b
said_bit7 (served g) t b h = cc
said_bit7 (refused n) t b h = go (eqb (number_in n) 15) h
  where
    go : (x : Bool) → cond x (some t) none ≡ some b → t ≡ b
    go true h = cc
    go false h = nothing_said h

-- checks without the number 15 passed
past : {A : Type 0} (checks more : List (Bool × Numbered)) (a : A) (g : Got) (t b : Bool) → Without 15 checks
    → reported (in_order (checks ++ more) g) t ≡ some b → in_order checks a ≡ served a
past checks more a g t b w h =
    ⊎_elim (λ e. e)
    (λ e.
    let n = e.0 in
    let not-it = not_number 15 checks a w e.1 in
    let f : reported (refused n) t ≡ some b = ap (λ (x : Answered Got). reported x t) (sym (first_refuses a g more checks e.1)) ∙ h in
    nothing_said (rw not-it at f))
    (passes_or_refuses checks a)

past_14 : (x : Bool) (rest : Answered Got) (t b : Bool) → reported (cond x (refused (number 14)) rest) t ≡ some b → x ≡ false
past_14 true rest t b h = nothing_said h
past_14 false rest t b h = refl

-- what such a body shows
pub record Parts (address : ℕ) (q : Request) (body : List ℕ) (answer : Answered Got) (bit7 : Bool) : Type 0 where
  pub request_good : check_request address q ≡ served (address, q)
  pub checked : check_body kind.Reply body ≡ served body
  pub own : foreign address (row q) body ≡ false
  pub flag : bit7_in body ≡ bit7
  pub rest : cond (not (eqb (code_in body) 0) && eqb (length_in body) 0) (refused (15 carrying code_in body))
      (in_order (value_checks (reply_to q (big (data_in body)))) (got q body))
      ≡ answer

pub parts : (address : ℕ) (q : Request) (body : List ℕ) (answer : Answered Got) (bit7 : Bool) → read_reply address q body ≡ (answer, some bit7)
    → Parts address q body answer bit7
unfolding read_reply answer_to check_request check_body
parts address q body answer bit7 h =
    let g = got q body in
    let t = bit7_in body in
    let all = answer_to address q body in
    let e : all ≡ answer = ap (λ (o : Answered Got × Option Bool). o.0) h in
    let f : reported all t ≡ some bit7 = ap (λ (o : Answered Got × Option Bool). o.1) h in
    let more = body_checks kind.Reply body ++ read_checks address q body in
    let r = past {A = ℕ × Request} (request_checks address q) more (address, q) g t bit7 (refl, (refl, (refl, tt))) f in
    let one : all ≡ in_order more g = then_more {A = ℕ × Request} (address, q) g more (request_checks address q) r in
    let f₁ : reported (in_order more g) t ≡ some bit7 = ap (λ (x : Answered Got). reported x t) (sym one) ∙ f in
    let c = past (body_checks kind.Reply body) (read_checks address q body) body g t bit7 (refl, (refl, (refl, (refl, tt)))) f₁ in
    let two : in_order more g ≡ in_order (read_checks address q body) g = then_more body g (read_checks address q body) (body_checks kind.Reply body) c in
    let f₂ : reported (in_order (read_checks address q body) g) t ≡ some bit7 = ap (λ (x : Answered Got). reported x t) (sym two) ∙ f₁ in
    let o = past_14 (foreign address (row q) body) _ t bit7 f₂ in
    let three : in_order (read_checks address q body) g
    ≡ cond (not (eqb (code_in body) 0) && eqb (length_in body) 0) (refused (15 carrying code_in body)) (in_order (value_checks (reply_to q (big (data_in body)))) g) =
    rw o in
    record {
      request_good = r;
      checked = c;
      own = o;
      flag = said_bit7 all t bit7 f;
      rest = sym three ∙ sym two ∙ sym one ∙ e;
    }

-- ---- the parts of a body that belongs to its request
first_three : (a b c d : Bool) → (a || b || c || d) ≡ false → (a ≡ false) × (b ≡ false) × (c ≡ false)
first_three a b c d h =
    let p = or_false (a || b || c) d h in
    let q = or_false (a || b) c p.0 in
    let r = or_false a b q.0 in
    (r.0, r.1, q.1)

belongs : (address : ℕ) (r : Row) (body : List ℕ) → foreign address r body ≡ false
    → (eqb address 255 ≡ false) × (get_or body 0 0 ≡ address) × (get_or body 1 0 ≡ r.command)
unfolding foreign
belongs address r body h =
    let p = first_three (eqb address 255) (not (eqb (get_or body 0 0) address)) (not (eqb (get_or body 1 0) r.command)) _ h in
    (p.0, eqb-true _ _ (not-false _ p.1), eqb-true _ _ (not-false _ p.2))

-- the front of a body of five bytes or more
front : (b : List ℕ) → 5 ≤ length b → get_or b 0 0 ∷ get_or b 1 0 ∷ get_or b 2 0 ∷ get_or b 3 0 ∷ data_in b ≡ take (length b - 1) b
unfolding data_in
front [] h = absurd (omega arith)
front (x ∷ []) h = absurd (omega arith)
front (x ∷ y ∷ []) h = absurd (omega arith)
front (x ∷ y ∷ z ∷ []) h = absurd (omega arith)
front (x ∷ y ∷ z ∷ w ∷ rest) h =
    let e : length (x ∷ y ∷ z ∷ w ∷ rest) - 1 ≡ suc (suc (suc (suc (length (x ∷ y ∷ z ∷ w ∷ rest) - 5)))) = omega arith in
    rw e

state-again : (code state : ℕ) (bit7 : Bool) → state < 256 → state % 128 ≡ code → leb 0x80 state ≡ bit7 → code + cond bit7 0x80 0 ≡ state
state-again code state true h e f = let l : 0x80 ≤ state = leb-true _ _ f in omega arith
state-again code state false h e f = let l : state < 0x80 = leb-false _ _ f in omega arith

module _ (address : ℕ) (q : Request) (body : List ℕ) (bit7 : Bool) {answer : Answered Got} (p : Parts address q body answer bit7) where
  abbrev passed_body : Passes kind.Reply body
  passed_body = passes kind.Reply body p.checked

  payload-length : length (data_in body) ≡ length_in body
  unfolding data_in
  payload-length =
      omega (arith, length-take (length body - 5) (drop 4 body), length-drop 4 body, passed_body.length_right, passed_body.least)

  payload_short : length (data_in body) ≤ 255
  unfolding data_in
  payload_short =
      omega (arith, length-take (length body - 5) (drop 4 body), length-drop 4 body, passed_body.most, passed_body.least)

  payload-bytes : Bytes body → Bytes (data_in body)
  unfolding data_in
  payload-bytes b = take-bytes (length body - 5) (drop 4 body) (drop-bytes 4 body b)

  -- a reply with the same data and the same state is written as the same bytes
  same_bytes_lem : Bytes body → (r : Reply) (words room : List ℕ) → Accepted address q r words → data_of (content_of r) words ≡ data_in body
      → code_of (content_of r) ≡ code_in body → write_reply address q r words bit7 room ≡ emit (closed (stuff body)) room
  unfolding write_reply frame_for frame_of body_of
  same_bytes_lem b r words room a d c =
      let own = belongs address (row q) body p.own in
      let state : code_of (content_of r) + cond bit7 0x80 0 ≡ get_or body 2 0 = state-again _ (get_or body 2 0) bit7 (b 2) (sym c) p.flag in
      let size : length (data_of (content_of r) words) ≡ get_or body 3 0 = ap length d ∙ payload-length in
      let whole : body_of address (row q).command (state_of (content_of r) bit7) (data_of (content_of r) words) ≡ take (length body - 1) body =
      rw (state, size, d, ← own.1, ← own.2) (front body passed_body.least) in
      ap (λ (x : Answered (List ℕ)). lay x room) (to_write address q r words bit7 a)
      ∙ ap (λ (x : List ℕ). emit (closed (stuff x)) room) (ap with_checksum whole ∙ sym (checked_body kind.Reply body p.checked))

-- where the reply is served, the code is 0 and the length is the table's
settled : (x y z : Bool) → (not x && y) ≡ false → cond x (not z) (not y) ≡ false → (x ≡ true) × (z ≡ true)
settled true y z h g = (refl, not-false z g)
settled false y z h g = wrong (sym (not-false y g) ∙ h)

code_zero : (address : ℕ) (q : Request) (body : List ℕ) → (not (eqb (code_in body) 0) && eqb (length_in body) 0) ≡ false → foreign address (row q) body ≡ false
    → (code_in body ≡ 0) × (is_size (size_of (row q).answer) (length_in body) ≡ true)
code_zero address q body h f =
    let s = settled (eqb (code_in body) 0) (eqb (length_in body) 0) (is_size (size_of (row q).answer) (length_in body)) h (lengths address (row q) body f) in
    (eqb-true _ _ s.0, s.1)

-- what was got, by the table's length
got_value : (s : Option ℕ) (q : Request) (payload : List ℕ) (r : Reply) → got_by s q payload ≡ value r
    → (width : ℕ) × (s ≡ some width) × (reply_to q (big payload) ≡ r)
got_value none q payload r h = absurd (let z : ◌≡◌ {A = ℕ} 0 1 = cc in omega arith)
got_value (some width) q payload r h = (width, refl, cc)

got_text : (s : Option ℕ) (q : Request) (payload : List ℕ) (place n : ℕ) → got_by s q payload ≡ text place n
    → (s ≡ none) × (4 ≡ place) × (length (text_in payload) ≡ n)
got_text none q payload place n h = (refl, cc, cc)
got_text (some width) q payload place n h = absurd (let z : ◌≡◌ {A = ℕ} 0 1 = cc in omega arith)

-- what passed 15, 12 and 13
record Good (address : ℕ) (q : Request) (body : List ℕ) (g : Got) : Type 0 where
  no_code : code_in body ≡ 0
  size : is_size (size_of (row q).answer) (length_in body) ≡ true
  range : out_of_range (content_of (reply_to q (big (data_in body)))) ≡ false
  float : bad_float (content_of (reply_to q (big (data_in body)))) ≡ false
  it : got q body ≡ g

good : (address : ℕ) (q : Request) (body : List ℕ) (g : Got) (bit7 : Bool) → Parts address q body (served g) bit7 → Good address q body g
good address q body g bit7 p =
    let c = content_of (reply_to q (big (data_in body))) in
    let end : Answered Got = served (got q body) in
    let thirteen : Answered Got = cond (bad_float c) (refused (number 13)) end in
    let twelve : Answered Got = cond (out_of_range c) (refused (number 12)) thirteen in
    let k = passed (not (eqb (code_in body) 0) && eqb (length_in body) 0) (15 carrying code_in body) twelve g p.rest in
    let l = passed (out_of_range c) (number 12) thirteen g k.1 in
    let m = passed (bad_float c) (number 13) end g l.1 in
    let z = code_zero address q body k.0 p.own in
    let e : served (got q body) ≡ served g = m.1 in
    record { no_code = z.0; size = z.1; range = l.0; float = m.0; it = cc }

-- ---- a value
module _ (address : ℕ) (q : Request) (body : List ℕ) (b : Bytes body) (r : Reply) (bit7 : Bool) (h : read_reply address q body ≡ (served (value r), some bit7)) where
  shown : Parts address q body (served (value r)) bit7
  shown = parts address q body (served (value r)) bit7 h

  passing : Good address q body (value r)
  passing = good address q body (value r) bit7 shown

  sized : (width : ℕ) × (size_of (row q).answer ≡ some width) × (reply_to q (big (data_in body)) ≡ r)
  sized = got_value (size_of (row q).answer) q (data_in body) r passing.it

  pub value_carried : content_of r ≡ content_from (row q).answer (big (data_in body))
  value_carried = ap content_of (sym sized.2) ∙ (tabled q (big (data_in body))).carried

  float_fits : bad_float (content_of r) ≡ false
  float_fits = ap (λ (x : Reply). bad_float (content_of x)) (sym sized.2) ∙ passing.float

  data_again : (words : List ℕ) → Again (row q).answer (data_in body) words
  data_again words =
      let size : is_size (some sized.0) (length_in body) ≡ true = sym (ap (λ (s : Option ℕ). is_size s (length_in body)) sized.1) ∙ passing.size in
      again (row q).answer (data_in body) words sized.0 (payload-bytes address q body bit7 shown b) sized.1
      (payload-length address q body bit7 shown ∙ eqb-true _ _ size) (ap bad_float (sym value_carried) ∙ float_fits)

  pub value_accepted : (words : List ℕ) → Accepted address q r words
  value_accepted words = record {
    request_good = shown.request_good;
    one = (belongs address (row q) body shown.own).0;
    suit = same_kind q r (ap kind_of (sym sized.2) ∙ (tabled q (big (data_in body))).kind);
    in_range_lem = ap (λ (x : Reply). out_of_range (content_of x)) (sym sized.2) ∙ passing.range;
    good_text = ap (λ (x : Content). bad_text x words) value_carried ∙ (data_again words).free;
    good_float = float_fits;
  }

  value_again : over_one (content_of r) (data_in body) ≡ false → (words room : List ℕ)
      → write_reply address q r words bit7 room ≡ emit (closed (stuff body)) room
  value_again o words room =
      let w = data_again words in
      let same = w.same (ap (λ (x : Content). over_one x (data_in body)) (sym value_carried) ∙ o) in
      same_bytes_lem address q body bit7 shown b r words room (value_accepted words) (ap (λ (x : Content). data_of x words) value_carried ∙ same)
      (ap code_of value_carried ∙ w.no_code ∙ sym passing.no_code)

  pub value_written : (words room : List ℕ) → write_reply address q r words bit7 room ≡ emit (frame address q r words bit7) room
  unfolding write_reply
  value_written words room = ap (λ (x : Answered (List ℕ)). lay x room) (to_write address q r words bit7 (value_accepted words))

-- ---- an error answer
error_said : (x y : Bool) (code n : ℕ) (checks : List (Bool × Numbered)) (g : Got) → Without 15 checks
    → cond (not x && y) (refused (15 carrying n)) (in_order checks g) ≡ refused (15 carrying code) → (x ≡ false) × (y ≡ true) × (n ≡ code)
error_said true y code n checks g w h = wrong (not_number 15 checks g w h)
error_said false true code n checks g w h = (refl, refl, cc)
error_said false false code n checks g w h = wrong (not_number 15 checks g w h)

error_again : (address : ℕ) (q : Request) (body : List ℕ) → Bytes body → (code : ℕ) (bit7 : Bool)
    → read_reply address q body ≡ (refused (15 carrying code), some bit7) → (words room : List ℕ)
    → write_reply address q (DeviceError code) words bit7 room ≡ emit (closed (stuff body)) room
error_again address q body b code bit7 h words room =
    let p = parts address q body (refused (15 carrying code)) bit7 h in
    let s = error_said (eqb (code_in body) 0) (eqb (length_in body) 0) code (code_in body) (value_checks (reply_to q (big (data_in body)))) (got q body)
    (refl, (refl, tt)) p.rest in
    let e : code_in body ≡ code = s.2 in
    let none-there : length (data_in body) ≡ 0 = payload-length address q body bit7 p ∙ eqb-true _ _ s.1 in
    let small : code ≤ 127 = omega arith in
    let a : Accepted address q (DeviceError code) words = record {
      request_good = p.request_good;
      one = (belongs address (row q) body p.own).0;
      suit = refl;
      in_range_lem = rw (← e, s.0) (rw e (le-ltb 127 code small));
      good_text = refl;
      good_float = refl;
    } in
    same_bytes_lem address q body bit7 p b (DeviceError code) words room a (empty (data_in body) none-there) (sym e)

-- ---- a text
module _ (address : ℕ) (q : Request) (body : List ℕ) (place n : ℕ) (bit7 : Bool) (h : read_reply address q body ≡ (served (text place n), some bit7)) where
  abbrev p : Parts address q body (served (text place n)) bit7
  p = parts address q body (served (text place n)) bit7 h

  abbrev words : List ℕ
  words = take n (drop place body)

  pub found : (size_of (row q).answer ≡ none) × (4 ≡ place) × (length (text_in (data_in body)) ≡ n)
  found = got_text (size_of (row q).answer) q (data_in body) place n (good address q body (text place n) bit7 p).it

  -- the text stands at the place that is answered
  pub text_placed : words ≡ text_in (data_in body)
  unfolding data_in
  text_placed =
      let l : n ≤ length body - 5 =
      omega (arith, text_no_longer (take (length body - 5) (drop 4 body)), length-take (length body - 5) (drop 4 body), found.2) in
      rw (← found.1, ← take-take n (length body - 5) (drop 4 body) l, ← found.2) (text_first (take (length body - 5) (drop 4 body)))

  suit : suits q ProductType ≡ true
  suit = same_kind q ProductType (sym ((tabled q 0).text found.0))

  pub length-words : length words ≡ n
  length-words = ap length text_placed ∙ found.2

  text_accepted : n ≤ 254 → Accepted address q ProductType words
  text_accepted l =
      let e = length-words in
      let clean : member 0 words ≡ false = ap (member 0) text_placed ∙ text_clean (data_in body) in
      record {
        request_good = p.request_good;
        one = (belongs address (row q) body p.own).0;
        suit = suit;
        in_range_lem = refl;
        good_text = rw (le-ltb 254 (length words) (omega arith)) clean;
        good_float = refl;
      }

  pub text_again : (room : List ℕ) → n ≤ 254
      → write_reply address q ProductType words bit7 room ≡ emit (frame_for address (row q).command Text (text_in (data_in body)) bit7) room
  unfolding write_reply
  text_again room l =
      ap (λ (x : Answered (List ℕ)). lay x room) (to_write address q ProductType words bit7 (text_accepted l))
      ∙ ap (λ (x : List ℕ). emit (frame_for address (row q).command Text x bit7) room) text_placed

  pub text_too_long : (room : List ℕ) → 254 < n → write_reply address q ProductType words bit7 room ≡ (refused (number 12), room)
  unfolding write_reply frame_to_write check_request
  text_too_long room l =
      let e = length-words in
      let o = (belongs address (row q) body p.own).0 in
      let f = frame address q ProductType words bit7 in
      let stopped : in_order (write_checks address q ProductType words) f ≡ refused (number 12) = rw (o, suit, lt-ltb 254 (length words) (omega arith)) in
      ap (λ (x : Answered (List ℕ)). lay x room)
      (then_more {A = ℕ × Request} (address, q) f (write_checks address q ProductType words) (request_checks address q) p.request_good ∙ stopped)

  whole_text_again : Bytes body → data_in body ≡ text_in (data_in body) ++ (0 ∷ []) → (room : List ℕ)
      → write_reply address q ProductType words bit7 room ≡ emit (closed (stuff body)) room
  whole_text_again b e room =
      let l : n ≤ 254 =
      omega (arith, ap length e, length-append (text_in (data_in body)) (0 ∷ []), payload_short address q body bit7 p, found.2) in
      let d : words ++ (0 ∷ []) ≡ data_in body = ap (λ (x : List ℕ). x ++ (0 ∷ [])) text_placed ∙ sym e in
      same_bytes_lem address q body bit7 p b ProductType words room (text_accepted l) d (sym (good address q body (text place n) bit7 p).no_code)

-- ---- the same from the wire on
module _ (stretch body : List ℕ) (r : Received kind.Reply stretch body) where
  wire_again : (room : List ℕ) {written : Answered ℕ × List ℕ} → (Bytes body → written ≡ emit (closed (stuff body)) room) → written ≡ emit (closed stretch) room
  wire_again room e =
      let is = received_body kind.Reply stretch body r in
      e is.1 ∙ ap (λ (s : List ℕ). emit (closed s) room) (sym is.0)

  pub value_from_wire : (address : ℕ) (q : Request) (reply : Reply) (bit7 : Bool) → read_reply address q body ≡ (served (value reply), some bit7)
      → over_one (content_of reply) (data_in body) ≡ false → (words room : List ℕ) → write_reply address q reply words bit7 room ≡ emit (closed stretch) room
  value_from_wire address q reply bit7 h o words room = wire_again room (λ b. value_again address q body b reply bit7 h o words room)

  pub error_from_wire : (address : ℕ) (q : Request) (code : ℕ) (bit7 : Bool) → read_reply address q body ≡ (refused (15 carrying code), some bit7)
      → (words room : List ℕ) → write_reply address q (DeviceError code) words bit7 room ≡ emit (closed stretch) room
  error_from_wire address q code bit7 h words room = wire_again room (λ b. error_again address q body b code bit7 h words room)

  pub text_from_wire : (address : ℕ) (q : Request) (place n : ℕ) (bit7 : Bool) → read_reply address q body ≡ (served (text place n), some bit7)
      → data_in body ≡ text_in (data_in body) ++ (0 ∷ []) → (room : List ℕ)
      → write_reply address q ProductType (take n (drop place body)) bit7 room ≡ emit (closed stretch) room
  text_from_wire address q place n bit7 h e room = wire_again room (λ b. whole_text_again address q body place n bit7 h b e room)
