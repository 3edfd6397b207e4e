-- 02 (ii): a validity byte over 1, and what is read, written and read again. Assumes nothing.
use mathlib.Core.Path.{◌≡◌, refl, sym, ap, subst, ◌∙◌}
use mathlib.Core.Bool.{Bool, true, false, cond, not}
use mathlib.Core.List.{List, [], ◌∷◌, map}
use mathlib.Core.Option.{some}
use Prim.Native.Nat.{ℕ, ◌%◌, ◌<◌}
use native.Mathlib.Omega.{arith}
use lib.Dec.{eqb, leb}
use lib.ListN.{length, take}
use borrow.Author.Tests.{eq-eqb, ne_eqb}
use Rattle.refusal.specs.Refusals.{served}
use Rattle.refusal.specs.Room.{emit}
use Rattle.shdlc.specs.declared.Kind.TheVariants as kind
use Rattle.std.specs.Prelude.{Ok}
use Rattle.shdlc.specs.Body.{check_body}
use Rattle.shdlc.specs.Frame.{with_checksum}
use Rattle.shdlc.specs.Stream.{byte, items}
use Rattle.shdlc.specs.ReadBack.{closed}
use Rattle.shdlc.proofs.Body.{good_body}
use Rattle.payload.specs.Field.{big, big_endian, Bytes}
use Rattle.payload.proofs.Big.{big_of_big_endian, big-one}
use Rattle.sfc6.specs.declared.Request.{Request}
use Rattle.sfc6.specs.declared.Request.TheVariants as ask
use Rattle.sfc6.specs.Commands.{row}
use Rattle.sfc6.specs.Requests.{check_request}
use Rattle.sfc6.specs.ReadBack.{Received}
use Rattle.sfc6.proofs.Rewritten.{received_body}
use Rattle.replies.specs.declared.Reply.{Reply}
use Rattle.replies.specs.declared.Reply.TheVariants as say
use Rattle.replies.specs.declared.Content.{Content}
use Rattle.replies.specs.declared.Content.TheVariants.{Validity}
use Rattle.replies.specs.Replies.{validity_of, content_of}
use Rattle.replies.specs.Writer.{data_of, body_of, frame_for, write_reply}
use Rattle.replies.specs.Reader.{bit7_in, data_in, foreign, Got, value, text, read_reply}
use Rattle.replies.specs.ReadBack.{Fits, comes_back, over_one, reply_of, Beside}
use Rattle.replies.proofs.Answers.{of_data, data_read}
use Rattle.replies.proofs.Kept.{over-one_yes}
use Rattle.replies.proofs.Written.{emitted, written_read, not-foreign, frame_there, data_there}
use Rattle.replies.proofs.Written as back
use Rattle.replies.proofs.Rewritten.{value_carried, value_accepted, value_written, value_from_wire, found, length-words}

-- ---- a byte over 1, from the wire on
module _ (stretch body : List ℕ) (received : Received kind.Reply stretch body) (address : ℕ) (q : Request) (reply : Reply) (bit7 : Bool)
    (h : read_reply address q body ≡ (served (value reply), some bit7)) where
  bytes : Bytes body
  bytes = (received_body kind.Reply stretch body received).1

  over-one : over_one (content_of reply) (data_in body) ≡ true → (content_of reply ≡ Validity true) × (1 < big (data_in body))
  over-one o =
      let c = value_carried address q body bytes reply bit7 h in
      let y = over-one_yes (row q).answer (data_in body) (ap (λ (x : Content). over_one x (data_in body)) (sym c) ∙ o) in
      (c ∙ y.0, y.1)

  -- were the bytes the same, so would be the data
  other-bytes : (words : List ℕ) → content_of reply ≡ Validity true → 1 < big (data_in body)
      → frame_for address (row q).command (content_of reply) words bit7 ≡ closed stretch → ⊥
  other-bytes words valid over e =
      let a = value_accepted address q body bytes reply bit7 h words in
      let f : served (back.body address q reply words bit7 a) ∷ [] ≡ served body ∷ [] =
      sym (frame_there address q reply words bit7 a) ∙ ap (λ (sent : List ℕ). items kind.Reply (map byte sent)) e ∙ received.2 in
      let same : back.body address q reply words bit7 a ≡ body = cc in
      let d : data_in body ≡ big_endian 1 1 =
      ap data_in (sym same) ∙ data_there address q reply words bit7 a ∙ ap (λ (x : Content). data_of x words) valid in
      let n : big (data_in body) ≡ 1 = ap big d ∙ big_of_big_endian 1 1 (omega arith) in
      omega (arith, n, over)

  pub over-one-from_wire : over_one (content_of reply) (data_in body) ≡ true
      → (content_of reply ≡ Validity true)
      × ((words room : List ℕ) → write_reply address q reply words bit7 room ≡ emit (frame_for address (row q).command (Validity true) words bit7) room)
      × ((words : List ℕ) → frame_for address (row q).command (Validity true) words bit7 ≡ closed stretch → ⊥)
  over-one-from_wire o =
      let y = over-one o in
      let frame : List ℕ → Content → List ℕ = λ words c. frame_for address (row q).command c words bit7 in (
        y.0,
        λ words room.
            value_written address q body bytes reply bit7 h words room
            ∙ ap (λ (c : Content). emit (frame words c) room) y.0,
        λ words e. other-bytes words y.0 y.1 (ap (frame words) y.0 ∙ e),
      )

-- ---- read, written and read again
module _ (stretch body : List ℕ) (received : Received kind.Reply stretch body) (address : ℕ) (q : Request) (bit7 : Bool) where
  abbrev SameAgain : Got → List ℕ → List ℕ → Type 0
  SameAgain got words sent =
      (again : List ℕ)
      × (items kind.Reply (map byte sent) ≡ served again ∷ [])
      × (read_reply address q again ≡ (served got, some bit7))
      × Beside got again words

  pub read_again : (got : Got) → read_reply address q body ≡ (served got, some bit7) → (words : List ℕ) → Beside got body words
      → (room after : List ℕ) (n : ℕ) → write_reply address q (reply_of got) words bit7 room ≡ (served n, after) → SameAgain got words (take n after)
  read_again (value reply) h words t room after n w = go (over_one (content_of reply) (data_in body)) refl
    where
      go : (o : Bool) → over_one (content_of reply) (data_in body) ≡ o → SameAgain (value reply) words (take n after)
      go true o =
          let valid = (over-one-from_wire stretch body received address q reply bit7 h o).0 in
          let r = written_read address q reply words bit7 (subst Fits (sym valid) tt) room after n w in
          (r.0, r.1, r.2 ∙ ap (λ (c : Content). (comes_back reply words c, some bit7)) valid, tt)
      go false o =
          let same : take n after ≡ closed stretch =
          emitted (closed stretch) room after n (sym (value_from_wire stretch body received address q reply bit7 h o words room) ∙ w) in
          (body, ap (λ (sent : List ℕ). items kind.Reply (map byte sent)) same ∙ received.2, h, tt)
  read_again (text place m) h words t room after n w =
      let f = found address q body place m bit7 h in
      let l : length words ≡ m = ap length (sym t) ∙ length-words address q body place m bit7 h in
      let r = written_read address q say.ProductType words bit7 tt room after n w in (
        r.0,
        r.1,
        rw (← f.1, ← l) r.2,
        rw (← f.1, ← l) (r.3 refl),
      )

-- ---- every byte
module _ (address index b state : ℕ) (bit7 : Bool) (one : address ≡ 255 → ⊥) (no_error : state % 128 ≡ 0) (flag : leb 0x80 state ≡ bit7) where
  abbrev asked : Request
  asked = ask.Validity index

  abbrev said : List ℕ
  said = with_checksum (body_of address 0x40 state (b ∷ []))

  asked_well : served (address, asked) ≡ check_request address asked
  unfolding check_request row
  asked_well = refl

  good : served said ≡ check_body kind.Reply said
  unfolding body_of
  good = sym (good_body kind.Reply (address ∷ 0x40 ∷ state ∷ []) (b ∷ []) refl (omega arith))

  own : false ≡ foreign address (row asked) said
  unfolding body_of row
  own = not-foreign address (row asked) said (ne_eqb _ _ one) refl refl (rw (eq-eqb _ _ no_error))

  byte_read : (served (value (say.Validity (validity_of b))), some bit7) ≡ of_data asked (row asked).answer (data_in said) (bit7_in said)
  unfolding body_of data_in row
  byte_read = let n : big (b ∷ []) ≡ b = big-one (b ∷ []) 0 (omega arith) in rw (flag, n)

  said_byte : read_reply address asked said ≡ (served (value (say.Validity (validity_of b))), some bit7)
  unfolding body_of
  said_byte =
      sym (data_read address asked said {c = Ok tt} asked_well refl {d = Ok tt} good refl {r = row asked} refl {x = false} own refl no_error byte_read)

pub any_byte : (address index b : ℕ) (bit7 : Bool) → (address ≡ 255 → ⊥)
    → read_reply address (ask.Validity index) (with_checksum (body_of address 0x40 (cond bit7 0x80 0) (b ∷ [])))
    ≡ (served (value (say.Validity (not (eqb b 0)))), some bit7)
any_byte address index b true one = said_byte address index b 0x80 true one refl refl
any_byte address index b false one = said_byte address index b 0 false one refl refl
