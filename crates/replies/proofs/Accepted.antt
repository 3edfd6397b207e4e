-- When the writer of a reply refuses, and with which number; never with 5. Assumes nothing.
use mathlib.Core.Path.{◌≡◌}
use mathlib.Core.Bool.{Bool, false}
use mathlib.Core.List.{List, [], ◌∷◌, ◌++◌}
use Prim.Native.Nat.{ℕ, ◌≤◌}
use native.Mathlib.Omega.{arith}
use lib.Dec.{ltb}
use lib.ListN.{length, length-append}
use borrow.Author.Tests.{le-ltb, ltb-false}
use Rattle.refusal.specs.Refusals.{Numbered, number, in_order}
use Rattle.refusal.specs.Order.{Passed, Decides}
use Rattle.refusal.proofs.Deciding.{decides, in_order_append, in_order_idle}
use Rattle.payload.specs.Field.{big_endian}
use Rattle.sfc6.specs.declared.Request.{Request}
use Rattle.sfc6.specs.Commands.{row, member}
use Rattle.sfc6.specs.Requests.{request_checks}
use Rattle.replies.specs.declared.Reply.{Reply}
use Rattle.replies.specs.declared.Content.{Content}
use Rattle.replies.specs.declared.Content.TheVariants.{Nothing, Float, U16, U32, Validity, Address, Baud, Text, Error}
use Rattle.replies.specs.Replies.{content_of, out_of_range}
use Rattle.replies.specs.Writer.{bad_text, data_of, frame_for, write_checks, frame_to_write, write_reply}
use Rattle.replies.proofs.Carried.{or_false}

-- data of which no text is refused are at most 255 bytes
pub data_short : (c : Content) (words : List ℕ) → bad_text c words ≡ false → length (data_of c words) ≤ 255
unfolding big_endian
data_short Nothing words h = omega arith
data_short (Float x) words h = omega arith
data_short (U16 n) words h = omega arith
data_short (U32 n) words h = omega arith
data_short (Validity v) words h = omega arith
data_short (Address a) words h = omega arith
data_short (Baud rate) words h = omega arith
data_short Text words h =
    let most : length words ≤ 254 = ltb-false _ _ (or_false (ltb 254 (length words)) (member 0 words) h).0 in
    omega (arith, length-append words (0 ∷ []))
data_short (Error code) words h = omega arith

module _ (address : ℕ) (request : Request) (reply : Reply) (words : List ℕ) where
  pub at-most_255 : Passed (write_checks address request reply words) → length (data_of (content_of reply) words) ≤ 255
  at-most_255 passed = data_short (content_of reply) words (or_false (out_of_range (content_of reply)) _ passed.1.0).1

  module _ (bit7 : Bool) where
    abbrev checks : List (Bool × Numbered)
    checks = request_checks address request ++ write_checks address request reply words

    abbrev frame : List ℕ
    frame = frame_for address (row request).command (content_of reply) words bit7

    pub reply_decides : (room : List ℕ) → Decides checks frame room (write_reply address request reply words bit7 room).0
    unfolding write_reply frame_to_write
    reply_decides room = decides frame room checks

    abbrev with_5 : List (Bool × Numbered)
    with_5 = write_checks address request reply words ++ ((ltb 255 (length (data_of (content_of reply) words)), number 5) ∷ [])

    -- with the test of 5 at its place in 01's order the answers are the same
    pub never_5 : in_order (request_checks address request ++ with_5) frame ≡ frame_to_write address request reply words bit7
    unfolding frame_to_write
    never_5 =
        in_order_append (request_checks address request) with_5 (write_checks address request reply words) frame
        (in_order_idle (write_checks address request reply words) (ltb 255 (length (data_of (content_of reply) words))) (number 5) frame
        (λ passed. le-ltb _ _ (at-most_255 passed)))
