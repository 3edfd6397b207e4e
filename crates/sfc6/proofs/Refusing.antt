-- When the writer of a request refuses, and with which number; never with 5. Assumes nothing.
use mathlib.Core.Path.{◌≡◌}
use mathlib.Core.List.{List, [], ◌∷◌, ◌++◌}
use Prim.Native.Nat.{ℕ}
use native.Mathlib.Omega.{arith}
use borrow.Author.Tests.{le-ltb}
use lib.Dec.{ltb}
use lib.ListN.{length}
use Rattle.refusal.specs.Refusals.{number, in_order}
use Rattle.refusal.specs.Order.{Decides}
use Rattle.refusal.proofs.Deciding.{decides, in_order_idle}
use Rattle.shdlc.specs.Frame.{frame_of}
use Rattle.sfc6.specs.declared.Request.{Request}
use Rattle.sfc6.specs.Commands.{row}
use Rattle.sfc6.specs.Requests.{request_checks, data_of, body_of, frame_to_write, write_request}
use Rattle.sfc6.proofs.Laid.{data_short}

module _ (address : ℕ) (request : Request) where
  abbrev frame : List ℕ
  frame = frame_of (body_of address (row request))

  pub request_decides : (room : List ℕ) → Decides (request_checks address request) frame room (write_request address request room).0
  unfolding write_request frame_to_write
  request_decides room = decides frame room (request_checks address request)

  -- with the test of 5 at its place in 01's order the answers are the same
  pub never_5 : in_order (request_checks address request ++ ((ltb 255 (length (data_of (row request))), number 5) ∷ [])) frame ≡ frame_to_write address request
  unfolding frame_to_write
  never_5 =
      in_order_idle (request_checks address request) (ltb 255 (length (data_of (row request)))) (number 5) frame
      (λ passed. le-ltb 255 (length (data_of (row request))) (omega (arith, data_short (row request))))
