-- A request by its number: each answer of the definitions, from the tests that lead to it. Assumes nothing.
use mathlib.Core.Path.{◌≡◌, refl, sym, ap, ◌∙◌}
use mathlib.Core.Logic.{◌⊎◌, inl, inr, ⊎_elim}
use mathlib.Core.Bool.{Bool, true, false, ◌&&◌}
use mathlib.Core.List.{List, [], ◌∷◌}
use Prim.Native.Nat.{ℕ, ◌^◌, ◌≤◌, ◌<◌}
use native.Mathlib.Omega.{arith}
use borrow.Author.Tests.{lt-ltb, le-ltb, ltb-true, eqb-true}
use lib.Dec.{ltb, eqb}
use lib.ListN.{drop, take-append-drop}
use Rattle.refusal.specs.declared.Refusal.{Refusal}
use Rattle.refusal.specs.Refusals.{Numbered, Answered, number, served, refused, paper, answered, answered_as, in_order}
use Rattle.refusal.specs.Room.{emit, lay}
use Rattle.std.specs.Prelude.{Result, Ok, Err}
use Rattle.shdlc.specs.Frame.{frame_of, write_frame}
use Rattle.sfc6.specs.declared.Request.{Request}
use Rattle.sfc6.specs.Commands.{row, request_at}
use Rattle.sfc6.specs.Requests.{request_checks, check_request, numbered, body_at, body_of, frame_to_write, write_request, write_numbered}
use Rattle.sfc6.specs.Rounds.{append_request, append_numbered}
use Rattle.sfc6.proofs.Order.{never, first_refuses}
use Rattle.sfc6.proofs.Checks.{passed_request}
use Rattle.sfc6.proofs.Rewritten.{numbered-body}
use Rattle.sfc6.proofs.Writing.{Says, frame_by_check, write_refused, write_laid}

-- ---- the request of a number
module _ (place n : ℕ) where
  -- why a number names no request, and which request it names
  pub numbered_refused : (m : Numbered) → numbered place n ≡ refused m
      → ((ltb 20 place ≡ true) × (m ≡ number 11)) ⊎ ((ltb 20 place ≡ false) × (m ≡ number 12) × (place ≡ 17) × (255 < n))
  unfolding numbered
  numbered_refused m = go (ltb 20 place) (eqb place 17) (ltb 255 n) refl refl
    where
      go : (t x y : Bool) → eqb place 17 ≡ x → ltb 255 n ≡ y
          → in_order ((t, number 11) ∷ (x && y, number 12) ∷ []) (request_at place n) ≡ refused m
          → ((t ≡ true) × (m ≡ number 11)) ⊎ ((t ≡ false) × (m ≡ number 12) × (place ≡ 17) × (255 < n))
      go true x y e f h = inl (refl, let z : number 11 ≡ m = cc in sym z)
      go false true true e f h = inr (refl, let z : number 12 ≡ m = cc in sym z, eqb-true _ _ e, ltb-true _ _ f)
      go false true false e f h = never h
      go false false y e f h = never h

  pub numbered_served : (q : Request) → numbered place n ≡ served q → (ltb 20 place ≡ false) × (request_at place n ≡ q)
  unfolding numbered
  numbered_served q = go (ltb 20 place) (eqb place 17 && ltb 255 n)
    where
      go : (t u : Bool) → in_order ((t, number 11) ∷ (u, number 12) ∷ []) (request_at place n) ≡ served q → (t ≡ false) × (request_at place n ≡ q)
      go true u h = never (sym h)
      go false true h = never (sym h)
      go false false h = (refl, cc)

-- an address that is no byte is out of its range
pub wide_refused : (address place n : ℕ) → place ≡ 17 → 255 < n → check_request address (request_at place n) ≡ refused (number 12)
unfolding check_request row
wide_refused address place n e h = let l : 254 < n = omega arith in rw e (rw (lt-ltb 254 n l))

-- what the request's own checks refuse, its writer refuses
pub write_stopped : (address : ℕ) (request : Request) (room : List ℕ) (m : Numbered) → check_request address request ≡ refused m
    → write_request address request room ≡ (refused m, room)
unfolding write_request frame_to_write check_request
write_stopped address request room m h =
    ap (λ (a : Answered (List ℕ)). lay a room)
    (first_refuses (address, request) (frame_of (body_of address (row request))) [] (request_checks address request) h)

-- ---- its frame
module _ (address place n : ℕ) where
  abbrev request : Request
  request = request_at place n

  pub no_frame : 20 < place → (room : List ℕ) → (refused (number 11), room) ≡ write_numbered address place n room
  unfolding write_numbered
  no_frame h room = rw (lt-ltb _ _ h)

  module _ (within : place ≤ 20) (c : Result (Unit {0}) Refusal) (is : Says address request c) where
    pub frame_refused : (room : List ℕ) {why : Refusal} → c ≡ Err why → (refused (paper why), room) ≡ write_numbered address place n room
    unfolding write_numbered
    frame_refused room e = rw (le-ltb _ _ within) (write_refused address request room _ c (frame_by_check address request c is) e)

    pub frame-laid : (room : List ℕ) → c ≡ Ok tt → n < 2 ^ 32 → {o : Answered ℕ × List ℕ} → o ≡ write_frame (body_at address place n) room
        → o ≡ write_numbered address place n room
    unfolding write_numbered
    frame-laid room e small h =
        let passed = passed_request address request (sym is ∙ ap (answered_as (λ _. (address, request))) e) in
        rw (le-ltb _ _ within)
        (write_laid address request room _ c (frame_by_check address request c is) e
        (h ∙ ap (λ (b : List ℕ). emit (frame_of b) room) (numbered-body address place n within small passed)))

  module _ (t : Result Request Refusal) (is : answered t ≡ numbered place n) where
    stopped : {why : Refusal} → t ≡ Err why → (room : List ℕ) → write_numbered address place n room ≡ (refused (paper why), room)
    unfolding write_numbered
    stopped {why} e room =
        ⊎_elim (λ h. rw (h.0, h.1))
        (λ h. rw (h.0, h.1) (write_stopped address request room (number 12) (wide_refused address place n h.2 h.3)))
        (numbered_refused place n (paper why) (sym is ∙ ap answered e))

  -- in the middle of a buffer
  module _ (buffer : List ℕ) (start : ℕ) where
    nothing : (m : Numbered) → ((room : List ℕ) → write_numbered address place n room ≡ (refused m, room))
        → (refused m, buffer) ≡ append_numbered buffer start address place n
    unfolding append_numbered
    nothing m h = rw (h (drop start buffer), take-append-drop)

    module _ (t : Result Request Refusal) (is : answered t ≡ numbered place n) where
      pub append_none : {why : Refusal} → t ≡ Err why → (refused (paper why), buffer) ≡ append_numbered buffer start address place n
      append_none {why} e = nothing (paper why) (stopped t is e)

      pub append-known : {q : Request} → t ≡ Ok q → {o : Answered ℕ × List ℕ} → o ≡ append_request buffer start address q
          → o ≡ append_numbered buffer start address place n
      unfolding append_numbered append_request write_numbered
      append-known {q} e h = let k = numbered_served place n q (sym is ∙ ap answered e) in h ∙ rw (k.0, k.1)
