-- The orders that the run carries out are those that the log means, on a table that (i) does not refuse. Assumes nothing.
use Prim.Native.Nat.{ℕ}
use mathlib.Core.Path.{◌≡◌, refl, sym, ap, ◌∙◌}
use mathlib.Core.Bool.{Bool, true, false, cond}
use mathlib.Core.List.{List, [], ◌∷◌}
use mathlib.Core.Option.{Option, none, some}
use lib.ListN.{length}
use borrow.Author.Tests.{eq-eqb}
use Rattle.std.specs.Prelude.{Result, Ok, Err}
use Rattle.refusal.specs.declared.Refusal.{Refusal}
use Rattle.refusal.specs.Refusals.{Numbered, number, Answered, served, refused, answered}
use Rattle.shdlc.specs.declared.Kind.TheVariants.{Request, Reply}
use Rattle.sfc6.specs.declared.Request.{Request as Asked}
use Rattle.sfc6.specs.Reading.{and_then, read_request}
use Rattle.board.specs.declared.entries.Entry.{Entry}
use Rattle.board.specs.declared.orders.Order.{Order}
use Rattle.board.specs.declared.orders.Order.TheVariants.{Poll}
use Rattle.board.specs.Entries.{valid}
use Rattle.board.specs.Orders.{Outcome, order_in_range, done, change}
use Rattle.board.specs.Listing.{list_answer}
use Rattle.board.proofs.Handover.{Sound, sound-change, sound-kept}
use Rattle.replay.specs.Replay.{Told, yielded, silent, against, answering, orders_from, or_refused, board_from, room_for}
use Rattle.replay.specs.Private.{after, known, carried, put, answer, noted, board_in, Good, list_of}

-- ---- an order to the board before it is refused one, and after
module _ (t : List Entry) (o : Order) where
  pub put-done : {ended : Result (Unit {0}) Refusal} (result : Result (Unit {0}) Refusal) {next : List Entry} {u : Unit {0}} → ended ≡ Ok u
      → (answered result, next) ≡ cond (order_in_range o) (done o t) (refused (number 12), t) → board_in result next ≡ put (board_in ended t) o
  unfolding put
  put-done {ended} result {next} h e =
      by_result result
      ∙ ap or_refused e
      ∙ go (order_in_range o)
      ∙ ap (λ (x : Result (Unit {0}) Refusal). and_then (board_in x t) (λ s. carried s o)) (sym h)
    where
      by_result : (r : Result (Unit {0}) Refusal) → board_in r next ≡ or_refused (answered r, next)
      by_result (Ok u) = refl
      by_result (Err why) = refl

      go : (b : Bool) → or_refused (cond b (done o t) (refused (number 12), t)) ≡ cond b (or_refused (done o t)) (refused (number 12))
      go true = refl
      go false = refl

  pub put_late : {ended : Result (Unit {0}) Refusal} {why : Refusal} → ended ≡ Err why → board_in ended t ≡ put (board_in ended t) o
  unfolding put
  put_late h = ap (λ (x : Result (Unit {0}) Refusal). board_in x t) h ∙ ap (λ (x : Result (Unit {0}) Refusal). and_then (board_in x t) (λ s. carried s o)) (sym h)

-- ---- the list of a board that (i) does not refuse
pub listed_good : (t : List Entry) (room : ℕ) → (length t ≡ 32) × (valid t ≡ true) → list_answer t room ≡ room_for (list_of (served t)) room
unfolding list_answer
listed_good t room (l, v) = rw (eq-eqb (length t) 32 l, v)

-- ---- the checks that are left out
carried-sound : (t : List Entry) (o : Order) → Sound t → carried t o ≡ or_refused (change t o)
carried-sound t o s = go (order_in_range o) ∙ sym (ap or_refused (sound-change t o s))
  where
    go : (b : Bool) → cond b (or_refused (done o t)) (refused (number 12)) ≡ or_refused (cond b (done o t) (refused (number 12), t))
    go true = refl
    go false = refl

-- ---- orders one after the other
put_all : Answered (List Entry) → List Order → Answered (List Entry)
put_all board [] = board
put_all board (o ∷ os) = put_all (put board o) os

put_refused : (n : Numbered) (os : List Order) → put_all (refused n) os ≡ refused n
unfolding put_all put
put_refused n [] = refl
put_refused n (o ∷ os) = put_refused n os

put-sound : (os : List Order) (t : List Entry) → Sound t → put_all (served t) os ≡ board_from t os
unfolding put_all put board_from
put-sound [] t s = refl
put-sound (o ∷ os) t s =
    ap (λ (a : Answered (List Entry)). put_all a os) (carried-sound t o s) ∙ go (change t o) (sound-kept t o s) (put-sound os)
  where
    go : (c : Outcome) → Sound c.1 → ((next : List Entry) → Sound next → put_all (served next) os ≡ board_from next os)
        → put_all (or_refused c) os ≡ and_then (or_refused c) (λ next. board_from next os)
    go (served u, next) k more = more next k
    go (refused n, next) k more = put_refused n os

-- a request frame read when it comes is as good as one read when the reply comes
abbrev read : Option (List ℕ) → Option (ℕ × Asked)
read none = none
read (some frame) = known (read_request frame)

answer-known : (q : Answered (ℕ × Asked)) (reply : List ℕ) (lease : ℕ) → answer (known q) reply lease ≡ against q reply lease
answer-known (served (address, request)) reply lease = refl
answer-known (refused n) reply lease = refl

answer-read : (latest : Option (List ℕ)) (reply : List ℕ) (lease : ℕ) → answer (read latest) reply lease ≡ answering latest reply lease
answer-read none reply lease = refl
answer-read (some frame) reply lease = answer-known (read_request frame) reply lease

noted-orders : (lease : ℕ) (ts : List Told) (latest : Option (List ℕ)) (board : Answered (List Entry))
    → (after (noted lease) (record { latest = read latest; board = board }) ts).board ≡ put_all board (orders_from lease latest ts)
unfolding after noted orders_from put_all
noted-orders lease [] latest board = refl
noted-orders lease (yielded Request (served frame) ∷ ts) latest board = noted-orders lease ts (some frame) board
noted-orders lease (yielded Request (refused n) ∷ ts) latest board = noted-orders lease ts latest board
noted-orders lease (yielded Reply (served frame) ∷ ts) latest board =
    noted-orders lease ts latest (put board (answer (read latest) frame lease))
    ∙ ap (λ (o : Order). put_all (put board o) (orders_from lease latest ts)) (answer-read latest frame lease)
noted-orders lease (yielded Reply (refused n) ∷ ts) latest board = noted-orders lease ts latest board
noted-orders lease (silent ∷ ts) latest board = noted-orders lease ts latest (put board Poll)

-- what is kept of all that is told has the board that the log means
pub kept_board : (lease : ℕ) (ts : List Told) (t : List Entry) → Sound t
    → (after (noted lease) (record { latest = none; board = served t }) ts).board ≡ board_from t (orders_from lease none ts)
kept_board lease ts t s = noted-orders lease ts none (served t) ∙ put-sound (orders_from lease none ts) t s

-- ---- the table at the end is one that (i) lists
pub sound_board : (os : List Order) (t : List Entry) → Sound t → Good (board_from t os)
unfolding board_from
sound_board [] t s = s
sound_board (o ∷ os) t s = go (change t o) (sound-kept t o s) (sound_board os)
  where
    go : (c : Outcome) → Sound c.1 → ((next : List Entry) → Sound next → Good (board_from next os))
        → Good (and_then (or_refused c) (λ next. board_from next os))
    go (served u, next) k more = more next k
    go (refused n, next) k more = tt
