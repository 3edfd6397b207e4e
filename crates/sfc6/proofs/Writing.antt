-- Writing a request: each answer of the definition, from the tests that lead to it. Assumes nothing.
use mathlib.Core.Path.{◌≡◌, refl, sym, ap, subst, ◌∙◌}
use mathlib.Core.Logic.{◌⊎◌, inl, inr}
use mathlib.Core.Bool.{Bool, true, false, cond, not, true≢false}
use mathlib.Core.List.{List, [], ◌∷◌, ◌++◌, append-nil}
use Prim.Native.Nat.{ℕ, zero, suc, ◌+◌, ◌-◌, ◌^◌, ◌≤◌, ◌<◌, min}
use native.Mathlib.Nat.{zero-add, add-zero}
use native.Mathlib.Omega.{arith}
use borrow.Author.Tests.{ltb-true, ltb-false}
use lib.Dec.{ltb}
use lib.Ieee.{binary32, to_bits, of_bits}
use lib.ListN.{length, get_or, take, drop, length-drop, drop_of_length-le}
use lib.Seq.{length-take-le, take_all, take-length, drop-length}
use Rattle.refusal.specs.declared.Refusal.{Refusal}
use Rattle.refusal.specs.declared.Refusal.TheVariants.{BadFloat}
use Rattle.refusal.specs.Refusals.{Answered, number, served, refused, paper, answered_as}
use Rattle.refusal.specs.Room.{overlay, emit}
use Rattle.refusal.proofs.Room.{take-overlay, emit_served, emit_refused}
use Rattle.std.specs.Prelude.{Result, Ok, Err}
use Rattle.shdlc.specs.Frame.{frame_of, write_frame}
use Rattle.sfc6.specs.declared.Request.{Request}
use Rattle.sfc6.specs.declared.Request.TheVariants.{ProductType}
use Rattle.sfc6.specs.Commands.{row, table, request_at, member, finite}
use Rattle.sfc6.specs.Requests.{request_checks, check_request, body_of, frame_to_write, write_request}
use Rattle.sfc6.specs.Rounds.{from}
use Rattle.sfc6.proofs.Floats.{nan_or_not}
use Rattle.sfc6.proofs.Table.{last, request-last}
use Rattle.sfc6.proofs.Order.{never, first_refuses, then_more}

-- what the request's own checks answer is what the writer's do
pub frame_by_check : (address : ℕ) (request : Request) (c : Result (Unit {0}) Refusal) → answered_as (λ _. (address, request)) c ≡ check_request address request
    → answered_as (λ _. frame_of (body_of address (row request))) c ≡ frame_to_write address request
unfolding check_request frame_to_write
frame_by_check address request (Ok u) is =
    sym (then_more (address, request) (frame_of (body_of address (row request))) [] (request_checks address request) (sym is))
frame_by_check address request (Err why) is =
    sym (first_refuses (address, request) (frame_of (body_of address (row request))) [] (request_checks address request) (sym is))

-- the places of the table at which the number is asked; at the others nothing is refused
abbrev pub asked : List ℕ
asked = 1 ∷ 4 ∷ 6 ∷ 17 ∷ 19 ∷ []

abbrev pub good : Result (Unit {0}) Refusal
good = Ok tt

-- of the request at a place: what a check answers is what the definition says of it
module _ (address : ℕ) where
  abbrev pub Says : Request → Result (Unit {0}) Refusal → Type 0
  Says request c = answered_as (λ _. (address, request)) c ≡ check_request address request

  pub says_known : (place k n : ℕ) (c : Result (Unit {0}) Refusal) → place ≡ k → Says (request_at k n) c → Says (request_at place n) c
  says_known place k n c e h = subst (λ (m : ℕ). Says (request_at m n) c) (sym e) h

  says_last : (place n : ℕ) (c : Result (Unit {0}) Refusal) → 20 ≤ place → Says ProductType c → Says (request_at place n) c
  says_last place n c past h = subst (λ (q : Request). Says q c) (request-last place n past) h

  infixr 5 ◌then◌
  data Free : ℕ → List (ℕ → Request) → Type 0 where
    done : {k : ℕ} → Free k []
    ◌then◌ : {k : ℕ} {q : ℕ → Request} {qs : List (ℕ → Request)} → (member k asked ≡ true) ⊎ ((n : ℕ) → Says (q n) good) → Free (suc k) qs
        → Free k (q ∷ qs)

  free : Free 0 table
  unfolding row check_request
  free =
      inr (λ n. refl) then inl refl then inr (λ n. refl) then inr (λ n. refl) then inl refl then inr (λ n. refl) then inl refl
      then inr (λ n. refl) then inr (λ n. refl) then inr (λ n. refl) then inr (λ n. refl) then inr (λ n. refl) then inr (λ n. refl)
      then inr (λ n. refl) then inr (λ n. refl) then inr (λ n. refl) then inr (λ n. refl) then inl refl then inr (λ n. refl)
      then inl refl then inr (λ n. refl) then done

  free_in : (qs : List (ℕ → Request)) (k : ℕ) → Free k qs → (i n : ℕ) → member (k + i) asked ≡ false → i < length qs → Says (get_or qs i last n) good
  free_in [] k f i n m h = absurd (omega arith)
  free_in (q ∷ qs) k (inl a then f) zero n m h = absurd (true≢false (sym a ∙ ap (λ (j : ℕ). member j asked) (sym (add-zero k)) ∙ m))
  free_in (q ∷ qs) k (inr s then f) zero n m h = s n
  free_in (q ∷ qs) k (s then f) (suc i) n m h =
      let e : k + suc i ≡ suc k + i = omega arith in
      free_in qs (suc k) f i n (subst (λ (j : ℕ). member j asked ≡ false) e m) (omega arith)

  pub free_at : (place n : ℕ) → member place asked ≡ false → Says (request_at place n) good
  unfolding row check_request
  free_at place n m = go (ltb 20 place) refl
    where
      go : (t : Bool) → ltb 20 place ≡ t → Says (request_at place n) good
      go true e = let past = ltb-true 20 place e in says_last place n good (omega arith) refl
      go false e =
          let within = ltb-false 20 place e in
          free_in table 0 free place n (subst (λ (j : ℕ). member j asked ≡ false) (sym (zero-add place)) m) (omega arith)

-- and of a float by its bits
pub float_checked : {A : Type 0} (a : A) (n : ℕ) {c : Result (Unit {0}) Refusal} → n < 2 ^ 32 → c ≡ cond (finite n) good (Err BadFloat)
    → answered_as (λ _. a) c ≡ cond (not (finite (to_bits binary32 (of_bits binary32 n)))) (refused (number 13)) (served a)
float_checked {A} a n {c} h e = rw (nan_or_not n h, e) (go (finite n))
  where
    go : (t : Bool) → answered_as (λ _. a) (cond t good (Err BadFloat)) ≡ cond (not t) (refused (number 13)) (served a)
    go true = refl
    go false = refl

-- a frame that stands at the start of a room that holds it, one that is copied there, and one that does not fit
module _ (body room : List ℕ) (n : ℕ) (long : n ≡ length (frame_of body)) where
  pub frame_stands : (after : List ℕ) → n ≤ length room → after ≡ overlay room 0 (frame_of body)
      → ◌≡◌ {A = Answered ℕ × List ℕ} (served n, after) (write_frame body room)
  frame_stands after h e =
      let fits : length (frame_of body) ≤ length room = omega arith in
      rw (emit_served (frame_of body) room fits, long, e)

  pub frame_copied : (zeros spare after : List ℕ) → n ≤ length room → spare ≡ overlay zeros 0 (frame_of body)
      → after ≡ overlay room 0 (take n spare) → ◌≡◌ {A = Answered ℕ × List ℕ} (served n, after) (write_frame body room)
  frame_copied zeros spare after h e f = frame_stands after h (f ∙ rw (e, long, take-overlay))

  pub frame_long : length room < n → ◌≡◌ {A = Answered ℕ × List ℕ} (refused (number 1), room) (write_frame body room)
  frame_long h =
      let short : length room < length (frame_of body) = omega arith in
      rw (emit_refused (frame_of body) room short)

-- bytes copied over the start of a room
pub copied : (room bytes : List ℕ) (n : ℕ) {after : List ℕ} → n ≤ length room → length after ≡ length (take n room) → after ≡ bytes
    → after ++ drop n room ≡ overlay room 0 bytes
unfolding overlay
copied room bytes n {after = after} h l e =
    let long : n ≡ length bytes = sym (length-take-le n room h) ∙ sym l ∙ ap length e in
    simp (long, e, zero-add)

-- a frame into a room
module _ (address : ℕ) (request : Request) (room frame : List ℕ) (c : Result (Unit {0}) Refusal) (is : answered_as (λ _. frame) c ≡ frame_to_write address request) where
  pub write_refused : {why : Refusal} → c ≡ Err why → (refused (paper why), room) ≡ write_request address request room
  unfolding write_request
  write_refused e = rw (← is, e)

  pub write_laid : c ≡ Ok tt → {o : Answered ℕ × List ℕ} → o ≡ emit frame room → o ≡ write_request address request room
  unfolding write_request
  write_laid good f = rw (← is, good) f

-- bytes that were laid stand at the room's start, and fit
pub emit-laid : (bytes room : List ℕ) (n : ℕ) → (emit bytes room).0 ≡ served n
    → (n ≡ length bytes) × ((emit bytes room).1 ≡ overlay room 0 bytes) × (length bytes ≤ length room)
unfolding emit
emit-laid bytes room n = go (ltb (length room) (length bytes)) refl
  where
    go : (t : Bool) → ltb (length room) (length bytes) ≡ t
        → (cond {A = Answered ℕ × List ℕ} t (refused (number 1), room) (served (length bytes), overlay room 0 bytes)).0 ≡ served n
        → (n ≡ length bytes)
        × ((cond {A = Answered ℕ × List ℕ} t (refused (number 1), room) (served (length bytes), overlay room 0 bytes)).1 ≡ overlay room 0 bytes)
        × (length bytes ≤ length room)
    go true e h = never (sym h)
    go false e h = (cc, refl, ltb-false _ _ e)

-- a frame into the room left
module _ (buffer : List ℕ) (start end : ℕ) where
  -- where the room starts: at the place asked for, or at the end where that is past it
  abbrev pub Starts : Type 0
  Starts = (end ≤ length buffer) × (take end buffer ≡ take start buffer) × (drop end buffer ≡ drop start buffer)

  pub starts : end ≡ min start (length buffer) → Starts
  starts e = go (ltb start (length buffer)) refl
    where
      go : (t : Bool) → ltb start (length buffer) ≡ t → Starts
      go true h =
          let before : start < length buffer = ltb-true start (length buffer) h in
          let is : end ≡ start = omega arith in
          rw is (omega arith, refl, refl)
      go false h =
          let past : length buffer ≤ start = ltb-false start (length buffer) h in
          let is : end ≡ length buffer = omega arith in
          rw is (omega arith, take-length buffer ∙ sym (take_all start buffer past), drop-length buffer ∙ sym (drop_of_length-le buffer past))

  -- the place of which the code takes the least is the one that is asked for
  pub starts_at : (place : ℕ) → end ≡ min place (length buffer) → place ≡ start → Starts
  starts_at place e f = starts (e ∙ ap (λ (n : ℕ). min n (length buffer)) f)

  pub appended : (write : List ℕ → Answered ℕ × List ℕ) {r : Answered ℕ} {w : List ℕ} → Starts
      → (r, w) ≡ write (take (length buffer - end) (drop end buffer))
      → (r, take end buffer ++ (w ++ drop (length buffer - end) (drop end buffer))) ≡ from buffer start write
  appended write {w = w} s e =
      let l = length-drop end buffer in
      let f = rw (take_all (length buffer - end) (drop end buffer) (omega arith), s.2) at e in
      rw (drop_of_length-le (drop end buffer) {i = length buffer - end} (omega arith), append-nil w, s.1)
      (ap (λ (o : Answered ℕ × List ℕ). (o.0, take start buffer ++ o.1)) f)
