-- The record's steps gain exactly a stream's items, and keep it within its ranges. Assumes nothing.
use Prim.Native.Nat.{ℕ, ◌+◌, ◌≤◌, ◌<◌, min}
use native.Mathlib.Omega.{arith}
use native.Mathlib.Numerals.{add-one}
use mathlib.Core.Path.{◌≡◌, refl, sym, ap, subst, ◌∙◌}
use mathlib.Core.Bool.{Bool, true, false, cond, ◌&&◌}
use mathlib.Core.List.{List, [], ◌∷◌, ◌++◌, append_assoc, append-nil}
use mathlib.Core.Option.{Option, none, some}
use lib.Dec.{ltb, eqb}
use lib.ListN.{length, take, length-append, length-set}
use lib.Seq.{take_all, take-suc-set, take-append-le}
use borrow.Author.Tests.{ltb-true, ltb-false, lt-ltb, le-ltb, eq-eqb}
use Rattle.refusal.specs.Refusals.{number, ◌carrying◌, Answered, served, refused}
use Rattle.shdlc.specs.declared.Kind.{Kind}
use Rattle.shdlc.specs.declared.Kind.TheVariants.{Request, Reply}
use Rattle.shdlc.specs.Stuffing.{escapes, left_of, stuff_byte, stuff, is_control, prepend, reported_place, meant, unstuff_from, unstuff, unstuff_escaped}
use Rattle.shdlc.specs.Body.{longest, check_body}
use Rattle.shdlc.specs.Stream.{Event, byte, mark, Item, judge_body, judge, Place, outside, inside, next, gain}
use Rattle.shdlc.specs.Stream as Stream
use Rattle.shdlc.proofs.Body.{body_long}
use Rattle.receiver.specs.declared.Mode.{Mode}
use Rattle.receiver.specs.declared.Mode.TheVariants.{Outside, Plain, Escaped, BadEscape, BareControl}
use Rattle.receiver.specs.Record.{Record, length_in_range, in_range, fresh, Act, Store, Become, Discard, unescape, act_of, pushed, acted, opened, pending_in, pending, place_in, item_in, item_of, next_byte, next_record}
use Rattle.receiver.proofs.Cases.{kind_acted, few_acted}
use Rattle.receiver.proofs.Place.{beyond, length_for, beyond_none, beyond_some, beyond-more, stuffed_more, same_place, came_as, Sent, act_sent}

-- a stretch read so far: the mode, the whole unstuffed body, of any length, and the bytes that it came as
pub record Progress : Type 0 where
  pub mode : Mode
  pub body : List ℕ
  pub came : ℕ

abbrev absorbed : Progress → Act → Progress
absorbed p (Store b) = record { mode = Plain; body = p.body ++ (b ∷ []); came = p.came + came_as p.mode }
absorbed p (Become m) = record { mode = m; body = p.body; came = p.came }
absorbed p Discard = p

absorb : Progress → ℕ → Progress
absorb p b = absorbed p (act_of p.mode b)

pub progress : Progress → List ℕ → Progress
progress p [] = p
progress p (b ∷ s) = progress (absorb p b) s

abbrev pub start : Progress
start = record { mode = Plain; body = []; came = 0 }

progress_snoc : (s : List ℕ) (p : Progress) (b : ℕ) → progress p (s ++ (b ∷ [])) ≡ absorb (progress p s) b
unfolding progress
progress_snoc [] p b = refl
progress_snoc (x ∷ s) p b = progress_snoc s (absorb p x) b

-- the unstuffed body or the fault of a stretch that ends here
finish : Mode → ℕ → List ℕ → Answered (List ℕ)
finish Outside came s = refused (3 carrying reported_place came)
finish Plain came s = served s
finish Escaped came s = refused (3 carrying reported_place came)
finish BadEscape came s = refused (3 carrying reported_place came)
finish BareControl came s = refused (4 carrying reported_place came)

after : List ℕ → Answered (List ℕ) → Answered (List ℕ)
after acc (served s) = served (acc ++ s)
after acc (refused n) = refused n

after-prepend : (acc : List ℕ) (b : ℕ) (u : Answered (List ℕ)) → after (acc ++ (b ∷ [])) u ≡ after acc (prepend b u)
unfolding after prepend
after-prepend acc b (served s) = ap served (append_assoc acc (b ∷ []) s)
after-prepend acc b (refused n) = refl

-- what is still to come of the stretch
rest : Mode → ℕ → List ℕ → Answered (List ℕ)
rest Outside came s = refused (3 carrying reported_place came)
rest Plain came s = unstuff_from came s
rest Escaped came s = unstuff_escaped came s
rest BadEscape came s = refused (3 carrying reported_place came)
rest BareControl came s = refused (4 carrying reported_place came)

finish_rest : (m : Mode) (came : ℕ) (acc : List ℕ) → finish m came acc ≡ after acc (rest m came [])
unfolding finish after rest unstuff_from
finish_rest Outside came acc = refl
finish_rest Plain came acc = ap served (sym (append-nil acc))
finish_rest Escaped came acc = refl
finish_rest BadEscape came acc = refl
finish_rest BareControl came acc = refl

abbrev resumed : Progress → List ℕ → Answered (List ℕ)
resumed p s = after p.body (rest p.mode p.came s)

rest_plain : (t u : Bool) (acc : List ℕ) (came b : ℕ) (s : List ℕ)
    → resumed (absorbed (record { mode = Plain; body = acc; came = came }) (cond t (Become Escaped) (cond u (Become BareControl) (Store b)))) s
    ≡ after acc (cond t (unstuff_escaped came s) (cond u (refused (4 carrying reported_place came)) (prepend b (unstuff_from (came + 1) s))))
unfolding after rest
rest_plain true u acc came b s = refl
rest_plain false true acc came b s = refl
rest_plain false false acc came b s = after-prepend acc b (unstuff_from (came + 1) s)

rest_escaped : (o : Option ℕ) (acc : List ℕ) (came : ℕ) (s : List ℕ)
    → resumed (absorbed (record { mode = Escaped; body = acc; came = came }) (unescape o)) s ≡ after acc (meant came o (unstuff_from (came + 2) s))
unfolding after rest
rest_escaped none acc came s = refl
rest_escaped (some b) acc came s = after-prepend acc b (unstuff_from (came + 2) s)

rest_step : (m : Mode) (acc : List ℕ) (came b : ℕ) (s : List ℕ)
    → resumed (absorb (record { mode = m; body = acc; came = came }) b) s ≡ after acc (rest m came (b ∷ s))
unfolding after rest unstuff_from absorb
rest_step Outside acc came b s = refl
rest_step Plain acc came b s = rest_plain (eqb b 0x7D) (is_control b) acc came b s
rest_step Escaped acc came b s = rest_escaped (left_of escapes b) acc came s
rest_step BadEscape acc came b s = refl
rest_step BareControl acc came b s = refl

-- the mode and body reached give the unstuffed stretch
abbrev finished : Progress → Answered (List ℕ)
finished p = finish p.mode p.came p.body

finish_progress : (s : List ℕ) (p : Progress) → finished (progress p s) ≡ resumed p s
unfolding progress
finish_progress [] p = finish_rest p.mode p.came p.body
finish_progress (b ∷ s) p = finish_progress s (absorb p b) ∙ rest_step p.mode p.body p.came b s

after_nothing : (u : Answered (List ℕ)) → after [] u ≡ u
unfolding after
after_nothing (served s) = refl
after_nothing (refused n) = refl

finish_start : (s : List ℕ) → finished (progress start s) ≡ unstuff s
unfolding rest
finish_start s = finish_progress s start ∙ after_nothing (unstuff s)

-- a stretch is inside, and once it has a byte it stays pending
abbrev pub Inside : Mode → Type 0
Inside Outside = ⊥
Inside Plain = Unit {0}
Inside Escaped = Unit {0}
Inside BadEscape = Unit {0}
Inside BareControl = Unit {0}

abbrev Waits : Progress → Type 0
Waits p = Inside p.mode × (pending_in p.mode (length p.body) ≡ true)

length_snoc : (s : List ℕ) (b : ℕ) → length (s ++ (b ∷ [])) ≡ length s + 1
length_snoc s b = length-append s (b ∷ [])

waits_store : (acc : List ℕ) (b : ℕ) → ltb 0 (length (acc ++ (b ∷ []))) ≡ true
waits_store acc b = lt-ltb 0 (length (acc ++ (b ∷ []))) (omega (arith, length_snoc acc b))

waits_plain : (t u : Bool) (m : Mode) (acc : List ℕ) (came b : ℕ)
    → Waits (absorbed (record { mode = m; body = acc; came = came }) (cond t (Become Escaped) (cond u (Become BareControl) (Store b))))
waits_plain true u m acc came b = (tt, refl)
waits_plain false true m acc came b = (tt, refl)
waits_plain false false m acc came b = (tt, waits_store acc b)

waits_escaped : (o : Option ℕ) (m : Mode) (acc : List ℕ) (came : ℕ) → Waits (absorbed (record { mode = m; body = acc; came = came }) (unescape o))
waits_escaped none m acc came = (tt, refl)
waits_escaped (some b) m acc came = (tt, waits_store acc b)

waits_byte : (m : Mode) (acc : List ℕ) (came b : ℕ) → Inside m → Waits (absorb (record { mode = m; body = acc; came = came }) b)
unfolding absorb
waits_byte Outside acc came b h = absurd h
waits_byte Plain acc came b h = waits_plain (eqb b 0x7D) (is_control b) Plain acc came b
waits_byte Escaped acc came b h = waits_escaped (left_of escapes b) Escaped acc came
waits_byte BadEscape acc came b h = (tt, refl)
waits_byte BareControl acc came b h = (tt, refl)

waits_on : (s : List ℕ) (p : Progress) → Waits p → Waits (progress p s)
unfolding progress
waits_on [] p h = h
waits_on (b ∷ s) p h = waits_on s (absorb p b) (waits_byte p.mode p.body p.came b h.0)

waits_cons : (b : ℕ) (s : List ℕ) → Waits (progress start (b ∷ s))
unfolding progress
waits_cons b s = waits_on s (absorb start b) (waits_byte Plain [] 0 b tt)

pub inside_mode : (s : List ℕ) → Inside (progress start s).mode
unfolding progress
inside_mode [] = tt
inside_mode (b ∷ s) = (waits_cons b s).0

-- the record holds the progress: the body's first 260 bytes, and its length
pub record Holds (p : Progress) (r : Record) : Type 0 where
  pub mode : r.mode ≡ p.mode
  pub len : r.len ≡ length_for p.body
  pub size : length r.store ≡ 260
  pub kept : take r.len r.store ≡ take 260 p.body
  pub came : p.came ≡ length (stuff p.body)

length_short : (body : List ℕ) → length_for body < 260 → length body < 260
length_short body h = omega arith

length_full : (body : List ℕ) → 260 ≤ length_for body → 260 ≤ length body
length_full body h = go (ltb 260 (length body)) refl
  where
    go : (t : Bool) → ltb 260 (length body) ≡ t → 260 ≤ length body
    go true e = omega (arith, ltb-true 260 (length body) e)
    go false e = let l : length body ≤ 260 = ltb-false _ _ e in omega (arith, beyond_none body l)

holds_short : (p : Progress) (r : Record) → Holds p r → r.len < 260 → take r.len r.store ≡ p.body
holds_short p r h l = h.kept ∙ take_all 260 p.body (omega (arith, h.len))

came_more : (p : Progress) (r : Record) (b : ℕ) → Holds p r → Sent p.mode (Store b)
    → p.came + came_as p.mode ≡ length (stuff (p.body ++ (b ∷ [])))
came_more p r b h sent = omega (arith, h.came, stuffed_more p.body b)

holds_pushed : (t : Bool) (p : Progress) (r : Record) (b : ℕ) → ltb r.len 260 ≡ t → Sent p.mode (Store b) → Holds p r
    → Holds (absorbed p (Store b)) (pushed t r b)
holds_pushed true p r b e sent h =
    let l : r.len < 260 = ltb-true _ _ e in
    let body = p.body in
    let s : length body < 260 = length_short body (omega (arith, h.len)) in
    let now : beyond body ≡ 0 = beyond_none body (omega arith) in
    let m : length (body ++ (b ∷ [])) ≡ length body + 1 = length_snoc body b in
    let next : beyond (body ++ (b ∷ [])) ≡ 0 = beyond_none (body ++ (b ∷ [])) (omega arith) in
    record {
      mode = refl;
      len = omega (arith, h.len);
      size = rw length-set h.size;
      kept =
          rw (add-one, take-suc-set r.store r.len b (omega (arith, h.size)), holds_short p r h l)
          (sym (take_all 260 (body ++ (b ∷ [])) (omega arith)));
      came = came_more p r b h sent;
    }
holds_pushed false p r b e sent h =
    let l : 260 ≤ r.len = ltb-false _ _ e in
    let body = p.body in
    let n : 260 ≤ length body = length_full body (omega (arith, h.len)) in
    let m : length (body ++ (b ∷ [])) ≡ length body + 1 = length_snoc body b in
    let more = beyond-more body b n in
    let k : ℕ = min (r.len + length (stuff_byte b)) 65535 in
    record {
      mode = refl;
      len = omega (arith, h.len, more);
      size = h.size;
      kept =
          take_all k r.store (omega (arith, h.size)) ∙ sym (take_all r.len r.store (omega (arith, h.size))) ∙ h.kept
          ∙ sym (take-append-le 260 body (b ∷ []) n);
      came = came_more p r b h sent;
    }

holds-acted : (p : Progress) (r : Record) (a : Act) → Sent p.mode a → Holds p r → Holds (absorbed p a) (acted r a)
unfolding acted
holds-acted p r (Store b) sent h = holds_pushed (ltb r.len 260) p r b refl sent h
holds-acted p r (Become m) sent h = record { mode = refl; len = h.len; size = h.size; kept = h.kept; came = h.came }
holds-acted p r Discard sent h = record { mode = h.mode; len = h.len; size = h.size; kept = h.kept; came = h.came }

holds_absorb : (p : Progress) (r : Record) (b : ℕ) → eqb b 0x7E ≡ false → Holds p r → Holds (absorb p b) (acted r (act_of r.mode b))
unfolding absorb
holds_absorb p r b e h =
    subst (λ (m : Mode). Holds (absorb p b) (acted r (act_of m b))) (sym h.mode)
    (holds-acted p r (act_of p.mode b) (act_sent p.mode b e) h)

holds_opened : (r : Record) → length r.store ≡ 260 → Holds start (opened r)
unfolding stuff
holds_opened r h = record { mode = refl; len = refl; size = h; kept = refl; came = refl }

-- whether the stretch has a byte is read off the record
some_bytes : (body : List ℕ) → ltb 0 (length_for body) ≡ ltb 0 (length body)
unfolding stuff
some_bytes [] = refl
some_bytes (b ∷ body) =
    lt-ltb 0 (length_for (b ∷ body)) (omega arith) ∙ sym (lt-ltb 0 (length (b ∷ body)) (omega arith))

same-pending : (k : Mode) (body : List ℕ) → pending_in k (length_for body) ≡ pending_in k (length body)
same-pending Outside body = refl
same-pending Plain body = some_bytes body
same-pending Escaped body = refl
same-pending BadEscape body = refl
same-pending BareControl body = refl

holds-pending : (p : Progress) (r : Record) → Holds p r → pending r ≡ pending_in p.mode (length p.body)
holds-pending p r h =
    ap (λ (m : Mode). pending_in m r.len) h.mode ∙ ap (pending_in p.mode) h.len ∙ same-pending p.mode p.body

longest_within : (kind : Kind) → longest kind ≤ 260
longest_within Request = omega arith
longest_within Reply = omega arith

-- a body, and a store that holds it up to 260 bytes, have one item
module _ (kind : Kind) (n : ℕ) (store body : List ℕ) (len : n ≡ length_for body) (kept : take n store ≡ take 260 body) where
  same_item : item_in Plain kind n store ≡ check_body kind body
  same_item = go (ltb 260 (length body)) refl
    where
      go : (t : Bool) → ltb 260 (length body) ≡ t → item_in Plain kind n store ≡ check_body kind body
      go true e =
          let l : 260 < length body = ltb-true _ _ e in
          rw (lt-ltb 260 n (omega (arith, beyond_some body))) (sym (body_long kind body (omega (arith, longest_within kind))))
      go false e =
          let l : length body ≤ 260 = ltb-false _ _ e in
          rw (le-ltb 260 n (omega (arith, beyond_none body l)), kept ∙ take_all 260 body l)

read_finish : (p : Progress) (r : Record) (m : Mode) → Holds p r
    → item_in m r.kind r.len r.store ≡ judge_body r.kind (finish m p.came p.body)
unfolding finish judge_body
read_finish p r m h =
    let place : place_in r.len r.store ≡ reported_place p.came =
    same_place r.len r.store p.body h.len h.kept ∙ ap reported_place (sym h.came) in
    go m place
  where
    go : (m : Mode) → place_in r.len r.store ≡ reported_place p.came
        → item_in m r.kind r.len r.store ≡ judge_body r.kind (finish m p.came p.body)
    go Outside e = ap (λ (n : ℕ). refused (3 carrying n)) e
    go Plain e = same_item r.kind r.len r.store p.body h.len h.kept
    go Escaped e = ap (λ (n : ℕ). refused (3 carrying n)) e
    go BadEscape e = ap (λ (n : ℕ). refused (3 carrying n)) e
    go BareControl e = ap (λ (n : ℕ). refused (4 carrying n)) e

holds_item : (p : Progress) (r : Record) → Holds p r → item_of r ≡ judge_body r.kind (finished p)
holds_item p r h = ap (λ (m : Mode). item_in m r.kind r.len r.store) h.mode ∙ read_finish p r p.mode h

-- a record stands at a place of the stream
abbrev pub At : Kind → Place → Record → Type 0
At kind outside r = (r.kind ≡ kind) × (length r.store ≡ 260) × (r.mode ≡ Outside) × (r.len ≡ 0) × (r.noise < 4294967296)
At kind (inside s) r = (r.kind ≡ kind) × Holds (progress start s) r × (r.noise < 4294967296)

at_kind : (kind : Kind) (place : Place) (r : Record) → At kind place r → r.kind ≡ kind
at_kind kind outside r h = h.0
at_kind kind (inside s) r h = h.0

at_size : (kind : Kind) (place : Place) (r : Record) → At kind place r → length r.store ≡ 260
at_size kind outside r h = h.1
at_size kind (inside s) r h = h.1.size

at_few : (kind : Kind) (place : Place) (r : Record) → At kind place r → r.noise < 4294967296
at_few kind outside r h = h.4
at_few kind (inside s) r h = h.2

length_inside : (m : Mode) (n : ℕ) → Inside m → n ≤ 65535 → length_in_range m n ≡ true
length_inside Outside n h l = absurd h
length_inside Plain n h l = lt-ltb n 65536 (omega arith)
length_inside Escaped n h l = lt-ltb n 65536 (omega arith)
length_inside BadEscape n h l = lt-ltb n 65536 (omega arith)
length_inside BareControl n h l = lt-ltb n 65536 (omega arith)

length_at : (kind : Kind) (place : Place) (r : Record) → At kind place r → length_in_range r.mode r.len ≡ true
length_at kind outside r h = ap (λ (m : Mode). length_in_range m r.len) h.2 ∙ eq-eqb r.len 0 h.3
length_at kind (inside s) r h =
    ap (λ (m : Mode). length_in_range m r.len) h.1.mode
    ∙ length_inside (progress start s).mode r.len (inside_mode s) (omega (arith, h.1.len))

both : (t u : Bool) → t ≡ true → u ≡ true → (t && u) ≡ true
both true u h g = g
both false u h g = h

pub at_range : (kind : Kind) (place : Place) (r : Record) → At kind place r → in_range r ≡ true
at_range kind place r h =
    both (eqb (length r.store) 260) (ltb r.noise 4294967296 && length_in_range r.mode r.len)
    (eq-eqb (length r.store) 260 (at_size kind place r h))
    (both (ltb r.noise 4294967296) (length_in_range r.mode r.len) (lt-ltb r.noise 4294967296 (at_few kind place r h)) (length_at kind place r h))

at_byte : (t : Bool) (kind : Kind) (place : Place) (r : Record) (b : ℕ) → eqb b 0x7E ≡ t → At kind place r
    → At kind (Stream.next_byte t b place) (cond t (opened r) (acted r (act_of r.mode b)))
unfolding Stream.next_byte acted progress
at_byte true kind place r b e h = (at_kind kind place r h, holds_opened r (at_size kind place r h), at_few kind place r h)
at_byte false kind outside r b e h =
    subst (λ (m : Mode). At kind outside (acted r (act_of m b))) (sym h.2) (h.0, h.1, h.2, h.3, few_acted r Discard h.4)
at_byte false kind (inside s) r b e h =
    (kind_acted r (act_of r.mode b) ∙ h.0, rw progress_snoc (holds_absorb (progress start s) r b e h.1), few_acted r (act_of r.mode b) h.2)

pub at_next : (kind : Kind) (place : Place) (r : Record) (event : Event) → At kind place r → At kind (next place event) (next_record r event)
unfolding next next_record next_byte
at_next kind place r (byte b) h = at_byte (eqb b 0x7E) kind place r b refl h
at_next kind place r mark h = (at_kind kind place r h, at_size kind place r h, refl, refl, at_few kind place r h)

-- what an event gains, as the record shows it
abbrev pub gains : Record → Event → List Item
gains r (byte b) = cond (eqb b 0x7E) (cond (pending r) (item_of r ∷ []) []) []
gains r mark = cond (pending r) (refused (number 9) ∷ []) []

none_twice : (t : Bool) (i : Item) → cond t (cond false (i ∷ []) []) [] ≡ []
none_twice true i = refl
none_twice false i = refl

idle : (r : Record) (event : Event) → pending r ≡ false → gains r event ≡ []
idle r (byte b) h = rw h (none_twice (eqb b 0x7E) (item_of r))
idle r mark h = rw h

at_item : (kind : Kind) (s : List ℕ) (r : Record) → At kind (inside s) r → item_of r ≡ judge kind s
unfolding judge
at_item kind s r h =
    holds_item (progress start s) r h.1 ∙ ap (judge_body r.kind) (finish_start s) ∙ ap (λ (k : Kind). judge_body k (unstuff s)) h.0

-- what a record gains at a place is what the stream gains there
pub at-gain : (kind : Kind) (place : Place) (r : Record) (event : Event) → At kind place r → gains r event ≡ gain kind place event
unfolding gain progress
at-gain kind outside r event h = idle r event (ap (λ (m : Mode). pending_in m r.len) h.2)
at-gain kind (inside []) r event h = idle r event (holds-pending start r h.1)
at-gain kind (inside (x ∷ s)) r (byte b) h = rw (holds-pending (progress start (x ∷ s)) r h.1 ∙ (waits_cons x s).1, at_item kind (x ∷ s) r h)
at-gain kind (inside (x ∷ s)) r mark h = rw (holds-pending (progress start (x ∷ s)) r h.1 ∙ (waits_cons x s).1)

pub at-fresh : (kind : Kind) → At kind outside (fresh kind)
at-fresh kind = (refl, refl, refl, refl, omega arith)
