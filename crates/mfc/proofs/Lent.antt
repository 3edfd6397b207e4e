-- The calls of a receiver over lent bytes: each `return`. Assumes nothing.
use mathlib.Core.Path.{◌≡◌, refl, sym, ap, ◌∙◌}
use mathlib.Core.Bool.{Bool, true, false, cond}
use mathlib.Core.List.{List, [], ◌∷◌, ◌++◌, append_assoc}
use mathlib.Core.Option.{Option, none, some}
use Prim.Native.Nat.{ℕ, ◌+◌, ◌/◌, ◌%◌, ◌≤◌, ◌<◌}
use native.Mathlib.Omega.{arith}
use borrow.Author.Tests.{lt-ltb, le-ltb, ltb-true}
use lib.Dec.{ltb}
use lib.ListN.{length, get_or, take, drop, replicate, length-append, length-take, length-drop, length-replicate, take-append-drop}
use lib.Seq.{take_all, drop_at, drop-drop}
use Rattle.std.specs.Prelude.{Result, Ok, Err}
use Rattle.refusal.specs.Refusals.{Numbered, number, Answered, served, refused, answered, answered_as}
use Rattle.refusal.specs.Room.{overlay}
use Rattle.refusal.specs.declared.Refusal.{Refusal}
use Rattle.refusal.proofs.Order.{refused_not_served}
use Rattle.refusal.proofs.Room.{overlay_all}
use Rattle.shdlc.specs.declared.Kind.{Kind}
use Rattle.shdlc.specs.Numbers.{number_of_kind, kind_numbered}
use Rattle.receiver.specs.declared.Receiver.{Receiver}
use Rattle.receiver.specs.declared.Fed.{Fed}
use Rattle.receiver.specs.Record.{Record, held, number_of_mode, in_range, fresh}
use Rattle.receiver.specs.Calls.{gave, Outcome, paper_answer, paper_fed, fresh_of, refused_call, feed_of, noise_of}
use Rattle.receiver.proofs.Cases.{feed_range, feed_room, kind_fed}
use Rattle.mfc.specs.declared.answers.MfcFed.{MfcFed}
use Rattle.mfc.specs.declared.answers.MfcNoise.{MfcNoise}
use Rattle.mfc.specs.Receivers.{kind_at, record_size, count_bytes, head_of, bytes_of, count_in, store_in, fields_in, ranged, record_in, loaded, fed, fresh_as, fresh_record, fed_bytes, untouched, feed_as, feed_record, noise_told, noise_as, noise_record}
use Rattle.mfc.proofs.Heads.{place_of, by_eight, high_back, low-back, noise-back, Spells, spells, holds, kind_found}

-- the lent bytes with another store
abbrev pub stored : List ℕ → List ℕ → List ℕ
stored lent store = take 8 lent ++ (store ++ drop 260 (drop 8 lent))

-- a store and then a head: the bytes of the whole record
pub laid : (lent store head : List ℕ) → length head ≡ 8 → record_size ≤ length lent → length store ≡ 260
    → overlay (stored lent store) 0 head ≡ overlay lent 0 (head ++ store)
unfolding overlay
laid lent store head n h e =
    let eight : 0 + length head ≡ 8 = omega arith in
    let all : 0 + length (head ++ store) ≡ record_size = omega (arith, length-append head store) in
    let front : length (take 8 lent) ≡ 8 = omega (arith, length-take 8 lent) in
    rw (eight, all, drop_at (take 8 lent) (store ++ drop 260 (drop 8 lent)) 8 front, drop-drop 260 8 lent)
    (sym (append_assoc head store (drop record_size lent)))

pub store_size : (lent : List ℕ) → record_size ≤ length lent → length (store_in lent) ≡ 260
store_size lent h = simp (length-take, length-drop) (omega arith)

-- the store as it was
pub store_same : (lent : List ℕ) → stored lent (store_in lent) ≡ lent
store_same lent = rw (take-append-drop 260 (drop 8 lent), take-append-drop 8 lent)

-- a mode, a length and a noise count
abbrev tail_of : Receiver → List ℕ
tail_of r = place_of r.mode r.len ++ count_bytes r.noise

-- all but the kind, where the kind stands already, with another store
pub placed : (lent store : List ℕ) {a : ℕ} (r : Receiver) → a ≡ get_or lent 0 0 → record_size ≤ length lent → length store ≡ 260
    → overlay (stored lent store) 1 (tail_of r) ≡ overlay lent 0 ((a ∷ tail_of r) ++ store)
unfolding overlay
placed [] store r k h e = absurd (omega arith)
placed (x ∷ lent) store r k h e = rw k (laid (x ∷ lent) store (x ∷ tail_of r) refl h e)

pub stored_long : (lent store : List ℕ) → record_size ≤ length lent → 8 ≤ length (stored lent store)
stored_long lent store h = omega (arith, length-append (take 8 lent) (store ++ drop 260 (drop 8 lent)), length-take 8 lent)

-- another store leaves the noise count
pub stored-noise : (lent store : List ℕ) → record_size ≤ length lent → count_in (stored lent store) ≡ count_in lent
stored-noise lent store h =
    by_eight (λ (l : List ℕ). count_in (stored l store) ≡ count_in l) (λ s t u v w x y z rest. refl) lent (omega arith)

-- a record's fields, put back where they stand
abbrev first_eight : List ℕ → List ℕ
first_eight l = get_or l 0 0 ∷ get_or l 1 0 ∷ get_or l 2 0 ∷ get_or l 3 0 ∷ get_or l 4 0 ∷ get_or l 5 0 ∷ get_or l 6 0 ∷ get_or l 7 0 ∷ []

same_head : (lent : List ℕ) → 8 ≤ length lent → overlay lent 0 (first_eight lent) ≡ lent
unfolding overlay
same_head = by_eight (λ (l : List ℕ). overlay l 0 (first_eight l) ≡ l) (λ s t u v w x y z rest. refl)

pub put_back : (lent : List ℕ) (r : Record) → ((i : ℕ) → get_or lent i 0 < 256) → Spells lent r → overlay lent 0 (bytes_of r) ≡ lent
put_back lent r byte s =
    ap
    (λ (count : List ℕ). overlay lent 0 (number_of_kind r.kind ∷ number_of_mode r.mode ∷ r.len / 256 % 256 ∷ r.len % 256 ∷ (count ++ r.store)))
    (noise-back lent r.noise byte s.noise)
    ∙ rw (s.kind, s.mode, s.store, high_back r.len (get_or lent 2 0) (get_or lent 3 0) s.len (byte 2) (byte 3), low-back r.len (get_or lent 2 0) (get_or lent 3 0) s.len (byte 3))
    (sym (laid lent (store_in lent) (first_eight lent) refl s.long (store_size lent s.long))
    ∙ ap (λ (l : List ℕ). overlay l 0 (first_eight lent)) (store_same lent)
    ∙ same_head lent (omega (arith, s.long)))

-- a call on the fields is the call on the record: out of their ranges they are put back as they were
module _ (lent : List ℕ) (byte : (i : ℕ) → get_or lent i 0 < 256) (r : Record) (e : some r ≡ fields_in lent) where
  abbrev back : overlay lent 0 (bytes_of r) ≡ lent
  back = put_back lent r byte (spells lent r e)

  module _ (silence : Bool) (piece frame : List ℕ) where
    feed_back : (n : ℕ) → feed_of r silence piece frame ≡ refused_call n r frame → fed_bytes (feed_of r silence piece frame) lent ≡ untouched n lent frame
    feed_back n h = ap (λ (o : Outcome). fed_bytes o lent) h ∙ ap (λ (l : List ℕ). untouched n l frame) back

    feed_tests : (t u : Bool) → in_range r ≡ t → ltb (length frame) 260 ≡ u
        → fed_bytes (feed_of r silence piece frame) lent
        ≡ cond t (cond u (untouched 1 lent frame) (fed_bytes (feed_of r silence piece frame) lent)) (untouched 2 lent frame)
    feed_tests true true h g = feed_back 1 (feed_room r silence piece frame h (ltb-true _ _ g))
    feed_tests true false h g = refl
    feed_tests false u h g = feed_back 2 (feed_range r silence piece frame h)

    feed_cases : (t : Bool)
        → cond t (cond (ltb (length frame) 260) (untouched 1 lent frame) (fed_bytes (feed_of r silence piece frame) lent)) (untouched 2 lent frame)
        ≡ feed_as (cond t (some r) none) lent silence piece frame
    feed_cases true = refl
    feed_cases false = refl

    feed_fields : fed_bytes (feed_of r silence piece frame) lent ≡ feed_record lent silence piece frame
    unfolding feed_record record_in
    feed_fields =
        feed_tests (in_range r) (ltb (length frame) 260) refl refl
        ∙ feed_cases (in_range r)
        ∙ ap (λ (o : Option Record). feed_as (ranged o) lent silence piece frame) e

-- what is not loaded is 2
bad : {A : Type 0} {n : Numbered} (o : Option A) → ◌≡◌ {A = Answered A} (refused n) (loaded o) → (none ≡ o) × (n ≡ number 2)
bad none e = (refl, (let z : ◌≡◌ {A = Numbered} _ (number 2) = cc in z))
bad (some x) e = absurd (refused_not_served e)

-- the returns of the two calls on a record that is not loaded
module _ (lent : List ℕ) {n : Numbered} (e : ◌≡◌ {A = Answered Record} (refused n) (loaded (fields_in lent))) where
  pub feed_bad : {result : MfcFed} (silence : Bool) (piece frame : List ℕ) → result ≡ fed (gave (refused n)) 0
      → (result, lent, frame) ≡ feed_record lent silence piece frame
  unfolding feed_record record_in
  feed_bad silence piece frame r =
      let b = bad (fields_in lent) e in
      ap (λ (x : MfcFed). (x, lent, frame)) (r ∙ ap (λ (m : Numbered). fed (gave (refused m)) 0) b.1)
      ∙ ap (λ (o : Option Record). feed_as (ranged o) lent silence piece frame) b.0

  pub noise_bad : {result : MfcNoise} → result ≡ noise_told (refused n) → result ≡ noise_record lent
  unfolding noise_record record_in
  noise_bad r =
      let b = bad (fields_in lent) e in
      r ∙ ap (λ (m : Numbered). noise_told (refused m)) b.1 ∙ ap (λ (o : Option Record). noise_as (ranged o)) b.0

-- and of those on one that is
module _ (lent : List ℕ) {r : Receiver} (e : served (held r (store_in lent)) ≡ loaded (fields_in lent)) where
  -- a call that leaves the kind leaves the first byte
  kind_stays : {kind : Kind} → kind ≡ r.kind → number_of_kind kind ≡ get_or lent 0 0
  kind_stays f = ap number_of_kind f ∙ (spells lent (held r (store_in lent)) (holds lent e)).kind

  pub feed_held : (silence : Bool) (piece frame : List ℕ) (f : Fed) {store after bytes : List ℕ} {result : MfcFed}
      → ((i : ℕ) → get_or lent i 0 < 256)
      → record_size ≤ length lent
      → length store ≡ length (store_in lent)
      → paper_fed f store after ≡ feed_of (held r (store_in lent)) silence piece frame
      → bytes ≡ overlay (stored lent store) 1 (tail_of f.receiver)
      → result ≡ fed (paper_answer f.answer) f.taken
      → (result, bytes, after) ≡ feed_record lent silence piece frame
  feed_held silence piece frame f {store} {after} byte long size g b w =
      let k = kind_stays (kind_fed f store after (held r (store_in lent)) silence piece frame g) in
      rw (w, b, placed lent store f.receiver k long (size ∙ store_size lent long))
      (ap (λ (o : Outcome). fed_bytes o lent) g ∙ feed_fields lent byte (held r (store_in lent)) (holds lent e) silence piece frame)

  pub noise-held : (n : Result ℕ Refusal) {result : MfcNoise} → answered n ≡ noise_of (held r (store_in lent))
      → result ≡ noise_told (answered n) → result ≡ noise_record lent
  unfolding noise_record record_in noise_of
  noise-held n g w =
      w ∙ ap noise_told g ∙ go (in_range (held r (store_in lent))) ∙ ap (λ (o : Option Record). noise_as (ranged o)) (holds lent e)
    where
      go : (t : Bool) → noise_told (cond t (served r.noise) (refused (number 2))) ≡ noise_as (cond t (some (held r (store_in lent))) none)
      go true = refl
      go false = refl

-- a fresh record
module _ (kind : ℕ) (lent : List ℕ) where
  pub fresh_short : length lent < record_size → ◌≡◌ {A = ℕ × List ℕ} (1, lent) (fresh_record kind lent)
  unfolding fresh_record
  fresh_short h = rw (lt-ltb (length lent) record_size h) refl

  module _ (long : record_size ≤ length lent) where
    as_kind : fresh_as (kind_at kind) lent ≡ fresh_record kind lent
    unfolding fresh_record
    as_kind = rw (le-ltb (length lent) record_size long) refl

    pub fresh_kind : {why : Refusal} → Err why ≡ kind_numbered kind → ◌≡◌ {A = ℕ × List ℕ} (12, lent) (fresh_record kind lent)
    fresh_kind e =
        ap (λ (o : Option Kind). fresh_as o lent) (bad (kind_at kind) (ap answered e ∙ kind_found kind)).0 ∙ as_kind

    module _ {known : Kind} (is : Ok known ≡ kind_numbered kind) (m : Result Receiver Refusal) {store : List ℕ}
        (Made-so : (answered_as (λ r. held r (take 260 store)) m, store) ≡ fresh_of known (store_in lent)) where
      served_so : ◌≡◌ {A = Answered Record × List ℕ} (answered_as (λ r. held r (take 260 store)) m, store) (served (fresh known), replicate 260 0)
      unfolding fresh_of
      served_so =
          let size : length (store_in lent) ≡ 260 = store_size lent long in
          let zeros : List ℕ = replicate 260 0 in
          let all : length zeros ≡ length (store_in lent) = length-replicate {A = ℕ} 260 0 ∙ sym size in
          Made-so ∙ rw (le-ltb (length (store_in lent)) 260 (omega arith), overlay_all (store_in lent) zeros all)

      known_so : some known ≡ kind_at kind
      known_so = go (kind_at kind) (ap answered is ∙ kind_found kind)
        where
          go : (o : Option Kind) → served known ≡ loaded o → some known ≡ o
          go none e = absurd (refused_not_served (sym e))
          go (some x) e = let z : known ≡ x = cc in ap some z

      pub fresh-made : {r : Receiver} {bytes : List ℕ} → m ≡ Ok r
          → bytes ≡ overlay (stored lent store) 0 (head_of r.kind r.mode r.len r.noise) → (0, bytes) ≡ fresh_record kind lent
      fresh-made {r} {bytes} f b =
          let size : length store ≡ 260 = ap (λ (o : Answered Record × List ℕ). length o.1) served_so in
          let all : store ≡ take 260 store = sym (take_all 260 store (omega arith)) in
          let same : served (held r (take 260 store)) ≡ served (fresh known) = sym (ap (λ (x : Result Receiver Refusal). answered_as (λ r. held r (take 260 store)) x) f) ∙ ap (λ (o : Answered Record × List ℕ). o.0) served_so in
          let part : held r (take 260 store) ≡ fresh known = cc in
          let is-it : held r store ≡ fresh known = ap (held r) all ∙ part in
          let whole : bytes ≡ overlay lent 0 (bytes_of (held r store)) = b ∙ laid lent store (head_of r.kind r.mode r.len r.noise) refl long size in
          rw whole
          (ap (λ (x : Record). (0, overlay lent 0 (bytes_of x))) is-it ∙ ap (λ (o : Option Kind). fresh_as o lent) known_so ∙ as_kind)

      pub fresh_never : {why : Refusal} → m ≡ Err why → ⊥
      fresh_never f =
          refused_not_served (sym (ap (λ (x : Result Receiver Refusal). answered_as (λ r. held r (take 260 store)) x) f) ∙ ap (λ (o : Answered Record × List ℕ). o.0) served_so)
