-- A record in lent bytes: what loads it, and what putting its head back leaves. Assumes nothing.
use mathlib.Core.Path.{◌≡◌, refl, sym, ap, ◌∙◌}
use mathlib.Core.Bool.{Bool, true, false, cond}
use mathlib.Core.List.{List, [], ◌∷◌, ◌++◌}
use mathlib.Core.Option.{Option, none, some}
use Prim.Native.Nat.{ℕ, zero, suc, ◌+◌, ◌*◌, ◌/◌, ◌%◌, ◌≤◌, ◌<◌}
use native.Mathlib.Omega.{arith}
use borrow.Author.Tests.{lt-ltb, le-ltb, ltb-false, ne_eqb}
use lib.Dec.{ltb}
use lib.ListN.{length, get_or, set, length-set}
use Rattle.std.specs.Prelude.{Ok, Err}
use Rattle.refusal.specs.Refusals.{Numbered, number, paper, Answered, served, refused, answered}
use Rattle.refusal.specs.Room.{overlay}
use Rattle.refusal.proofs.Order.{refused_not_served}
use Rattle.refusal.specs.declared.Refusal.{Refusal}
use Rattle.shdlc.specs.declared.Kind.{Kind}
use Rattle.shdlc.specs.declared.Kind.TheVariants.{Request, Reply}
use Rattle.receiver.specs.declared.Mode.{Mode}
use Rattle.receiver.specs.declared.Mode.TheVariants.{Outside, Plain, Escaped, BadEscape, BareControl}
use Rattle.receiver.specs.declared.Receiver.{Receiver}
use Rattle.receiver.specs.Record.{Record, held, number_of_mode, mode_numbered}
use Rattle.shdlc.specs.Numbers.{number_of_kind, kind_numbered}
use Rattle.mfc.specs.Receivers.{kind_at, mode_at, record_size, count_bytes, head_of, length_in, count_in, store_in, fields_of, fields_in, loaded}

-- the code finds the kind and the mode of a number, and 2 of any other number
pub kind_found : (n : ℕ) → answered (kind_numbered n) ≡ loaded (kind_at n)
kind_found zero = refl
kind_found (suc zero) = refl
kind_found (suc (suc n)) = rw (ne_eqb (suc (suc n)) 0 (λ e. omega arith), ne_eqb (suc (suc n)) 1 (λ e. omega arith)) refl

mode_found : (n : ℕ) → answered (mode_numbered n) ≡ loaded (mode_at n)
mode_found zero = refl
mode_found (suc zero) = refl
mode_found (suc (suc zero)) = refl
mode_found (suc (suc (suc zero))) = refl
mode_found (suc (suc (suc (suc zero)))) = refl
mode_found (suc (suc (suc (suc (suc n))))) =
    let m : ℕ = suc (suc (suc (suc (suc n)))) in
    rw (ne_eqb m 0 (λ e. omega arith), ne_eqb m 1 (λ e. omega arith), ne_eqb m 2 (λ e. omega arith), ne_eqb m 3 (λ e. omega arith), ne_eqb m 4 (λ e. omega arith)) refl

-- fields whose kind or mode is refused, and those that are there
module _ (len noise : ℕ) (store : List ℕ) where
  no_kind : {n : Numbered} (k : Option Kind) (m : Option Mode) → ◌≡◌ {A = Answered Kind} (refused n) (loaded k)
      → ◌≡◌ {A = Answered Record} (refused n) (loaded (fields_of k m len noise store))
  no_kind none m e = let z : ◌≡◌ {A = Numbered} _ (number 2) = cc in ap refused z
  no_kind (some kind) m e = absurd (refused_not_served e)

  no_mode : {n : Numbered} {kind : Kind} (k : Option Kind) (m : Option Mode) → ◌≡◌ {A = Answered Kind} (served kind) (loaded k)
      → ◌≡◌ {A = Answered Mode} (refused n) (loaded m) → ◌≡◌ {A = Answered Record} (refused n) (loaded (fields_of k m len noise store))
  no_mode none m f e = absurd (refused_not_served (sym f))
  no_mode (some kind) none f e = let z : ◌≡◌ {A = Numbered} _ (number 2) = cc in ap refused z
  no_mode (some kind) (some mode) f e = absurd (refused_not_served e)

  both : {kind : Kind} {mode : Mode} (k : Option Kind) (m : Option Mode) → ◌≡◌ {A = Answered Kind} (served kind) (loaded k)
      → ◌≡◌ {A = Answered Mode} (served mode) (loaded m)
      → ◌≡◌ {A = Answered Record} (served (record { kind = kind; mode = mode; len = len; noise = noise; store = store }))
      (loaded (fields_of k m len noise store))
  both none m f g = absurd (refused_not_served (sym f))
  both (some kind) none f g = absurd (refused_not_served (sym g))
  both {kind = k} {mode = m} (some kind) (some mode) f g =
      let e : k ≡ kind = cc in
      let h : m ≡ mode = cc in
      rw (e, h) refl

-- loading: each `return`
module _ (lent : List ℕ) where
  pub load_short : length lent < record_size → ◌≡◌ {A = Answered Record} (refused (number 2)) (loaded (fields_in lent))
  unfolding fields_in
  load_short h = rw (lt-ltb (length lent) record_size h) refl

  module _ (long : record_size ≤ length lent) where
    fields : fields_in lent ≡ fields_of (kind_at (get_or lent 0 0)) (mode_at (get_or lent 1 0)) (length_in lent) (count_in lent) (store_in lent)
    unfolding fields_in
    fields = rw (le-ltb (length lent) record_size long) refl

    pub load_kind : {why : Refusal} → Err why ≡ kind_numbered (get_or lent 0 0)
        → ◌≡◌ {A = Answered Record} (refused (paper why)) (loaded (fields_in lent))
    load_kind e =
        no_kind (length_in lent) (count_in lent) (store_in lent) (kind_at (get_or lent 0 0)) (mode_at (get_or lent 1 0))
        (ap answered e ∙ kind_found (get_or lent 0 0))
        ∙ sym (ap loaded fields)

    module _ {kind : Kind} (e : Ok kind ≡ kind_numbered (get_or lent 0 0)) where
      pub load_mode : {why : Refusal} → Err why ≡ mode_numbered (get_or lent 1 0)
          → ◌≡◌ {A = Answered Record} (refused (paper why)) (loaded (fields_in lent))
      load_mode f =
          no_mode (length_in lent) (count_in lent) (store_in lent) (kind_at (get_or lent 0 0)) (mode_at (get_or lent 1 0))
          (ap answered e ∙ kind_found (get_or lent 0 0))
          (ap answered f ∙ mode_found (get_or lent 1 0))
          ∙ sym (ap loaded fields)

      pub load_held : {mode : Mode} {len noise : ℕ} → Ok mode ≡ mode_numbered (get_or lent 1 0) → len ≡ length_in lent → noise ≡ count_in lent
          → ◌≡◌ {A = Answered Record} (served (record { kind = kind; mode = mode; len = len; noise = noise; store = store_in lent }))
          (loaded (fields_in lent))
      load_held f g h =
          rw (g, h)
          (both (length_in lent) (count_in lent) (store_in lent) (kind_at (get_or lent 0 0)) (mode_at (get_or lent 1 0))
          (ap answered e ∙ kind_found (get_or lent 0 0))
          (ap answered f ∙ mode_found (get_or lent 1 0))
          ∙ sym (ap loaded fields))

-- a number by which a kind or a mode is found is its own
kind_number_lem : (n : ℕ) (kind : Kind) → kind_at n ≡ some kind → number_of_kind kind ≡ n
kind_number_lem zero kind e = let k : kind ≡ Request = cc in rw k
kind_number_lem (suc zero) kind e = let k : kind ≡ Reply = cc in rw k
kind_number_lem (suc (suc n)) kind e = absurd (let z : ◌≡◌ {A = ℕ} 0 1 = cc in omega arith)

mode_number : (n : ℕ) (mode : Mode) → mode_at n ≡ some mode → number_of_mode mode ≡ n
mode_number zero mode e = let m : mode ≡ Outside = cc in rw m
mode_number (suc zero) mode e = let m : mode ≡ Plain = cc in rw m
mode_number (suc (suc zero)) mode e = let m : mode ≡ Escaped = cc in rw m
mode_number (suc (suc (suc zero))) mode e = let m : mode ≡ BadEscape = cc in rw m
mode_number (suc (suc (suc (suc zero)))) mode e = let m : mode ≡ BareControl = cc in rw m
mode_number (suc (suc (suc (suc (suc n))))) mode e = absurd (let z : ◌≡◌ {A = ℕ} 0 1 = cc in omega arith)

-- what lent bytes are that hold the fields of a record
pub record Spells (lent : List ℕ) (r : Record) : Type 0 where
  pub long : record_size ≤ length lent
  pub kind : number_of_kind r.kind ≡ get_or lent 0 0
  pub mode : number_of_mode r.mode ≡ get_or lent 1 0
  pub len : r.len ≡ length_in lent
  pub noise : r.noise ≡ count_in lent
  pub store : r.store ≡ store_in lent

abbrev or_else : Option Record → Record → Record
or_else none other = other
or_else (some r) other = r

pub spells : (lent : List ℕ) (r : Record) → some r ≡ fields_in lent → Spells lent r
unfolding fields_in
spells lent r = go (ltb (length lent) record_size) (kind_at (get_or lent 0 0)) (mode_at (get_or lent 1 0)) refl refl refl
  where
    go : (t : Bool) (k : Option Kind) (m : Option Mode) → ltb (length lent) record_size ≡ t → kind_at (get_or lent 0 0) ≡ k → mode_at (get_or lent 1 0) ≡ m
        → some r ≡ cond t none (fields_of k m (length_in lent) (count_in lent) (store_in lent)) → Spells lent r
    go true k m h p q f = absurd (let z : ◌≡◌ {A = ℕ} 0 1 = cc in omega arith)
    go false none m h p q f = absurd (let z : ◌≡◌ {A = ℕ} 0 1 = cc in omega arith)
    go false (some kind) none h p q f = absurd (let z : ◌≡◌ {A = ℕ} 0 1 = cc in omega arith)
    go false (some kind) (some mode) h p q f =
        let e = ap (λ (o : Option Record). or_else o r) f in
        record {
          long = ltb-false (length lent) record_size h;
          kind = ap (λ (x : Record). number_of_kind x.kind) e ∙ kind_number_lem (get_or lent 0 0) kind p;
          mode = ap (λ (x : Record). number_of_mode x.mode) e ∙ mode_number (get_or lent 1 0) mode q;
          len = ap (λ (x : Record). x.len) e;
          noise = ap (λ (x : Record). x.noise) e;
          store = ap (λ (x : Record). x.store) e;
        }

-- what was loaded is what the bytes hold
pub holds : (lent : List ℕ) {r : Receiver} → served (held r (store_in lent)) ≡ loaded (fields_in lent) → some (held r (store_in lent)) ≡ fields_in lent
holds lent {r} = go (fields_in lent)
  where
    go : (o : Option Record) → served (held r (store_in lent)) ≡ loaded o → some (held r (store_in lent)) ≡ o
    go none e = absurd (refused_not_served (sym e))
    go (some x) e = let z : held r (store_in lent) ≡ x = cc in ap some z

pub loaded_long : (lent : List ℕ) {r : Receiver} → served (held r (store_in lent)) ≡ loaded (fields_in lent) → record_size ≤ length lent
loaded_long lent {r} e = (spells lent (held r (store_in lent)) (holds lent e)).long

pub loaded_noise : (lent : List ℕ) {r : Receiver} → served (held r (store_in lent)) ≡ loaded (fields_in lent) → r.noise ≡ count_in lent
loaded_noise lent {r} e = (spells lent (held r (store_in lent)) (holds lent e)).noise

-- what holds of eight bytes and any others after them
pub by_eight : (P : List ℕ → Type 0)
    → ((s t u v w x y z : ℕ) (rest : List ℕ) → P (s ∷ t ∷ u ∷ v ∷ w ∷ x ∷ y ∷ z ∷ rest)) → (l : List ℕ) → 8 ≤ length l → P l
by_eight P p [] h = absurd (omega arith)
by_eight P p (s ∷ []) h = absurd (omega arith)
by_eight P p (s ∷ t ∷ []) h = absurd (omega arith)
by_eight P p (s ∷ t ∷ u ∷ []) h = absurd (omega arith)
by_eight P p (s ∷ t ∷ u ∷ v ∷ []) h = absurd (omega arith)
by_eight P p (s ∷ t ∷ u ∷ v ∷ w ∷ []) h = absurd (omega arith)
by_eight P p (s ∷ t ∷ u ∷ v ∷ w ∷ x ∷ []) h = absurd (omega arith)
by_eight P p (s ∷ t ∷ u ∷ v ∷ w ∷ x ∷ y ∷ []) h = absurd (omega arith)
by_eight P p (s ∷ t ∷ u ∷ v ∷ w ∷ x ∷ y ∷ z ∷ rest) h = p s t u v w x y z rest

-- a record's mode and length, as its bytes have them after the kind
abbrev pub place_of : Mode → ℕ → List ℕ
place_of mode len = number_of_mode mode ∷ len / 256 % 256 ∷ len % 256 ∷ []

-- a mode that stands already
pub mode_same : (l : List ℕ) (n : ℕ) → 2 ≤ length l → get_or l 1 0 ≡ n → l ≡ set l 1 n
mode_same [] n h e = absurd (omega arith)
mode_same (x ∷ []) n h e = absurd (omega arith)
mode_same (x ∷ y ∷ l) n h e = ap (λ (v : ℕ). x ∷ v ∷ l) e

-- the bytes of a number
pub high_back : (n a b : ℕ) → n ≡ a * 256 + b → a < 256 → b < 256 → n / 256 % 256 ≡ a
high_back n a b e g h = omega arith

pub low-back : (n a b : ℕ) → n ≡ a * 256 + b → b < 256 → n % 256 ≡ b
low-back n a b e h = omega arith

pub noise-back : (lent : List ℕ) (n : ℕ) → ((i : ℕ) → get_or lent i 0 < 256) → n ≡ count_in lent
    → count_bytes n ≡ get_or lent 4 0 ∷ get_or lent 5 0 ∷ get_or lent 6 0 ∷ get_or lent 7 0 ∷ []
noise-back lent n byte e =
    let a : ℕ = get_or lent 4 0 in
    let b : ℕ = get_or lent 5 0 in
    let c : ℕ = get_or lent 6 0 in
    let d : ℕ = get_or lent 7 0 in
    let three : n / 256 ≡ (a * 256 + b) * 256 + c = omega (arith, byte 7) in
    let two : n / 65536 ≡ a * 256 + b = omega (arith, byte 6, byte 7) in
    let one : n / 16777216 ≡ a = omega (arith, byte 5, byte 6, byte 7) in
    let first : n / 16777216 % 256 ≡ a = rw one (omega (arith, byte 4)) in
    let second : n / 65536 % 256 ≡ b = rw two (omega (arith, byte 5)) in
    let third : n / 256 % 256 ≡ c = rw three (omega (arith, byte 6)) in
    let last : n % 256 ≡ d = omega (arith, byte 7) in
    λ i. first i ∷ second i ∷ third i ∷ last i ∷ []

-- a count that stands already is put as it stands
pub noise-same : (l : List ℕ) (n : ℕ) → ((i : ℕ) → get_or l i 0 < 256) → 8 ≤ length l → n ≡ count_in l → l ≡ overlay l 4 (count_bytes n)
unfolding overlay
noise-same l n byte h e =
    by_eight (λ (k : List ℕ). k ≡ overlay k 4 (get_or k 4 0 ∷ get_or k 5 0 ∷ get_or k 6 0 ∷ get_or k 7 0 ∷ [])) (λ s t u v w x y z rest. refl) l h
    ∙ ap (overlay l 4) (sym (noise-back l n byte e))

-- the count and then mode and length: all that follows the kind
pub after-put : (l : List ℕ) (r : Receiver) {mid after : List ℕ} → 8 ≤ length l → mid ≡ overlay l 4 (count_bytes r.noise)
    → after ≡ overlay mid 1 (place_of r.mode r.len) → after ≡ overlay l 1 (place_of r.mode r.len ++ count_bytes r.noise)
unfolding overlay
after-put l r {mid} h e f =
    f ∙ ap (λ (m : List ℕ). overlay m 1 (place_of r.mode r.len)) e
    ∙ by_eight
    (λ (k : List ℕ).
    overlay (overlay k 4 (count_bytes r.noise)) 1 (place_of r.mode r.len) ≡ overlay k 1 (place_of r.mode r.len ++ count_bytes r.noise))
    (λ s t u v w x y z rest. refl) l h

-- the kind, the count, and mode and length make the head
pub head_put : (l : List ℕ) (r : Receiver) {a : ℕ} {mid after : List ℕ} → 8 ≤ length l → a ≡ number_of_kind r.kind
    → mid ≡ overlay (set l 0 a) 4 (count_bytes r.noise) → after ≡ overlay mid 1 (place_of r.mode r.len)
    → after ≡ overlay l 0 (head_of r.kind r.mode r.len r.noise)
unfolding overlay
head_put l r {a} h e f g =
    after-put (set l 0 a) r (omega (arith, length-set l 0 a)) f g
    ∙ by_eight
    (λ (k : List ℕ).
    overlay (set k 0 a) 1 (place_of r.mode r.len ++ count_bytes r.noise) ≡ overlay k 0 (head_of r.kind r.mode r.len r.noise))
    (λ s t u v w x y z rest. rw e) l h
