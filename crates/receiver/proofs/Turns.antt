-- What a turn of the scan's loop comes to, and a run of bytes that it stores. Assumes nothing.
use Prim.Native.Nat.{ℕ, ◌+◌, ◌-◌, ◌<◌, ◌≤◌, min}
use native.Mathlib.Omega.{arith}
use mathlib.Core.Path.{◌≡◌, refl, sym, ap, subst, ◌∙◌}
use mathlib.Core.Bool.{Bool, true, false, cond, ◌||◌, false≢true}
use mathlib.Core.List.{List, [], ◌∷◌}
use native.Mathlib.Nat.{add-zero, add_assoc}
use borrow.Author.Tests.{lt-ltb, le-ltb, ne_eqb, eq-eqb, eqb-false}
use lib.Dec.{ltb, eqb}
use lib.ListN.{length, get_or, take, drop, set, length-drop}
use lib.Seq.{take_all, drop-drop}
use Rattle.shdlc.specs.declared.Kind.{Kind}
use Rattle.shdlc.specs.Stuffing.{stuff_byte, is_control}
use Rattle.refusal.proofs.Rest.{rest_here, rest_end}
use Rattle.receiver.specs.declared.Mode.{Mode}
use Rattle.receiver.specs.declared.Mode.TheVariants.{Outside, Plain, Escaped, BareControl}
use Rattle.receiver.specs.Record.{Record, Act, Store, Become, Discard, limited, act_of, pushed, acted, opened, pending, next_byte}
use Rattle.receiver.specs.declared.Scanned.{Scanned}
use Rattle.receiver.specs.Calls.{Scan, scanned_as, scan_from}
use Rattle.receiver.proofs.Modes.{act_noise}

-- in a stretch without a fault, n bytes held
abbrev pub in_stretch : Kind → ℕ → ℕ → List ℕ → Record
in_stretch kind n noise store = record { kind = kind; mode = Plain; len = n; noise = noise; store = store }

-- what one byte leaves that ends no stretch, and the struct that the code makes of it
abbrev pub passing : Record → Scan
passing r = record { before = r; taken = 1; closed = false }

abbrev pub standing : Kind → Mode → ℕ → ℕ → Scanned
standing kind mode len noise = record { receiver = record { kind = kind; mode = mode; len = len; noise = noise }; taken = 1; closed = false }

pub stood : {s : Scanned} {kind : Kind} {mode : Mode} {len noise : ℕ} (store : List ℕ) → s ≡ standing kind mode len noise
    → scanned_as s store ≡ passing (record { kind = kind; mode = mode; len = len; noise = noise; store = store })
stood store e = ap (λ (s : Scanned). scanned_as s store) e

-- the first n bytes of a piece are stored one after the other in a stretch: to scan the piece is to scan what is left of it
abbrev pub Runs : List ℕ → ℕ → List ℕ → List ℕ → ℕ → Type 0
Runs before len piece after n =
    (kind : Kind) (noise taken : ℕ)
    → scan_from taken (in_stretch kind len noise before) piece ≡ scan_from (taken + n) (in_stretch kind (len + n) noise after) (drop n piece)

module _ (r : Record) (b : ℕ) where
  pub store_room : r.len < 260
      → acted r (Store b) ≡ record { kind = r.kind; mode = Plain; len = r.len + 1; noise = r.noise; store = set r.store r.len b }
  unfolding acted
  store_room h = rw (lt-ltb r.len 260 h)

  pub store_full : 260 ≤ r.len → {k len : ℕ} → length (stuff_byte b) ≡ k → len ≡ min (r.len + k) 65535
      → acted r (Store b) ≡ record { kind = r.kind; mode = Plain; len = len; noise = r.noise; store = r.store }
  unfolding acted
  store_full h e l = rw (le-ltb r.len 260 h, e, l)

-- a byte of the body leaves the same in whatever mode it is read
pub store_any : (kind : Kind) (mode : Mode) (n noise : ℕ) (store : List ℕ) (b : ℕ)
    → acted (in_stretch kind n noise store) (Store b) ≡ acted (record { kind = kind; mode = mode; len = n; noise = noise; store = store }) (Store b)
unfolding acted
store_any kind mode n noise store b = go (ltb n 260)
  where
    go : (t : Bool) → pushed t (in_stretch kind n noise store) b ≡ pushed t (record { kind = kind; mode = mode; len = n; noise = noise; store = store }) b
    go true = refl
    go false = refl

module _ (n : ℕ) (r : Record) (b : ℕ) (piece : List ℕ) where
  pub turn_close : b ≡ 0x7E → pending r ≡ true → scan_from n r (b ∷ piece) ≡ record { before = r; taken = n + 1; closed = true }
  unfolding scan_from
  turn_close e p = simp (eq-eqb b 0x7E e, p)

  pub turn_open : b ≡ 0x7E → pending r ≡ false → scan_from n r (b ∷ piece) ≡ scan_from (n + 1) (opened r) piece
  unfolding scan_from next_byte
  turn_open e p = simp (eq-eqb b 0x7E e, p)

  pub turn_act : (b ≡ 0x7E → ⊥) → (a : Act) → act_of r.mode b ≡ a → scan_from n r (b ∷ piece) ≡ scan_from (n + 1) (acted r a) piece
  unfolding scan_from next_byte
  turn_act e a p = simp (ne_eqb b 0x7E e) (ap (λ (x : Act). scan_from (n + 1) (acted r x) piece) p)

  pub turn_become : (b ≡ 0x7E → ⊥) → (m : Mode) → act_of r.mode b ≡ Become m
      → scan_from n r (b ∷ piece) ≡ scan_from (n + 1) (record { kind = r.kind; mode = m; len = r.len; noise = r.noise; store = r.store }) piece
  unfolding acted
  turn_become e m p = turn_act e (Become m) p

  pub turn_discard : (b ≡ 0x7E → ⊥) → act_of r.mode b ≡ Discard → {k : ℕ} → k ≡ limited (r.noise + 1)
      → scan_from n r (b ∷ piece) ≡ scan_from (n + 1) (record { kind = r.kind; mode = r.mode; len = r.len; noise = k; store = r.store }) piece
  unfolding acted
  turn_discard e p q =
      turn_act e Discard p
      ∙ ap (λ (k : ℕ). scan_from (n + 1) (record { kind = r.kind; mode = r.mode; len = r.len; noise = k; store = r.store }) piece) (sym q)

  -- a byte of the body where there is room for it, and where there is none
  pub turn_store : (b ≡ 0x7E → ⊥) → (v : ℕ) → act_of r.mode b ≡ Store v → r.len < 260
      → scan_from n r (b ∷ piece) ≡ scan_from (n + 1) (in_stretch r.kind (r.len + 1) r.noise (set r.store r.len v)) piece
  turn_store e v p h = turn_act e (Store v) p ∙ ap (λ (x : Record). scan_from (n + 1) x piece) (store_room r v h)

  pub turn_full : (b ≡ 0x7E → ⊥) → (v : ℕ) → act_of r.mode b ≡ Store v → 260 ≤ r.len → {k len : ℕ} → length (stuff_byte v) ≡ k
      → len ≡ min (r.len + k) 65535
      → scan_from n r (b ∷ piece) ≡ scan_from (n + 1) (in_stretch r.kind len r.noise r.store) piece
  turn_full e v p h s l = turn_act e (Store v) p ∙ ap (λ (x : Record). scan_from (n + 1) x piece) (store_full r v h s l)

-- a loop that has read i bytes of the piece reads one more
pub scan_next : (whole : Scan) (r : Record) (piece : List ℕ) (i : ℕ) {x : Scan} → i < length piece
    → whole ≡ scan_from i r (drop i piece) → scan_from i r (get_or piece i 0 ∷ drop (i + 1) piece) ≡ x → whole ≡ x
scan_next whole r piece i h e q = e ∙ ap (scan_from i r) (rest_here piece i h) ∙ q

pub scan_end : (n : ℕ) (r : Record) → scan_from n r [] ≡ record { before = r; taken = n; closed = false }
unfolding scan_from
scan_end n r = refl

-- a loop that has read the whole piece
pub scan_done : (whole : Scan) (r : Record) (piece : List ℕ) (i : ℕ) → length piece ≤ i
    → whole ≡ scan_from i r (drop i piece) → whole ≡ record { before = r; taken = i; closed = false }
scan_done whole r piece i h e = e ∙ ap (scan_from i r) (rest_end piece i h) ∙ scan_end i r

-- a byte that may not stand by itself in a stretch
abbrev special : ℕ → Bool
special b = eqb b 0x7E || (eqb b 0x7D || is_control b)

-- a run of bytes that a stretch stores
pub run_none : (store : List ℕ) (len : ℕ) (piece : List ℕ) → Runs store len piece store 0
run_none store len piece kind noise taken = simp add-zero

-- a byte that is not special is stored
plain_byte : (t u v : Bool) (b : ℕ) → (t || (u || v)) ≡ false
    → (t ≡ false) × (cond u (Become Escaped) (cond v (Become BareControl) (Store b)) ≡ Store b)
plain_byte true u v b h = absurd (false≢true (sym h))
plain_byte false true v b h = absurd (false≢true (sym h))
plain_byte false false true b h = absurd (false≢true (sym h))
plain_byte false false false b h = (refl, refl)

module _ (start : List ℕ) (len : ℕ) (piece store : List ℕ) (i : ℕ) where
  -- one more byte of it
  run_next : i < length piece → len + i < 260 → special (get_or piece i 0) ≡ false
      → Runs start len piece store i → Runs start len piece (set store (len + i) (get_or piece i 0)) (i + 1)
  run_next h room plain runs kind noise taken =
      let b : ℕ = get_or piece i 0 in
      let p = plain_byte (eqb b 0x7E) (eqb b 0x7D) (is_control b) b plain in
      runs kind noise taken ∙ ap (scan_from (taken + i) (in_stretch kind (len + i) noise store)) (rest_here piece i h)
      ∙ turn_store (taken + i) (in_stretch kind (len + i) noise store) b (drop (i + 1) piece) (eqb-false b 0x7E p.0) b p.1 room
      ∙ rw (add_assoc taken i 1, add_assoc len i 1)

  -- the same of a byte that the code has from a part of the piece
  pub run_more : (b : ℕ) → b ≡ get_or piece i 0 → i < length piece → len + i < 260 → special b ≡ false
      → Runs start len piece store i → Runs start len piece (set store (len + i) b) (i + 1)
  run_more b e h room plain runs =
      subst (λ (v : ℕ). Runs start len piece (set store (len + i) v) (i + 1)) (sym e) (run_next h room (ap special (sym e) ∙ plain) runs)

-- a run in what a piece has left: its bytes are among those left, and the scan goes on after them
module _ (piece : List ℕ) (j : ℕ) where
  left : j ≤ length piece → take (length piece - j) (drop j piece) ≡ drop j piece
  left h = take_all (length piece - j) (drop j piece) (omega (arith, length-drop j piece))

  pub run_within : (n : ℕ) → j ≤ length piece → n ≤ length (take (length piece - j) (drop j piece)) → j + n ≤ length piece
  run_within n h g = omega (arith, ap length (left h), length-drop j piece)

  pub run_left : (start store : List ℕ) (len n noise : ℕ) (kind : Kind) → j ≤ length piece
      → Runs start len (take (length piece - j) (drop j piece)) store n
      → scan_from j (in_stretch kind len noise start) (drop j piece) ≡ scan_from (j + n) (in_stretch kind (len + n) noise store) (drop (j + n) piece)
  run_left start store len n noise kind h runs =
      subst
      (λ (p : List ℕ). scan_from j (in_stretch kind len noise start) p ≡ scan_from (j + n) (in_stretch kind (len + n) noise store) (drop n p))
      (left h) (runs kind noise j)
      ∙ ap (scan_from (j + n) (in_stretch kind (len + n) noise store)) (drop-drop n j piece)

-- the first n bytes of a piece are noise
abbrev pub Skips : Mode → List ℕ → ℕ → Type 0
Skips m piece n =
    (kind : Kind) (len noise taken : ℕ) (store : List ℕ) → noise < 4294967296
    → scan_from taken (record { kind = kind; mode = m; len = len; noise = noise; store = store }) piece
    ≡ scan_from (taken + n) (record { kind = kind; mode = m; len = len; noise = limited (noise + n); store = store }) (drop n piece)

pub skip_next : (m : Mode) (piece : List ℕ) (i : ℕ) → m ≡ Outside → i < length piece → (get_or piece i 0 ≡ 0x7E → ⊥) → Skips m piece i → Skips m piece (i + 1)
skip_next m piece i is l no_end skips kind len noise taken store few =
    let e : limited (noise + (i + 1)) ≡ limited (limited (noise + i) + 1) = omega arith in
    let here : Record = record { kind = kind; mode = m; len = len; noise = limited (noise + i); store = store } in
    skips kind len noise taken store few ∙ ap (scan_from (taken + i) here) (rest_here piece i l)
    ∙ turn_discard (taken + i) here (get_or piece i 0) (drop (i + 1) piece) no_end (act_noise m (get_or piece i 0) is) e
    ∙ rw (add_assoc taken i 1)
