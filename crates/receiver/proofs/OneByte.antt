-- What one byte comes to: each `return` of `scan_one` and `scan_plain`. Assumes nothing.
use Prim.Native.Nat.{ℕ, ◌+◌}
use native.Mathlib.Omega.{arith}
use mathlib.Core.Path.{◌≡◌, refl, sym, ap, ◌∙◌}
use mathlib.Core.Bool.{Bool, true, false}
use mathlib.Core.List.{List, [], ◌∷◌}
use borrow.Author.Tests.{ltb-false}
use lib.Dec.{ltb}
use Rattle.receiver.specs.declared.Mode.{Mode}
use Rattle.receiver.specs.declared.Mode.TheVariants.{Plain}
use Rattle.receiver.specs.declared.Receiver.{Receiver}
use Rattle.receiver.specs.declared.Scanned.{Scanned}
use Rattle.receiver.specs.Record.{held, Store, Become, Discard, limited, act_of, acted, pending_in}
use Rattle.receiver.specs.Calls.{Scan, scanned_as, scan_from}
use Rattle.receiver.proofs.Turns.{in_stretch, passing, standing, stood, store_any, turn_close, turn_open, turn_act, turn_become, turn_discard, scan_end}

module _ (r : Receiver) (store : List ℕ) (b : ℕ) {s : Scanned} where
  pub closes : s ≡ record { receiver = r; taken = 1; closed = true } → b ≡ 0x7E → pending_in r.mode r.len ≡ true
      → scanned_as s store ≡ scan_from 0 (held r store) (b ∷ [])
  closes f e p = ap (λ (x : Scanned). scanned_as x store) f ∙ sym (turn_close 0 (held r store) b [] e p)

  pub opens : s ≡ standing r.kind Plain 0 r.noise → b ≡ 0x7E → pending_in r.mode r.len ≡ false
      → scanned_as s store ≡ scan_from 0 (held r store) (b ∷ [])
  opens f e p = stood store f ∙ sym (turn_open 0 (held r store) b [] e p ∙ scan_end 1 _)

  module _ (no_end : b ≡ 0x7E → ⊥) where
    pub becomes : (mode : Mode) → s ≡ standing r.kind mode r.len r.noise → act_of r.mode b ≡ Become mode
        → scanned_as s store ≡ scan_from 0 (held r store) (b ∷ [])
    becomes mode f p = stood store f ∙ sym (turn_become 0 (held r store) b [] no_end mode p ∙ scan_end 1 _)

    pub discards : {k : ℕ} → s ≡ standing r.kind r.mode r.len k → k ≡ limited (r.noise + 1) → act_of r.mode b ≡ Discard
        → scanned_as s store ≡ scan_from 0 (held r store) (b ∷ [])
    discards f q p = stood store f ∙ sym (turn_discard 0 (held r store) b [] no_end p q ∙ scan_end 1 _)

    pub keeps : {after : List ℕ} (v : ℕ) → scanned_as s after ≡ passing (acted (in_stretch r.kind r.len r.noise store) (Store v))
        → act_of r.mode b ≡ Store v → scanned_as s after ≡ scan_from 0 (held r store) (b ∷ [])
    keeps v f p =
        f ∙ ap passing (store_any r.kind r.mode r.len r.noise store v)
        ∙ sym (turn_act 0 (held r store) b [] no_end (Store v) p ∙ scan_end 1 _)

-- a 7E in the usual mode: an empty stretch stays as it is
module _ (r : Receiver) (store : List ℕ) (b : ℕ) where
  empty : (n : ℕ) → n ≡ 0 → ◌≡◌ {A = Scan} (record { before = in_stretch r.kind n r.noise store; taken = 1; closed = false }) (passing (in_stretch r.kind 0 r.noise store))
  empty n h = ap (λ (k : ℕ). passing (in_stretch r.kind k r.noise store)) h

  pub delimits : r.mode ≡ Plain → b ≡ 0x7E
      → ◌≡◌ {A = Scan} (record { before = held r store; taken = 1; closed = ltb 0 r.len }) (scan_from 0 (held r store) (b ∷ []))
  delimits h e = go (ltb 0 r.len) refl
    where
      go : (t : Bool) → ltb 0 r.len ≡ t → ◌≡◌ {A = Scan} (record { before = held r store; taken = 1; closed = t }) (scan_from 0 (held r store) (b ∷ []))
      go true p = sym (turn_close 0 (held r store) b [] e (ap (λ (m : Mode). pending_in m r.len) h ∙ p))
      go false p =
          ap (λ (m : Mode). passing (record { kind = r.kind; mode = m; len = r.len; noise = r.noise; store = store })) h
          ∙ empty r.len (omega (arith, ltb-false 0 r.len p))
          ∙ sym (turn_open 0 (held r store) b [] e (ap (λ (m : Mode). pending_in m r.len) h ∙ p) ∙ scan_end 1 (in_stretch r.kind 0 r.noise store))
