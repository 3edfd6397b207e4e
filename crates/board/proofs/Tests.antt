-- Tests of entries, nodes and kinds. Assumes nothing.
use mathlib.Core.Path.{◌≡◌, refl, sym, ◌∙◌}
use Prim.Native.Nat.{ℕ}
use native.Mathlib.Omega.{arith}
use mathlib.Core.Bool.{Bool, true, false, ◌&&◌, ◌||◌}
use lib.Dec.{eqb}
use borrow.Author.Tests.{eq-eqb, ne_eqb, eqb-true, eqb-false}
use Rattle.board.specs.declared.entries.Kind.{Kind}
use Rattle.board.specs.declared.entries.Kind.TheVariants.{Valve, Calibration}
use Rattle.board.specs.declared.entries.Node.{Node}
use Rattle.board.specs.declared.entries.Entry.{Entry}
use Rattle.board.specs.Entries.{bus_number, kind_number, entry_of, free, is_free, has, is_of, on_node}
use Rattle.board.specs.Series.{same_node, same}

-- ---- truth values
pub true_not_false : true ≡ false → ⊥
true_not_false e = let z : ◌≡◌ {A = ℕ} 0 1 = cc in omega arith

pub and_left : (a b : Bool) → (a && b) ≡ true → a ≡ true
and_left true b e = refl
and_left false b e = e

pub and_right : (a b : Bool) → (a && b) ≡ true → b ≡ true
and_right true b e = e
and_right false b e = absurd (true_not_false (sym e))

pub both : (a b : Bool) → a ≡ true → b ≡ true → (a && b) ≡ true
both a b e f = rw (e, f)

pub or_left : (a b : Bool) → (a || b) ≡ false → a ≡ false
or_left true b e = e
or_left false b e = refl

pub or_right : (a b : Bool) → (a || b) ≡ false → b ≡ false
or_right true b e = absurd (true_not_false e)
or_right false b e = e

pub not-both : (b : Bool) → (b ≡ true → ⊥) → b ≡ false
not-both true h = absurd (h refl)
not-both false h = refl

pub eqb_sym : (a b : ℕ) → eqb a b ≡ eqb b a
eqb_sym a b = go (eqb a b) refl
  where
    go : (c : Bool) → eqb a b ≡ c → c ≡ eqb b a
    go true e = sym (eq-eqb b a (sym (eqb-true a b e)))
    go false e = sym (ne_eqb b a (λ h. eqb-false a b e (sym h)))

-- ---- the numbers of an entry
pub has_fields : (k b a : ℕ) (e : Entry) → has k b a e ≡ true → (e.kind ≡ k) × (e.bus ≡ b) × (e.address ≡ a)
unfolding has
has_fields k b a e h =
    let r : (eqb e.bus b && eqb e.address a) ≡ true = and_right (eqb e.kind k) _ h in (
      eqb-true e.kind k (and_left (eqb e.kind k) _ h),
      eqb-true e.bus b (and_left (eqb e.bus b) _ r),
      eqb-true e.address a (and_right (eqb e.bus b) _ r),
    )

pub has_those : (k b a : ℕ) (e : Entry) → e.kind ≡ k → e.bus ≡ b → e.address ≡ a → has k b a e ≡ true
unfolding has
has_those k b a e f g h = rw (eq-eqb _ _ f, eq-eqb _ _ g, eq-eqb _ _ h)

pub kind_not_0 : (kind : Kind) → kind_number kind ≡ 0 → ⊥
kind_not_0 Valve e = omega (arith, e)
kind_not_0 Calibration e = omega (arith, e)

-- a free place is no node's
pub free-not : (node : Node) (kind : Kind) (e : Entry) → is_free e ≡ true → is_of node kind e ≡ false
free-not node kind e h = not-both (is_of node kind e) (λ g. kind_not_0 kind (sym (has_fields _ _ _ e g).0 ∙ eqb-true e.kind 0 h))

pub free_none : (node : Node) (kind : Kind) → is_of node kind free ≡ false
free_none node kind = free-not node kind free refl

-- a test of an entry that is known to be a node's
module _ (node : Node) (kind : Kind) (e : Entry) (h : is_of node kind e ≡ true) where
  pub of_other : (other : Node) (k : Kind) → is_of other k e ≡ same other k node kind
  unfolding has
  of_other other k =
      rw ((has_fields _ _ _ e h).0, (has_fields _ _ _ e h).1, (has_fields _ _ _ e h).2)
      rw (eqb_sym (kind_number kind) (kind_number k), eqb_sym (bus_number node.bus) (bus_number other.bus), eqb_sym node.address other.address)

  node_either : (kind₁ : Kind) (s : Bool) → (eqb (kind_number Valve) (kind_number kind₁) && s || eqb (kind_number Calibration) (kind_number kind₁) && s) ≡ s
  node_either Valve true = refl
  node_either Valve false = refl
  node_either Calibration s = refl

  pub on-other : (other : Node) → on_node other e ≡ same_node other node
  unfolding on_node
  on-other other = rw (of_other other Valve, of_other other Calibration) (node_either kind (same_node other node))

-- the entry that is opened
pub of_entry : (node : Node) (kind : Kind) (other : Node) (k : Kind) (lease : ℕ) → is_of node kind (entry_of other k lease) ≡ same other k node kind
unfolding has
of_entry node kind other k lease = refl

pub self_entry : (node : Node) (kind : Kind) (lease : ℕ) → is_of node kind (entry_of node kind lease) ≡ true
self_entry node kind lease = has_those _ _ _ (entry_of node kind lease) refl refl refl

pub same_sym : (x : Node) (k : Kind) (y : Node) (j : Kind) → same x k y j ≡ same y j x k
same_sym x k y j = rw (eqb_sym (kind_number k) (kind_number j), eqb_sym (bus_number x.bus) (bus_number y.bus), eqb_sym x.address y.address)

-- the same node and kind have the same numbers
module _ (x : Node) (k : Kind) (y : Node) (j : Kind) (h : same x k y j ≡ true) where
  pub same_kind : kind_number k ≡ kind_number j
  same_kind = eqb-true (kind_number k) (kind_number j) (and_left (eqb (kind_number k) (kind_number j)) _ h)

  same-node : same_node x y ≡ true
  same-node = and_right (eqb (kind_number k) (kind_number j)) _ h

  pub same_bus : bus_number x.bus ≡ bus_number y.bus
  same_bus = eqb-true (bus_number x.bus) (bus_number y.bus) (and_left (eqb (bus_number x.bus) (bus_number y.bus)) _ same-node)

  pub same_address : x.address ≡ y.address
  same_address = eqb-true x.address y.address (and_right (eqb (bus_number x.bus) (bus_number y.bus)) _ same-node)

  pub same-entry : (lease : ℕ) → entry_of x k lease ≡ entry_of y j lease
  same-entry lease i = record { kind = same_kind i; bus = same_bus i; address = same_address i; spare = 0; left = lease }

  pub same_test : is_of y j ≡ is_of x k
  same_test i = has (sym same_kind i) (sym same_bus i) (sym same_address i)
