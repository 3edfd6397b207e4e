-- What a byte does in a mode, and what is pending there. Assumes nothing.
use Prim.Native.Nat.{ℕ}
use mathlib.Core.Path.{◌≡◌}
use mathlib.Core.Bool.{Bool, true, false, cond}
use mathlib.Core.Logic.{◌⊎◌, inl, inr}
use mathlib.Core.Option.{none, some}
use borrow.Author.Tests.{ne_eqb}
use lib.Bits.{bit_xor}
use Rattle.shdlc.specs.Stuffing.{escapes, left_of, is_control}
use Rattle.receiver.specs.declared.Mode.{Mode}
use Rattle.receiver.specs.declared.Mode.TheVariants.{Outside, Plain, Escaped, BadEscape, BareControl}
use Rattle.receiver.specs.Record.{Store, Become, Discard, act_of, pending_in}

module _ (m : Mode) (b : ℕ) where
  pub act_escape : m ≡ Plain → b ≡ 0x7D → act_of m b ≡ Become Escaped
  act_escape h e = rw (h, e)

  pub act_control : m ≡ Plain → (b ≡ 0x7D → ⊥) → is_control b ≡ true → act_of m b ≡ Become BareControl
  act_control h e c = rw (h, ne_eqb b 0x7D e, c)

  pub act_plain : m ≡ Plain → (b ≡ 0x7D → ⊥) → is_control b ≡ false → act_of m b ≡ Store b
  act_plain h e c = rw (h, ne_eqb b 0x7D e, c)

  pub act_escaped : (t : Bool) → m ≡ Escaped → left_of escapes b ≡ cond t (some (bit_xor b 0x20)) none → t ≡ true → act_of m b ≡ Store (bit_xor b 0x20)
  act_escaped t h e is = rw (h, e, is)

  pub act_bad : (t : Bool) → m ≡ Escaped → left_of escapes b ≡ cond t (some (bit_xor b 0x20)) none → t ≡ false → act_of m b ≡ Become BadEscape
  act_bad t h e is = rw (h, e, is)

  pub act_noise : m ≡ Outside → act_of m b ≡ Discard
  act_noise h = rw h

  -- a fault passes the rest of its stretch over
  pub act_faulty : (m ≡ BadEscape) ⊎ (m ≡ BareControl) → act_of m b ≡ Become m
  act_faulty (inl h) = rw h
  act_faulty (inr h) = rw h

pub pending_faulty : (m : Mode) (n : ℕ) → (m ≡ BadEscape) ⊎ (m ≡ BareControl) → pending_in m n ≡ true
pending_faulty m n (inl h) = rw h
pending_faulty m n (inr h) = rw h
