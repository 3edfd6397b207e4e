-- `paper_read` is one-to-one: nothing of an answer is lost in 01's words. Assumes nothing.
use mathlib.Core.Path.{◌≡◌, ap}
use Prim.Native.Nat.{ℕ}
use native.Mathlib.Omega.{arith}
use Rattle.std.specs.Prelude.{Result, Ok, Err}
use Rattle.refusal.specs.declared.Refusal.{Refusal}
use Rattle.refusal.specs.Refusals.{paper}
use Rattle.refusal.proofs.OneToOne.{paper-one_to_one}
use Rattle.replies.specs.declared.ReadReply.{ReadReply}
use Rattle.replies.specs.declared.ReadReply.TheVariants.{Value, Text, Failed}
use Rattle.replies.specs.Paper.{paper_read}

wrong : {A : Type 0} → ◌≡◌ {A = ℕ} 0 1 → A
wrong h = absurd (omega arith)

pub read-one_to_one : (r s : Result ReadReply Refusal) → (paper_read r).0 ≡ (paper_read s).0 → (paper_read r).1 ≡ (paper_read s).1 → r ≡ s
read-one_to_one (Ok (Value r b)) (Ok (Value s d)) e f = cc
read-one_to_one (Ok (Value r b)) (Ok (Text p n d)) e f = wrong (cc)
read-one_to_one (Ok (Value r b)) (Ok (Failed c d)) e f = wrong (cc)
read-one_to_one (Ok (Value r b)) (Err w) e f = wrong (cc)
read-one_to_one (Ok (Text p n b)) (Ok (Value s d)) e f = wrong (cc)
read-one_to_one (Ok (Text p n b)) (Ok (Text q m d)) e f = cc
read-one_to_one (Ok (Text p n b)) (Ok (Failed c d)) e f = wrong (cc)
read-one_to_one (Ok (Text p n b)) (Err w) e f = wrong (cc)
read-one_to_one (Ok (Failed c b)) (Ok (Value s d)) e f = wrong (cc)
read-one_to_one (Ok (Failed c b)) (Ok (Text q m d)) e f = wrong (cc)
read-one_to_one (Ok (Failed c b)) (Ok (Failed k d)) e f = cc
read-one_to_one (Ok (Failed c b)) (Err w) e f = wrong (cc)
read-one_to_one (Err v) (Ok (Value s d)) e f = wrong (cc)
read-one_to_one (Err v) (Ok (Text q m d)) e f = wrong (cc)
read-one_to_one (Err v) (Ok (Failed c d)) e f = wrong (cc)
read-one_to_one (Err v) (Err w) e f = let g : paper v ≡ paper w = cc in ap Err (paper-one_to_one v w g)
