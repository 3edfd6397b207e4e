-- Bytes copied into a part of the room. Assumes nothing.
use mathlib.Core.Path.{◌≡◌, ap, ◌∙◌}
use mathlib.Core.List.{List, ◌++◌}
use Prim.Native.Nat.{ℕ, ◌+◌, ◌-◌}
use native.Mathlib.Omega.{arith}
use lib.ListN.{length, take, drop, length-drop}
use lib.Seq.{drop-drop, take_all}
use borrow.Rule.Slice.PartMut.{put_mid}
use Rattle.refusal.specs.Room.{overlay}

pub written : (room bytes : List ℕ) (place size : ℕ) → size ≡ length bytes → put_mid place size room bytes ≡ overlay room place bytes
unfolding overlay
written room bytes place size e =
    ap (λ (l : List ℕ). take place room ++ (bytes ++ l)) (drop-drop size place room ∙ ap (λ (n : ℕ). drop (place + n) room) e)

pub written_to : (room bytes : List ℕ) (place end : ℕ) → end ≡ place + length bytes → put_mid place (end - place) room bytes ≡ overlay room place bytes
written_to room bytes place end e = written room bytes place (end - place) (omega arith)

pub copied_to : (room : List ℕ) (place end : ℕ) {copied bytes : List ℕ} → copied ≡ bytes → end ≡ place + length bytes
    → put_mid place (end - place) room copied ≡ overlay room place bytes
copied_to room place end {copied} {bytes} c e = ap (put_mid place (end - place) room) c ∙ written_to room bytes place end e

-- the bytes from a place on
pub rest_from : (skip : ℕ) (l : List ℕ) → take (length l - skip) (drop skip l) ≡ drop skip l
rest_from skip l = take_all (length l - skip) (drop skip l) (simp length-drop (omega arith))
