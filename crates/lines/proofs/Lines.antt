-- A text laid in a room. Assumes nothing.
use mathlib.Core.Path.{◌≡◌, subst}
use Prim.Native.Nat.{ℕ, ◌+◌}
use mathlib.Core.List.{List}
use lib.ListN.{length}
use Rattle.refusal.specs.Room.{overlay}

-- a text laid from a place on, and the place after it
abbrev pub Laid : ℕ → List ℕ → List ℕ → ℕ → List ℕ → Type 0
Laid r after room place text = (r ≡ place + length text) × (after ≡ overlay room place text)

pub laid-as : (r : ℕ) (after room : List ℕ) (place : ℕ) {text line : List ℕ} → text ≡ line → Laid r after room place text → Laid r after room place line
laid-as r after room place e h = subst (Laid r after room place) e h
