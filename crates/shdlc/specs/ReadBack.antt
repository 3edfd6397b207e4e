-- Demand 2 on the wire: what a frame is there, written and read. The proof is `read_back` of proofs/ReadBack.antt. An unstuffing that
-- takes another byte after a 7D than the four of the table does not meet it.
use Rattle.std.specs.Prelude.{ℕ, ◌≤◌, ◌≡◌, false, List, [], ◌∷◌, ◌++◌, map, eqb, length}
use Rattle.refusal.specs.Refusals.{served}
use Rattle.shdlc.specs.declared.Kind.{Kind}
use Rattle.shdlc.specs.Stuffing.{stuff}
use Rattle.shdlc.specs.Body.{check_body}
use Rattle.shdlc.specs.Stream.{byte, items}

-- a stretch between two 7E: the bytes on the wire
abbrev pub closed : List ℕ → List ℕ
closed stretch = 0x7E ∷ stretch ++ (0x7E ∷ [])

-- no byte of a stretch is 7E
abbrev pub Unbroken : List ℕ → Type 0
Unbroken [] = Unit {0}
Unbroken (b ∷ bytes) = (eqb b 0x7E ≡ false) × Unbroken bytes

pub record ReadBack : Type 0 where
  -- a stuffed body has no 7E, and on the wire it is a stream of one item: the body, or what is refused of it
  pub stuffed_unbroken : (body : List ℕ) → Unbroken (stuff body)
  pub wire_items : (kind : Kind) (body : List ℕ) → 1 ≤ length body → items kind (map byte (closed (stuff body))) ≡ check_body kind body ∷ []
  -- a stretch that gives a frame is the stuffed body: a frame has one form on the wire
  pub one_wire : (kind : Kind) (stretch : List ℕ) → Unbroken stretch → (body : List ℕ) → items kind (map byte (closed stretch)) ≡ served body ∷ []
      → stretch ≡ stuff body
