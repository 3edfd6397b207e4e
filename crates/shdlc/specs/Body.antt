-- 01, Frames on the wire: "The unstuffed body of a request is address, command, L, L data bytes, checksum. A reply has a state
-- byte between command and L." And what is refused of a body.
use Rattle.std.specs.Prelude.{ℕ, ◌-◌, Bool, not, List, [], ◌∷◌, ltb, eqb, length, get_or, take}
use Rattle.refusal.specs.Refusals.{Numbered, number, Answered, in_order}
use Rattle.shdlc.specs.declared.Kind.{Kind}
use Rattle.shdlc.specs.declared.Kind.TheVariants.{Request, Reply}
use Rattle.shdlc.specs.Checksum.{checksum_of}

-- "Bodies are 4 to 259 bytes (request) and 5 to 260 (reply)."
abbrev pub shortest : Kind → ℕ
shortest Request = 4
shortest Reply = 5

abbrev pub longest : Kind → ℕ
longest Request = 259
longest Reply = 260

-- where L stands
abbrev pub length_place : Kind → ℕ
length_place Request = 2
length_place Reply = 3

-- 01, Refusal numbers, rows 5 to 8 in their order
abbrev pub body_checks : Kind → List ℕ → List (Bool × Numbered)
body_checks kind body =
    (ltb (longest kind) (length body), number 5)
    ∷ (ltb (length body) (shortest kind), number 6)
    ∷ (not (eqb (get_or body (length_place kind) 0) (length body - shortest kind)), number 7)
    ∷ (not (eqb (get_or body (length body - 1) 0) (checksum_of (take (length body - 1) body))), number 8)
    ∷ []

unfoldable pub check_body : Kind → List ℕ → Answered (List ℕ)
check_body kind body = in_order (body_checks kind body) body
