-- The kinds of a record and their numbers. 02 (v): "Kind 1 is request-side bytes, 2 reply-side bytes, 3 a silence mark (empty body)."
use Rattle.std.specs.Prelude.{ℕ, cond, eqb, Result, Ok, Err}
use Rattle.refusal.specs.declared.Refusal.{Refusal}
use Rattle.refusal.specs.declared.Refusal.TheVariants.{BadKind}
use Rattle.wire_log.specs.declared.Kind.{Kind}
use Rattle.wire_log.specs.declared.Kind.TheVariants.{Request, Reply, Silence}

abbrev pub number_of_kind : Kind → ℕ
number_of_kind Request = 1
number_of_kind Reply = 2
number_of_kind Silence = 3

-- the kind of a number, or 22 where there is none
abbrev pub kind_numbered : ℕ → Result Kind Refusal
kind_numbered n = cond (eqb n 1) (Ok Request) (cond (eqb n 2) (Ok Reply) (cond (eqb n 3) (Ok Silence) (Err BadKind)))
