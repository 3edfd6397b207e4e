-- A kind as a record's byte has it: 0 a request, 1 a reply; any other byte is that of no kind (docs/RECORD.md).
use Rattle.std.specs.Prelude.{ℕ, cond, eqb, Result, Ok, Err}
use Rattle.refusal.specs.declared.Refusal.{Refusal}
use Rattle.refusal.specs.declared.Refusal.TheVariants.{BadRecord}
use Rattle.shdlc.specs.declared.Kind.{Kind}
use Rattle.shdlc.specs.declared.Kind.TheVariants.{Request, Reply}

abbrev pub number_of_kind : Kind → ℕ
number_of_kind Request = 0
number_of_kind Reply = 1

abbrev pub kind_numbered : ℕ → Result Kind Refusal
kind_numbered n = cond (eqb n 0) (Ok Request) (cond (eqb n 1) (Ok Reply) (Err BadRecord))
