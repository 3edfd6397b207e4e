-- A line of a failure that is written in four pieces.
use Rattle.std.proofs.Common.{ℕ, List, [], ◌∷◌, Option}
use Rattle.std.specs.Result.{OnOk}
use Rattle.std.proofs.lemmas.Result.{on_ok_weaker}
use Rattle.std.specs.Prelude.{Result}
use Rattle.std.specs.Io.KnownBytes.{Appends}
use Rattle.std.proofs.KnownBytes.{Appends-trans}
use Rattle.files.specs.Failing.{AppendsLine}

pub line : {T E : Type 0} (a b c d e : Option (List ℕ)) (what said : List ℕ) (ended : Result T E)
    → Appends a b what → Appends b c (58 ∷ 32 ∷ []) → Appends c d said → OnOk ended (Appends d e (10 ∷ [])) → OnOk ended (AppendsLine a e what)
line a b c d e what said ended f g h =
    on_ok_weaker ended (λ (k : Appends d e (10 ∷ [])). (said, Appends-trans a d e _ _ (Appends-trans a c d _ _ (Appends-trans a b c _ _ f g) h) k))
