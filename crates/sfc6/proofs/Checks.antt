-- What passes a request's own checks. Assumes nothing.
use mathlib.Core.Path.{◌≡◌, refl, sym}
use mathlib.Core.Bool.{Bool, true, false}
use Prim.Native.Nat.{ℕ}
use mathlib.Core.List.{List, [], ◌∷◌, ◌++◌}
use Rattle.refusal.specs.Refusals.{Numbered, number, served, in_order}
use Rattle.sfc6.specs.declared.Request.{Request}
use Rattle.sfc6.specs.Commands.{row, out_of_range, bad_float, address_to_all}
use Rattle.sfc6.specs.Requests.{request_checks, check_request}
use Rattle.sfc6.proofs.Order.{never}

-- what checks start with the request's own, and pass, carries a value in its range and no bad float
pub passed_value : {A : Type 0} (address : ℕ) (request : Request) (more : List (Bool × Numbered)) (a : A) {b : A}
    → in_order (request_checks address request ++ more) a ≡ served b
    → (out_of_range (row request).value ≡ false) × (bad_float (row request).value ≡ false)
passed_value {A} address request more a {b} h = go (out_of_range (row request).value) (bad_float (row request).value) h
  where
    go : (x y : Bool)
        → in_order ((x, number 12) ∷ (y, number 13) ∷ (address_to_all address (row request).value, number 10) ∷ more) a ≡ served b
        → (x ≡ false) × (y ≡ false)
    go true y h = never (sym h)
    go false true h = never (sym h)
    go false false h = (refl, refl)

pub passed_request : (address : ℕ) (request : Request) {a : ℕ × Request} → check_request address request ≡ served a
    → (out_of_range (row request).value ≡ false) × (bad_float (row request).value ≡ false)
unfolding check_request
passed_request address request h = passed_value address request [] (address, request) h
