-- A reply of the expected kind is taken apart, and any other is refused. Assumes nothing.
use mathlib.Core.Path.{◌≡◌, refl}
use mathlib.Core.Bool.{Bool, true, false, ◌||◌}
use lib.Dec.{eqb}
use borrow.Author.Tests.{eq-eqb}
use Rattle.sfc6.specs.declared.Request.{Request}
use Rattle.replies.specs.declared.Reply.{Reply}
use Rattle.replies.specs.Replies.{reply_to, kind_of, suits}

or_true : (a b : Bool) → b ≡ true → (a || b) ≡ true
or_true true b h = refl
or_true false b h = h

-- a reply of the kind that the request expects suits it
pub same_kind : (q : Request) (r : Reply) → kind_of r ≡ kind_of (reply_to q 0) → suits q r ≡ true
same_kind q r e = or_true (eqb (kind_of r) 15) _ (eq-eqb _ _ e)
