use Rattle.std.proofs.Common.{◌≡◌, ℕ, ◌-◌, List, get_or, arith, sym, ◌∙◌}
use Rattle.shdlc.specs.declared.Kind.{Kind}
use Rattle.shdlc.specs.Body.{shortest, length_place}
use Rattle.shdlc.proofs.Body.{length_place_lem, body_long, body_short, body_wrong_sum, body_good}
use Rattle.shdlc.proofs.check_body.Goals as goal

-- the byte that the code reads is L
field : (kind : Kind) (body : List ℕ) (least l : ℕ) → least ≡ shortest kind → l ≡ get_or body (least - 2) 0 → l ≡ get_or body (length_place kind) 0
field kind body least l e f = rw (length_place_lem, ← e) f

pub returns-then-longest-n : goal.returns-then-longest-n
returns-then-longest-n c = sym (body_long c.args.kind c.args.body.now (omega arith))

pub returns-then-n-least : goal.returns-then-n-least
returns-then-n-least c = sym (body_short c.args.kind c.args.body.now (omega arith) (omega arith))

pub returns-then-body-last : goal.returns-then-body-last
returns-then-body-last c =
    let l = field c.args.kind c.args.body.now _ _ c.shortest-least.ensures.0 c.from.ensures in
    let size = c.shortest-least.ensures.0 in
    sym (body_wrong_sum c.args.kind c.args.body.now (omega arith) (omega arith) (omega arith) (λ e. c.if-body-last.true (e ∙ sym c.checksum.ensures)))

pub returns : goal.returns
returns c =
    let l = field c.args.kind c.args.body.now _ _ c.shortest-least.ensures.0 c.from.ensures in
    let size = c.shortest-least.ensures.0 in
    sym (body_good c.args.kind c.args.body.now (omega arith) (omega arith) (omega arith) (c.if-body-last.false ∙ c.checksum.ensures))
