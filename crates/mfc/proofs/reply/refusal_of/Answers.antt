-- `mfc::reply::refusal_of` meets its contract. Assumes nothing.
use Rattle.mfc.proofs.Replying.{refused_first, refused_above, refused_to_all, refused_error, refused_kind, refused_wide}
use Rattle.mfc.proofs.reply.refusal_of.Goals as goal

pub returns-in-Err : goal.returns-in-Err
returns-in-Err c = refused_first _ _ _ c.check_request.ensures c.in-Err.is

pub returns-then-number-gt15 : goal.returns-then-number-gt15
returns-then-number-gt15 c = refused_above _ _ _ c.check_request.ensures (c.in_default.is) c.if-number-gt15.true

pub returns-then-address-eq255 : goal.returns-then-address-eq255
returns-then-address-eq255 c = refused_to_all _ _ _ c.check_request.ensures (c.in_default.is) c.if-number-gt15.false c.if-address-eq255.true

pub returns-then-number-eq15 : goal.returns-then-number-eq15
returns-then-number-eq15 c = refused_error _ _ _ c.check_request.ensures (c.in_default.is) c.if-number-gt15.false c.if-address-eq255.false c.if-number-eq15.true

pub returns-then-number-expected : goal.returns-then-number-expected
returns-then-number-expected c = refused_wide _ _ _ c.check_request.ensures (c.in_default.is) c.if-number-gt15.false c.if-address-eq255.false c.if-number-eq15.false
    c.expected.ensures c.if-number-expected.true

pub returns : goal.returns
returns c = refused_kind _ _ _ c.check_request.ensures (c.in_default.is) c.if-number-gt15.false c.if-address-eq255.false c.if-number-eq15.false
    c.expected.ensures c.if-number-expected.false
