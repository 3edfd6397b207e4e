-- `sfc6::read_typed` meets its contract. Assumes nothing.
use Rattle.sfc6.proofs.Reading.{typed_unknown, typed_unfit, typed-whole, typed_byte, typed-known}
use Rattle.sfc6.proofs.read_typed.Goals as goal

pub returns-in-Some-first_named : goal.returns-in-Some-first_named
returns-in-Some-first_named c = typed_unfit _ _ c.first_fitting.ensures c.in_default.is c.first_named.ensures c.in-Some-first_named.is

pub carried-n-requires : goal.carried-n-requires
carried-n-requires c =
    typed-whole _ _ c.first_fitting.ensures c.in-Some.is c.request_at.ensures c.row_of.ensures

pub request_at-requires-2 : goal.request_at-requires-2
request_at-requires-2 c =
    typed_byte _ _ c.first_fitting.ensures c.in-Some.is c.request_at.ensures c.row_of.ensures c.carried-n.ensures

pub returns : goal.returns
returns c =
    typed-known _ _ c.first_fitting.ensures c.in-Some.is c.request_at.ensures c.row_of.ensures c.carried-n.ensures.0 c.request_at-2.ensures

pub returns-in-None : goal.returns-in-None
returns-in-None c = typed_unknown _ _ c.first_named.ensures c.in-None.is
