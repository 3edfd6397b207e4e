-- `sfc6::carried` meets its contract: each arm knows which value it is. Assumes nothing.
use Rattle.std.proofs.Common.{refl, sym, ◌∙◌, rules}
use Rattle.payload.specs.Field.{big_endian}
use Rattle.sfc6.specs.Reading.{carried}
use Rattle.sfc6.proofs.Reading.{addresses, carried_number, carried_nothing, number_taken, four_long}
use Rattle.sfc6.proofs.carried.Goals as goal

pub unwrap-requires : goal.unwrap-requires
unfolding big_endian
unwrap-requires c =
    let is = number_taken c.args.row c.args.payload.now c.requires _ c.in-Address.is c.sub_size.ensures.0 refl c.take.result c.take.ensures.0 in
    search rules

pub unwrap-requires-in-Float : goal.unwrap-requires-in-Float
unwrap-requires-in-Float c =
    let is = number_taken c.args.row c.args.payload.now c.requires _ refl c.sub_size.ensures.0 (four_long c.args.row.value c.in-Float.is).0
    c.take-in-Float.result c.take-in-Float.ensures.0 in
    search rules

pub returns-in-Nothing : goal.returns-in-Nothing
unfolding big_endian addresses
returns-in-Nothing c = carried_nothing c.args.row c.args.payload.now c.requires _ c.in-Nothing.is refl refl

pub returns-in-Address : goal.returns-in-Address
unfolding big_endian
returns-in-Address c =
    let is = number_taken c.args.row c.args.payload.now c.requires _ c.in-Address.is c.sub_size.ensures.0 refl c.take.result c.take.ensures.0 in
    search rules

pub returns-in-Float : goal.returns-in-Float
unfolding carried
returns-in-Float c =
    let four = four_long c.args.row.value c.in-Float.is in
    let is = number_taken c.args.row c.args.payload.now c.requires _ refl c.sub_size.ensures.0 four.0 c.take-in-Float.result c.take-in-Float.ensures.0 in
    carried_number c.args.row c.args.payload.now c.requires _ refl four.1 (let same = sym c.unwrap-in-Float.ensures ∙ is in search rules)
