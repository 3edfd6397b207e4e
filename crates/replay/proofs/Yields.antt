-- What each side yields in a log is demand 3's list for its joined bytes and marks. Assumes nothing.
use mathlib.Core.Path.{◌≡◌, refl, sym, ap, ◌∙◌}
use mathlib.Core.Bool.{Bool, true, false, cond}
use mathlib.Core.List.{List, [], ◌∷◌, ◌++◌, map, append_assoc, append-nil}
use lib.Dec.{eqb}
use Rattle.shdlc.specs.declared.Kind.{Kind}
use Rattle.shdlc.specs.declared.Kind.TheVariants.{Request, Reply}
use Rattle.shdlc.specs.Stream.{Event, Item, items}
use Rattle.receiver.specs.Record.{fresh}
use Rattle.receiver.specs.Series.{Call, stream_from, gained, results, record_after, reports, HandsIn}
use Rattle.receiver.proofs.EverySeries.{demand3}
use Rattle.receiver.proofs.Callers.{gained-append, gained_nothing, gained_all}
use Rattle.wire_log.specs.Log.{LogRecord}
use Rattle.replay.specs.Replay.{Told, yielded, silent, heard_on, joined_on, completes, polls, told_from, told}
use Rattle.replay.specs.Claims.{items_on}

pub joined-append : (side : Kind) (earlier later : List LogRecord) → joined_on side (earlier ++ later) ≡ joined_on side earlier ++ joined_on side later
unfolding joined_on
joined-append side [] later = refl
joined-append side (r ∷ earlier) later =
    ap (λ (es : List Event). heard_on side r ++ es) (joined-append side earlier later) ∙ sym (append_assoc (heard_on side r) (joined_on side earlier) (joined_on side later))

pub joined-one : (side : Kind) (earlier : List LogRecord) (r : LogRecord) → joined_on side (earlier ++ (r ∷ [])) ≡ joined_on side earlier ++ heard_on side r
unfolding joined_on
joined-one side earlier r = joined-append side earlier (r ∷ []) ∙ ap (λ (es : List Event). joined_on side earlier ++ es) (append-nil (heard_on side r))

items-on-append : (side : Kind) (ts us : List Told) → items_on side (ts ++ us) ≡ items_on side ts ++ items_on side us
unfolding items_on
items-on-append Request [] us = refl
items-on-append Reply [] us = refl
items-on-append Request (yielded Request i ∷ ts) us = ap (λ (is : List Item). i ∷ is) (items-on-append Request ts us)
items-on-append Request (yielded Reply i ∷ ts) us = items-on-append Request ts us
items-on-append Reply (yielded Request i ∷ ts) us = items-on-append Reply ts us
items-on-append Reply (yielded Reply i ∷ ts) us = ap (λ (is : List Item). i ∷ is) (items-on-append Reply ts us)
items-on-append Request (silent ∷ ts) us = items-on-append Request ts us
items-on-append Reply (silent ∷ ts) us = items-on-append Reply ts us

-- a side's own items, and none of the other's
own_requests : (is : List Item) → items_on Request (map (yielded Request) is) ≡ is
unfolding items_on
own_requests [] = refl
own_requests (i ∷ is) = ap (λ (x : List Item). i ∷ x) (own_requests is)

own_replies : (is : List Item) → items_on Reply (map (yielded Reply) is) ≡ is
unfolding items_on
own_replies [] = refl
own_replies (i ∷ is) = ap (λ (x : List Item). i ∷ x) (own_replies is)

no_requests : (is : List Item) → items_on Request (map (yielded Reply) is) ≡ []
unfolding items_on
no_requests [] = refl
no_requests (i ∷ is) = no_requests is

no_replies : (is : List Item) → items_on Reply (map (yielded Request) is) ≡ []
unfolding items_on
no_replies [] = refl
no_replies (i ∷ is) = no_replies is

no_polls : (side : Kind) (r : LogRecord) → items_on side (polls r) ≡ []
unfolding polls items_on
no_polls side r = go side (eqb r.kind 3)
  where
    go : (side : Kind) (t : Bool) → items_on side (cond t (silent ∷ []) []) ≡ []
    go Request true = refl
    go Request false = refl
    go Reply true = refl
    go Reply false = refl

-- of a record's three parts a side has its own
three : (side : Kind) (xs ys zs us : List Told) → items_on side (xs ++ (ys ++ (zs ++ us))) ≡ items_on side xs ++ (items_on side ys ++ (items_on side zs ++ items_on side us))
three side xs ys zs us =
    items-on-append side xs (ys ++ (zs ++ us))
    ∙ ap (λ (is : List Item). items_on side xs ++ is)
    (items-on-append side ys (zs ++ us) ∙ ap (λ (is : List Item). items_on side ys ++ is) (items-on-append side zs us))

one_record : (side : Kind) (earlier : List LogRecord) (r : LogRecord) (us : List Told)
    → items_on side (completes Request earlier r ++ (completes Reply earlier r ++ (polls r ++ us)))
    ≡ gained side (joined_on side earlier) (heard_on side r) ++ items_on side us
unfolding completes
one_record Request earlier r us =
    three Request (completes Request earlier r) (completes Reply earlier r) (polls r) us
    ∙ rw (own_requests (gained Request (joined_on Request earlier) (heard_on Request r)), no_requests (gained Reply (joined_on Reply earlier) (heard_on Reply r)), no_polls Request r)
one_record Reply earlier r us =
    three Reply (completes Request earlier r) (completes Reply earlier r) (polls r) us
    ∙ rw (own_replies (gained Reply (joined_on Reply earlier) (heard_on Reply r)), no_replies (gained Request (joined_on Request earlier) (heard_on Request r)), no_polls Reply r)

pub yields_from : (side : Kind) (later earlier : List LogRecord)
    → items_on side (told_from earlier later) ≡ gained side (joined_on side earlier) (joined_on side later)
unfolding told_from joined_on items_on
yields_from Request [] earlier = sym (gained_nothing Request (joined_on Request earlier))
yields_from Reply [] earlier = sym (gained_nothing Reply (joined_on Reply earlier))
yields_from side (r ∷ later) earlier =
    one_record side earlier r (told_from (earlier ++ (r ∷ [])) later)
    ∙ ap (λ (is : List Item). gained side (joined_on side earlier) (heard_on side r) ++ is)
    (yields_from side later (earlier ++ (r ∷ [])) ∙ ap (λ (es : List Event). gained side es (joined_on side later)) (joined-one side earlier r))
    ∙ sym (gained-append side (joined_on side earlier) (heard_on side r) (joined_on side later))

pub yields : (side : Kind) (records : List LogRecord) → items_on side (told records) ≡ items side (joined_on side records)
unfolding joined_on
yields side records = yields_from side records [] ∙ gained_all side (joined_on side records)

-- and so does a fresh receiver to which the side's bytes and marks are handed in
pub receivers : (side : Kind) (records : List LogRecord) (calls : List Call) → HandsIn (fresh side) (joined_on side records) calls
    → reports (results (fresh side) calls) ≡ items_on side (told records)
unfolding record_after stream_from
receivers side records calls h =
    (demand3 side).all_items calls ∙ ap (items side) ((demand3 side).every_cut [] (joined_on side records) calls h) ∙ sym (yields side records)
