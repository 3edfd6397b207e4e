-- The borders of records mean nothing: bytes of one side may stand in one record or in two. Assumes nothing.
use Prim.Native.Nat.{ℕ}
use mathlib.Core.Path.{◌≡◌, refl, sym, ap, ◌∙◌}
use mathlib.Core.Bool.{Bool, true, false, cond}
use mathlib.Core.List.{List, [], ◌∷◌, ◌++◌, map, append_assoc}
use mathlib.Core.Option.{none}
use lib.Dec.{eqb}
use borrow.Author.Tests.{eqb-true}
use Rattle.refusal.specs.Refusals.{served}
use Rattle.shdlc.specs.declared.Kind.{Kind}
use Rattle.shdlc.specs.declared.Kind.TheVariants.{Request, Reply}
use Rattle.shdlc.specs.Stream.{Event, byte}
use Rattle.shdlc.proofs.Stream.{map-append}
use Rattle.receiver.specs.Series.{gained}
use Rattle.receiver.proofs.Callers.{gained-append}
use Rattle.sfc6.specs.Reading.{and_then}
use Rattle.board.specs.Listing.{standing_in, listed}
use Rattle.wire_log.specs.Log.{LogRecord, recorded}
use Rattle.board.specs.Entries.{empty}
use Rattle.replay.specs.Replay.{Told, yielded, heard_on, joined_on, completes, polls, told_from, orders_from, board_from, replayed_by}
use Rattle.replay.proofs.Yields.{joined-one}
use Rattle.replay.proofs.Noting.{map_yielded}
use Rattle.replay.proofs.RunningOn.{completes_none}

-- what is told depends on the earlier records by their joined bytes and marks alone
completes-same : (side : Kind) (e f : List LogRecord) (r : LogRecord) → joined_on side e ≡ joined_on side f → completes side e r ≡ completes side f r
unfolding completes
completes-same side e f r h = ap (λ (es : List Event). map (yielded side) (gained side es (heard_on side r))) h

joined_same : (side : Kind) (e f : List LogRecord) (r : LogRecord) → joined_on side e ≡ joined_on side f → joined_on side (e ++ (r ∷ [])) ≡ joined_on side (f ++ (r ∷ []))
joined_same side e f r h = joined-one side e r ∙ ap (λ (es : List Event). es ++ heard_on side r) h ∙ sym (joined-one side f r)

told_same : (later e f : List LogRecord) → joined_on Request e ≡ joined_on Request f → joined_on Reply e ≡ joined_on Reply f → told_from e later ≡ told_from f later
unfolding told_from
told_same [] e f q p = refl
told_same (r ∷ later) e f q p =
    rw (completes-same Request e f r q, completes-same Reply e f r p, told_same later (e ++ (r ∷ [])) (f ++ (r ∷ [])) (joined_same Request e f r q) (joined_same Reply e f r p))

-- a record in two
module _ (kind : ℕ) (a b : List ℕ) (other : eqb kind 3 ≡ false) where
  abbrev both : LogRecord
  both = recorded kind (a ++ b)

  abbrev one : LogRecord
  one = recorded kind a

  abbrev two : LogRecord
  two = recorded kind b

  heard-parts : (side : Kind) → heard_on side both ≡ heard_on side one ++ heard_on side two
  unfolding heard_on
  heard-parts Request = rw other (go (eqb kind 1))
    where
      go : (t : Bool) → cond t (map byte (a ++ b)) [] ≡ cond t (map byte a) [] ++ cond t (map byte b) []
      go true = map-append a b
      go false = refl
  heard-parts Reply = rw other (go (eqb kind 2))
    where
      go : (t : Bool) → cond t (map byte (a ++ b)) [] ≡ cond t (map byte a) [] ++ cond t (map byte b) []
      go true = map-append a b
      go false = refl

  no_poll : (body : List ℕ) → polls (recorded kind body) ≡ []
  unfolding polls
  no_poll body = rw other

  joined-parts : (side : Kind) (e : List LogRecord) → joined_on side (e ++ (both ∷ [])) ≡ joined_on side ((e ++ (one ∷ [])) ++ (two ∷ []))
  joined-parts side e =
      joined-one side e both ∙ ap (λ (es : List Event). joined_on side e ++ es) (heard-parts side)
      ∙ sym (append_assoc (joined_on side e) (heard_on side one) (heard_on side two))
      ∙ ap (λ (es : List Event). es ++ heard_on side two) (sym (joined-one side e one))
      ∙ sym (joined-one side (e ++ (one ∷ [])) two)

  completes-parts : (side : Kind) (e : List LogRecord) → completes side e both ≡ completes side e one ++ completes side (e ++ (one ∷ [])) two
  unfolding completes
  completes-parts side e =
      ap (λ (es : List Event). map (yielded side) (gained side (joined_on side e) es)) (heard-parts side)
      ∙ ap (map (yielded side)) (gained-append side (joined_on side e) (heard_on side one) (heard_on side two))
      ∙ map_yielded side (gained side (joined_on side e) (heard_on side one)) (gained side (joined_on side e ++ heard_on side one) (heard_on side two))
      ∙ ap (λ (es : List Event). map (yielded side) (gained side (joined_on side e) (heard_on side one)) ++ map (yielded side) (gained side es (heard_on side two)))
      (sym (joined-one side e one))

  module _ (e later : List LogRecord) where
    abbrev mid : List LogRecord
    mid = e ++ (one ∷ [])

    rest : told_from (e ++ (both ∷ [])) later ≡ told_from (mid ++ (two ∷ [])) later
    rest = told_same later (e ++ (both ∷ [])) (mid ++ (two ∷ [])) (joined-parts Request e) (joined-parts Reply e)

    -- where the reply side hears nothing of it, and where the request side hears nothing
    still_replies : heard_on Reply one ≡ [] → heard_on Reply two ≡ [] → told_from e (both ∷ later) ≡ told_from e (one ∷ two ∷ later)
    unfolding told_from
    still_replies h g =
        rw (
          completes-parts Request e,
          completes_none Reply e both (heard-parts Reply ∙ ap (λ (es : List Event). es ++ heard_on Reply two) h ∙ g),
          completes_none Reply e one h,
          completes_none Reply mid two g,
          no_poll (a ++ b),
          no_poll a,
          no_poll b,
          rest,
        )
        (append_assoc (completes Request e one) (completes Request mid two) (told_from (mid ++ (two ∷ [])) later))

    still_requests : heard_on Request one ≡ [] → heard_on Request two ≡ [] → told_from e (both ∷ later) ≡ told_from e (one ∷ two ∷ later)
    unfolding told_from
    still_requests h g =
        rw (
          completes-parts Reply e,
          completes_none Request e both (heard-parts Request ∙ ap (λ (es : List Event). es ++ heard_on Request two) h ∙ g),
          completes_none Request e one h,
          completes_none Request mid two g,
          no_poll (a ++ b),
          no_poll a,
          no_poll b,
          rest,
        )
        (append_assoc (completes Reply e one) (completes Reply mid two) (told_from (mid ++ (two ∷ [])) later))

    silent_side : (body : List ℕ) → eqb kind 1 ≡ false → heard_on Request (recorded kind body) ≡ []
    unfolding heard_on
    silent_side body h = rw (other, h)

    silent_reply : (body : List ℕ) → kind ≡ 1 → heard_on Reply (recorded kind body) ≡ []
    unfolding heard_on
    silent_reply body h = rw h

    told-parts : (t : Bool) → eqb kind 1 ≡ t → told_from e (both ∷ later) ≡ told_from e (one ∷ two ∷ later)
    told-parts true h = let k : kind ≡ 1 = eqb-true kind 1 h in still_replies (silent_reply a k) (silent_reply b k)
    told-parts false h = still_requests (silent_side a h) (silent_side b h)

  told_split : (xs ys e : List LogRecord) → told_from e (xs ++ (both ∷ ys)) ≡ told_from e (xs ++ (one ∷ two ∷ ys))
  unfolding told_from
  told_split [] ys e = told-parts e ys (eqb kind 1) refl
  told_split (x ∷ xs) ys e = rw (told_split xs ys (e ++ (x ∷ [])))

  pub borders : (lease : ℕ) (xs ys : List LogRecord) → replayed_by lease (xs ++ (both ∷ ys)) ≡ replayed_by lease (xs ++ (one ∷ two ∷ ys))
  unfolding replayed_by
  borders lease xs ys =
      ap (λ (ts : List Told). and_then (board_from empty (orders_from lease none ts)) (λ t. served (listed (standing_in t)))) (told_split xs ys [])
