-- How the run goes on, record by record, and by one part of a log and another. Assumes nothing.
use Prim.Native.Nat.{ℕ}
use mathlib.Core.Path.{◌≡◌, refl, sym, ap, subst, ◌∙◌}
use mathlib.Core.List.{List, [], ◌∷◌, ◌++◌, map, append_assoc, append-nil}
use Rattle.shdlc.specs.declared.Kind.{Kind}
use Rattle.shdlc.specs.declared.Kind.TheVariants.{Request, Reply}
use Rattle.shdlc.specs.Stream.{Event, byte, mark}
use Rattle.receiver.specs.Record.{Record, record_of}
use Rattle.receiver.specs.Series.{gained}
use Rattle.receiver.proofs.Callers.{gained_nothing}
use Rattle.board.specs.declared.orders.Order.TheVariants.{Poll}
use Rattle.wire_log.specs.Log.{LogRecord, recorded}
use Rattle.replay.specs.Replay.{Told, yielded, silent, heard_on, joined_on, completes, polls, told_from}
use Rattle.replay.specs.Private.{after, Kept, put, noted, GoesOn, RunsOn, Marks}
use Rattle.replay.proofs.Yields.{joined-one}
use Rattle.replay.proofs.Noting.{after-append}

-- a side that hears nothing
pub still : (side : Kind) (earlier : List LogRecord) (r : LogRecord) (x : Record) → heard_on side r ≡ [] → x ≡ record_of side (joined_on side earlier)
    → x ≡ record_of side (joined_on side (earlier ++ (r ∷ [])))
still side earlier r x h e =
    e ∙ ap (record_of side) (sym (joined-one side earlier r ∙ ap (λ (es : List Event). joined_on side earlier ++ es) h ∙ append-nil (joined_on side earlier)))

pub completes_none : (side : Kind) (earlier : List LogRecord) (r : LogRecord) → heard_on side r ≡ [] → completes side earlier r ≡ []
unfolding completes
completes_none side earlier r h =
    ap (λ (es : List Event). map (yielded side) (gained side (joined_on side earlier) es)) h
    ∙ ap (map (yielded side)) (gained_nothing side (joined_on side earlier))

-- a side that hears what the other does not
pub went : (side : Kind) (earlier : List LogRecord) (r : LogRecord) (x : Record) (es : List Event) → heard_on side r ≡ es
    → x ≡ record_of side (joined_on side earlier ++ es) → x ≡ record_of side (joined_on side (earlier ++ (r ∷ [])))
went side earlier r x es h e =
    e ∙ ap (record_of side) (sym (joined-one side earlier r ∙ ap (λ (fs : List Event). joined_on side earlier ++ fs) h))

pub completes_by : (side : Kind) (earlier : List LogRecord) (r : LogRecord) (es : List Event) → heard_on side r ≡ es
    → completes side earlier r ≡ map (yielded side) (gained side (joined_on side earlier) es)
unfolding completes
completes_by side earlier r es h = ap (λ (fs : List Event). map (yielded side) (gained side (joined_on side earlier) fs)) h

-- a record's part of what is told
module _ (earlier : List LogRecord) (r : LogRecord) where
  told_by : told_from earlier (r ∷ []) ≡ completes Request earlier r ++ (completes Reply earlier r ++ polls r)
  unfolding told_from
  told_by = ap (λ (ts : List Told). completes Request earlier r ++ (completes Reply earlier r ++ ts)) (append-nil (polls r))

  told-parts : (xs ys zs : List Told) → completes Request earlier r ≡ xs → completes Reply earlier r ≡ ys → polls r ≡ zs
      → told_from earlier (r ∷ []) ≡ xs ++ (ys ++ zs)
  told-parts xs ys zs a b c =
      told_by
      ∙ ap (λ (ts : List Told). ts ++ (completes Reply earlier r ++ polls r)) a
      ∙ ap (λ (ts : List Told). xs ++ (ts ++ polls r)) b
      ∙ ap (λ (ts : List Told). xs ++ (ys ++ ts)) c

module _ (lease : ℕ) where
  pub runs_requests : (q next p : Record) (k then : Kept) (kind : ℕ) (body : List ℕ) → kind ≡ 1 → GoesOn lease Request q k (map byte body) next then
      → RunsOn lease q p k (recorded kind body ∷ []) next p then
  unfolding GoesOn RunsOn heard_on polls
  runs_requests q next p k then kind body is g =
      subst (λ (n : ℕ). RunsOn lease q p k (recorded n body ∷ []) next p then) (sym is)
      (λ earlier e f.
      let r = recorded 1 body in
      let h = g (joined_on Request earlier) e in (
        went Request earlier r next (map byte body) refl h.0,
        still Reply earlier r p refl f,
        h.1
            ∙ ap (after (noted lease) k)
            (sym (told-parts earlier r _ [] [] (completes_by Request earlier r (map byte body) refl) (completes_none Reply earlier r refl) refl ∙ append-nil _)),
      ))

  pub runs_replies : (q p next : Record) (k then : Kept) (kind : ℕ) (body : List ℕ) → kind ≡ 2 → GoesOn lease Reply p k (map byte body) next then
      → RunsOn lease q p k (recorded kind body ∷ []) q next then
  unfolding GoesOn RunsOn heard_on polls
  runs_replies q p next k then kind body is g =
      subst (λ (n : ℕ). RunsOn lease q p k (recorded n body ∷ []) q next then) (sym is)
      (λ earlier e f.
      let r = recorded 2 body in
      let h = g (joined_on Reply earlier) f in (
        still Request earlier r q refl e,
        went Reply earlier r next (map byte body) refl h.0,
        h.1
            ∙ ap (after (noted lease) k)
            (sym (told-parts earlier r [] _ [] (completes_none Request earlier r refl) (completes_by Reply earlier r (map byte body) refl) refl ∙ append-nil _)),
      ))

  pub runs_marks : (q next_q p next_p : Record) (k end : Kept) (kind : ℕ) (body : List ℕ) → kind ≡ 3 → Marks q next_q → Marks p next_p
      → end ≡ record { latest = k.latest; board = put k.board Poll }
      → RunsOn lease q p k (recorded kind body ∷ []) next_q next_p end
  unfolding Marks GoesOn RunsOn heard_on polls after noted
  runs_marks q next_q p next_p k end kind body is g h last =
      subst (λ (n : ℕ). RunsOn lease q p k (recorded n body ∷ []) next_q next_p end) (sym is)
      (λ earlier e f.
      let r = recorded 3 body in
      let a = g lease Request k (joined_on Request earlier) e in
      let b = h lease Reply k (joined_on Reply earlier) f in
      let xs = map (yielded Request) (gained Request (joined_on Request earlier) (mark ∷ [])) in
      let ys = map (yielded Reply) (gained Reply (joined_on Reply earlier) (mark ∷ [])) in (
        went Request earlier r next_q (mark ∷ []) refl a.0,
        went Reply earlier r next_p (mark ∷ []) refl b.0,
        last
            ∙ ap (λ (x : Kept). noted lease x silent) (b.1 ∙ ap (λ (x : Kept). after (noted lease) x ys) a.1)
            ∙ sym (
            ap (after (noted lease) k)
            (told-parts earlier r xs ys (silent ∷ []) (completes_by Request earlier r (mark ∷ []) refl) (completes_by Reply earlier r (mark ∷ []) refl) refl)
            ∙ after-append (noted lease) k xs (ys ++ (silent ∷ []))
            ∙ after-append (noted lease) (after (noted lease) k xs) ys (silent ∷ [])
            ),
      ))

-- ---- by no records, and by some and then others
told-append : (more others earlier : List LogRecord) → told_from earlier (more ++ others) ≡ told_from earlier more ++ told_from (earlier ++ more) others
unfolding told_from
told-append [] others earlier = ap (λ (rs : List LogRecord). told_from rs others) (sym (append-nil earlier))
told-append (r ∷ more) others earlier =
    let xs = completes Request earlier r in
    let ys = completes Reply earlier r in
    let zs = polls r in
    let us = told_from (earlier ++ (r ∷ [])) more in
    let vs = told_from (earlier ++ (r ∷ more)) others in
    ap (λ (ts : List Told). xs ++ (ys ++ (zs ++ ts)))
    (told-append more others (earlier ++ (r ∷ [])) ∙ ap (λ (rs : List LogRecord). us ++ told_from rs others) (append_assoc earlier (r ∷ []) more))
    ∙ ap (λ (ts : List Told). xs ++ (ys ++ ts)) (sym (append_assoc zs us vs))
    ∙ ap (λ (ts : List Told). xs ++ ts) (sym (append_assoc ys (zs ++ us) vs))
    ∙ sym (append_assoc xs (ys ++ (zs ++ us)) vs)

module _ (lease : ℕ) where
  pub runs_none : (q p : Record) (k : Kept) → RunsOn lease q p k [] q p k
  unfolding RunsOn told_from after
  runs_none q p k =
      λ earlier e f. (
        e ∙ ap (λ (rs : List LogRecord). record_of Request (joined_on Request rs)) (sym (append-nil earlier)),
        f ∙ ap (λ (rs : List LogRecord). record_of Reply (joined_on Reply rs)) (sym (append-nil earlier)),
        refl,
      )

  pub runs_then : (q next_q last_q p next_p last_p : Record) (k then end : Kept) (more others : List LogRecord) → RunsOn lease q p k more next_q next_p then
      → RunsOn lease next_q next_p then others last_q last_p end → RunsOn lease q p k (more ++ others) last_q last_p end
  unfolding RunsOn
  runs_then q next_q last_q p next_p last_p k then end more others g h =
      λ earlier e f.
      let a = g earlier e f in
      let b = h (earlier ++ more) a.0 a.1 in
      let same = append_assoc earlier more others in (
        b.0 ∙ ap (λ (rs : List LogRecord). record_of Request (joined_on Request rs)) same,
        b.1 ∙ ap (λ (rs : List LogRecord). record_of Reply (joined_on Reply rs)) same,
        b.2
            ∙ ap (λ (x : Kept). after (noted lease) x (told_from (earlier ++ more) others)) a.2
            ∙ sym (after-append (noted lease) k (told_from earlier more) (told_from (earlier ++ more) others))
            ∙ ap (after (noted lease) k) (sym (told-append more others earlier)),
      )
