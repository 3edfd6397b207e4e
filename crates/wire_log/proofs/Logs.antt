-- The claims about logs. Assumes nothing.
use mathlib.Core.Path.{◌≡◌, refl, sym, ap, subst, ◌∙◌}
use mathlib.Core.Logic.{◌⊎◌, inl, inr, ⊎_elim}
use mathlib.Core.Bool.{Bool, true, false, cond, not, ◌||◌, ◌&&◌, true≢false}
use mathlib.Core.List.{List, [], ◌∷◌, ◌++◌, reverse, reverse-cons, reverse-append, reverse-reverse}
use Prim.Native.Nat.{ℕ, ◌-◌, ◌≤◌}
use native.Mathlib.Omega.{arith}
use lib.Dec.{ltb, eqb}
use lib.ListN.{length, take, drop, length-take, length-reverse, take-append-drop}
use lib.Seq.{length-take-le}
use borrow.Author.Tests.{lt-ltb, le-ltb, eqb-true}
use Rattle.refusal.specs.Refusals.{Numbered, number, Answered, served, refused}
use Rattle.refusal.specs.Room.{emit}
use Rattle.refusal.proofs.Room.{take-overlay, emit_served, emit_refused}
use Rattle.payload.specs.Field.{Bytes}
use Rattle.wire_log.specs.Log.{LogRecord, Rule, kinds, joined, closing, log_of, Follows, Good, most}
use Rattle.wire_log.specs.Check.{count_in, records_before, bad_total, records_of}
use Rattle.wire_log.specs.Writer.{added_to, append}
use Rattle.wire_log.specs.Logs.{Kinds, Sized, Decides, Adds, Logs}
use Rattle.wire_log.proofs.Walk.{follows_reverse, FaultBefore}
use Rattle.wire_log.proofs.Tiling.{bad_short, bad_differs, bad_over, missized, sized, tile, log_is, log_listed, listed_is}
use Rattle.wire_log.proofs.Adding.{append_past, appends}
use Rattle.wire_log.proofs.Parts.{rows_lead, in_parts, lays, not-shown}
use Rattle.wire_log.proofs.Faults.{same_number, Cause, total, record_bad, count, cause, refused_total, refused_record, refused_count, fault_reached, reached_fault, found_fault, found_records, not_refused, fault_21, fault_22, points_21, unknown_22, ending_number}

module _ (rule : Rule) (file : List ℕ) (bytes : Bytes file) where
  -- each refusal comes from its own part of the check
  only_20 : Cause rule file (number 20) → bad_total file ≡ true
  only_20 (total b n) = b
  only_20 (record_bad b f) = let w = found_fault rule file bytes f in absurd (⊎_elim (λ e. omega arith) (λ e. omega arith) (ending_number rule file w.fault 20 w.ending))
  only_20 (count listing b f g n) = let e : ◌≡◌ {A = ℕ} 20 23 = same_number n in absurd (omega arith)

  only_record : {n : ℕ} → (n ≡ 20 → ⊥) → (n ≡ 23 → ⊥) → Cause rule file (number n) → Sized file × FaultBefore rule file (length file - 8) (number n)
  only_record h k (total b e) = absurd (h (same_number e))
  only_record h k (record_bad b f) = (sized file b, found_fault rule file bytes f)
  only_record h k (count listing b f g e) = absurd (k (same_number e))

  only_23 : Cause rule file (number 23)
      → Sized file × (records : List LogRecord) × Follows rule records × (take (length file - 8) file ≡ joined records) × (length records ≡ count_in file → ⊥)
  only_23 (total b n) = let e : ◌≡◌ {A = ℕ} 23 20 = same_number n in absurd (omega arith)
  only_23 (record_bad b f) = let w = found_fault rule file bytes f in absurd (⊎_elim (λ e. omega arith) (λ e. omega arith) (ending_number rule file w.fault 23 w.ending))
  only_23 (count listing b f g n) =
      let w = found_records rule file bytes listing f in
      (sized file b, reverse listing, follows_reverse rule listing w.1, w.0, λ e. g (sym (length-reverse listing) ∙ e))

  tiled : Sized file → (records : List LogRecord) → Follows rule records → take (length file - 8) file ≡ joined records
      → records_before rule file (length file - 8) ≡ served (reverse records)
  tiled s records f e =
      let end : ℕ = length file - 8 in
      let same : reverse (reverse records) ≡ records = reverse-reverse records in
      let is : file ≡ joined (reverse (reverse records)) ++ drop end file = rw same (sym (take-append-drop end file) ∙ ap (λ (l : List ℕ). l ++ drop end file) e) in
      let size : length (joined (reverse (reverse records))) ≡ end = rw same (ap length (sym e) ∙ length-take-le end file (omega arith)) in
      sym (ap (records_before rule file) size)
      ∙ tile rule file (reverse records) (drop end file) is (subst (Follows rule) (sym same) f) (omega (arith, size, s.agrees, s.within))

  decides : Decides rule file
  decides = record {
    refuses_20 = (
      λ e. missized file (only_20 (cause rule file (number 20) e)),
      λ m. refused_total rule file (⊎_elim (bad_short file) (λ n. ⊎_elim (bad_differs file) (bad_over file) n) m),
    );
    refuses_21 = (
      λ e. let w = only_record (λ z. omega arith) (λ z. omega arith) (cause rule file (number 21) e) in
          (w.0, w.1.fault, fault_reached rule file w.1, fault_21 rule file w.1.fault w.1.ending),
      λ w. refused_record rule file (not_refused rule file w.0) (reached_fault rule file w.0 w.1 w.2 (points_21 rule file w.1 w.3)),
    );
    refuses_22 = (
      λ e. let w = only_record (λ z. omega arith) (λ z. omega arith) (cause rule file (number 22) e) in
          let u = fault_22 rule file w.1.fault w.1.ending in
          (w.0, w.1.fault, fault_reached rule file w.1, u.0, u.1, u.2),
      λ w. refused_record rule file (not_refused rule file w.0) (reached_fault rule file w.0 w.1 w.2 (unknown_22 rule file w.1 (w.3, w.4, w.5))),
    );
    refuses_23 = (
      λ e. only_23 (cause rule file (number 23) e),
      λ w.
          refused_count rule file (reverse w.1) (not_refused rule file w.0) (tiled w.0 w.1 w.2 w.3) (λ e. w.4 (sym (length-reverse w.1) ∙ e)),
    );
    serves = λ records. (
      λ e. subst (λ (l : List LogRecord). Good rule l × (file ≡ log_of l)) (reverse-reverse records) (listed_is rule file bytes (reverse records) e),
      λ w. ap (records_of rule) w.1 ∙ log_listed rule records w.0,
    );
  }

follows_last : (rule : Rule) (older : List LogRecord) (r : LogRecord) → Follows rule (older ++ (r ∷ [])) → rule r.kind (length r.body) ≡ true
unfolding Follows
follows_last rule [] r f = f.0
follows_last rule (x ∷ older) r f = follows_last rule older r f.1

module _ (rule : Rule) where
  one_list : (xs ys : List LogRecord) → Good rule xs → Good rule ys → log_of xs ≡ log_of ys → xs ≡ ys
  one_list xs ys g h e =
      let s : served (reverse xs) ≡ served (reverse ys) = sym (log_listed rule xs g) ∙ ap (records_of rule) e ∙ log_listed rule ys h in
      let r : reverse xs ≡ reverse ys = cc in
      sym (reverse-reverse xs) ∙ ap reverse r ∙ reverse-reverse ys

  -- the writer, at the log of a list of records
  module _ (records : List LogRecord) (r : LogRecord) (buffer : List ℕ) (good : Good rule records) (stands : take (length (log_of records)) buffer ≡ log_of records) where
    abbrev more : List LogRecord
    more = records ++ (r ∷ [])

    abbrev size : ℕ
    size = length (log_of records)

    is_more : reverse (r ∷ reverse records) ≡ more
    is_more = reverse-cons r (reverse records) ∙ ap (λ (l : List LogRecord). l ++ (r ∷ [])) (reverse-reverse records)

    adding : append rule buffer size r ≡ added_to rule (served (reverse records)) r buffer
    adding =
        let inside : size ≤ length buffer = omega (arith, ap length stands, length-take size buffer) in
        appends rule r buffer size inside
        ∙ ap (λ (a : Answered (List LogRecord)). added_to rule a r buffer) (ap (records_of rule) stands ∙ log_listed rule records good)

    adding_more : append rule buffer size r
        ≡ cond (not (rule r.kind (length r.body))) (refused (number 22), buffer) (cond (ltb most (length (joined more))) (refused (number 12), buffer) (emit (log_of more) buffer))
    unfolding added_to
    adding_more =
        adding
        ∙ ap (λ (l : List LogRecord). cond (not (rule r.kind (length r.body))) (refused (number 22), buffer) (cond (ltb most (length (joined l))) (refused (number 12), buffer) (emit (log_of l) buffer)))
        is_more

    emitted : Good rule more → append rule buffer size r ≡ emit (log_of more) buffer
    emitted g = adding_more ∙ rw (follows_last rule records r g.follows, le-ltb most (length (joined more)) g.within)

    adds : Adds rule records r buffer
    adds = record {
      refuses_22 = λ h. adding_more ∙ rw h;
      refuses_12 = λ k h. adding_more ∙ rw (k, lt-ltb most (length (joined more)) h);
      refuses_1 = λ g h. emitted g ∙ emit_refused (log_of more) buffer h;
      adds = λ g h. emitted g ∙ emit_served (log_of more) buffer h;
      reads_back = λ g h.
          ap (λ (o : Answered ℕ × List ℕ). records_of rule (take (length (log_of more)) o.1)) (emitted g ∙ emit_served (log_of more) buffer h)
          ∙ ap (records_of rule) (take-overlay buffer (log_of more)) ∙ log_listed rule more g ∙ ap served (reverse-append records (r ∷ []));
    }

  not_log : (n : Numbered) (r : LogRecord) (buffer : List ℕ) → added_to rule (refused n) r buffer ≡ (refused n, buffer)
  unfolding added_to
  not_log n r buffer = refl

  pub logs : Logs rule
  logs = record {
    decides = decides rule;
    one_list = one_list;
    listed_once = λ records good. rows_lead (log_of records) (reverse records) _ (log_is records ∙ ap (λ (l : List LogRecord). joined l ++ closing (length records) (length (joined records))) (sym (reverse-reverse records)));
    in_parts = in_parts rule;
    lays = lays rule;
    not-shown = not-shown rule;
    past = λ buffer size r h. sym (append_past rule r buffer size h);
    no_log = λ buffer size r n h e. appends rule r buffer size h ∙ ap (λ (a : Answered (List LogRecord)). added_to rule a r buffer) e ∙ not_log n r buffer;
    added = λ records r buffer good stands. adds records r buffer good stands;
  }

pub known-kinds : Kinds
unfolding kinds
known-kinds = record {
  known = λ kind size. (
    go (eqb kind 1) refl (eqb kind 2) refl (eqb kind 3) refl (eqb size 0) refl,
    ⊎_elim (λ e. rw e) (⊎_elim (λ e. rw e) (λ e. rw (e.0, e.1))),
  );
}
  where
    go : {kind size : ℕ} (a : Bool) → eqb kind 1 ≡ a → (b : Bool) → eqb kind 2 ≡ b → (c : Bool) → eqb kind 3 ≡ c → (d : Bool) → eqb size 0 ≡ d
        → (a || (b || (c && d))) ≡ true → (kind ≡ 1) ⊎ ((kind ≡ 2) ⊎ ((kind ≡ 3) × (size ≡ 0)))
    go true e b f c g d h k = inl (eqb-true _ _ e)
    go false e true f c g d h k = inr (inl (eqb-true _ _ f))
    go false e false f true g true h k = inr (inr (eqb-true _ _ g, eqb-true _ _ h))
    go false e false f true g false h k = absurd (true≢false (sym k))
    go false e false f false g d h k = absurd (true≢false (sym k))
