-- The check, case by case, as its code tests them. Assumes nothing.
use mathlib.Core.Path.{◌≡◌, sym, ◌∙◌}
use mathlib.Core.Bool.{true}
use mathlib.Core.List.{List}
use Prim.Native.Nat.{ℕ, ◌-◌, ◌≤◌, ◌<◌}
use native.Mathlib.Omega.{arith}
use lib.ListN.{length, take, drop}
use borrow.Author.Tests.{eq-eqb, ne_eqb}
use Rattle.refusal.specs.Refusals.{Numbered, number, Answered, served, refused}
use Rattle.refusal.proofs.Order.{refused_not_served}
use Rattle.payload.specs.Field.{big}
use Rattle.wire_log.specs.Log.{LogRecord, Rule, most}
use Rattle.wire_log.specs.Check.{records_before, count_in, total_in, bad_total, counted, counting, records_of}
use Rattle.wire_log.proofs.Tiling.{bad_short, bad_differs, bad_over, not_bad}

module _ (rule : Rule) (file : List ℕ) where
  bad : bad_total file ≡ true → refused (number 20) ≡ counting (records_of rule file)
  unfolding records_of
  bad h = rw h

  pub check_short : length file < 8 → refused (number 20) ≡ counting (records_of rule file)
  check_short h = bad (bad_short file h)

  module _ (total : ℕ) (is : total ≡ big (take 4 (drop (length file - 4) file))) where
    total_is : total_in file ≡ total
    unfolding total_in
    total_is = sym is

    pub check_differs : (total ≡ length file - 8 → ⊥) → refused (number 20) ≡ counting (records_of rule file)
    check_differs h = bad (bad_differs file (λ e. h (sym total_is ∙ e)))

    pub check_over : most < total → refused (number 20) ≡ counting (records_of rule file)
    check_over h = bad (bad_over file (omega (arith, total_is)))

    module _ (long : 8 ≤ length file) (agrees : total ≡ length file - 8) (within : total ≤ most) where
      walks : records_of rule file ≡ counted (count_in file) (records_before rule file total)
      unfolding records_of
      walks = rw (not_bad file long (total_is ∙ agrees) (omega (arith, total_is)), agrees)

      pub check_refused : {n : Numbered} → refused n ≡ counting (records_before rule file total) → refused n ≡ counting (records_of rule file)
      check_refused h = rw walks (go (records_before rule file total) h)
        where
          go : {n : Numbered} (a : Answered (List LogRecord)) → refused n ≡ counting a → refused n ≡ counting (counted (count_in file) a)
          go (served records) e = absurd (refused_not_served e)
          go (refused n) e = cc

      module _ (count said : ℕ) (is-count : said ≡ big (take 4 (drop (length file - 8) file))) where
        count_is : count_in file ≡ said
        unfolding count_in
        count_is = sym is-count

        pub check_miscounted : served count ≡ counting (records_before rule file total) → (count ≡ said → ⊥) → refused (number 23) ≡ counting (records_of rule file)
        check_miscounted h k = rw (walks, count_is) (go (records_before rule file total) h)
          where
            go : (a : Answered (List LogRecord)) → served count ≡ counting a → refused (number 23) ≡ counting (counted said a)
            go (served records) e = let z : count ≡ length records = cc in rw (ne_eqb (length records) said (λ f. k (z ∙ f)))
            go (refused n) e = absurd (refused_not_served (sym e))

        pub check_good : served count ≡ counting (records_before rule file total) → count ≡ said → served count ≡ counting (records_of rule file)
        check_good h k = rw (walks, count_is) (go (records_before rule file total) h)
          where
            go : (a : Answered (List LogRecord)) → served count ≡ counting a → served count ≡ counting (counted said a)
            go (served records) e = let z : count ≡ length records = cc in rw (eq-eqb (length records) said (sym z ∙ k), ← z)
            go (refused n) e = absurd (refused_not_served (sym e))
