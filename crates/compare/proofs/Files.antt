-- Two files compared, and how many places two logs have at most: the claim `Compares`. Assumes nothing.
use mathlib.Core.Path.{◌≡◌, refl, sym, ap, ◌∙◌}
use mathlib.Core.List.{List, [], ◌∷◌, reverse, reverse-reverse}
use Prim.Native.Nat.{ℕ, ◌*◌, ◌≤◌}
use native.Mathlib.Omega.{arith}
use lib.ListN.{length, length-append, length-reverse}
use Rattle.refusal.specs.Refusals.{Numbered, Answered, served, refused}
use Rattle.refusal.proofs.Order.{refused_not_served}
use Rattle.payload.specs.Field.{Bytes, big_endian}
use Rattle.wire_log.specs.Log.{LogRecord, kinds, record_bytes, joined}
use Rattle.wire_log.specs.Check.{records_of}
use Rattle.wire_log.proofs.Tiling.{log_listed, listed_is}
use Rattle.compare.specs.Compare.{marks_of, marks_by, marks_in}
use Rattle.compare.specs.Claims.{Compares}
use Rattle.compare.proofs.WholeLaws.{length_places}

of_bad : (n : Numbered) (q : Answered (List LogRecord)) → marks_by (refused n) q ≡ refused n
of_bad n (served ys) = refl
of_bad n (refused m) = refl

-- a record takes three bytes and its body's
three_each : (records : List LogRecord) → 3 * length records ≤ length (joined records)
unfolding joined record_bytes big_endian
three_each [] = omega arith
three_each (r ∷ records) =
    omega (
      arith,
      three_each records,
      length-append (record_bytes r) (joined records),
      length-append r.body (r.kind ∷ big_endian 2 (length r.body)),
      two (length r.body),
    )
  where
    two : (n : ℕ) → length (big_endian 2 n) ≡ 2
    two n = refl

few : (file : List ℕ) → Bytes file → (listing : List LogRecord) → records_of kinds file ≡ served listing → length listing ≤ 21666
few file bytes listing e =
    let good = (listed_is kinds file bytes listing e).0 in
    omega (arith, three_each (reverse listing), good.within, length-reverse listing)

module _ (a b : List ℕ) (bytes-a : Bytes a) (bytes-b : Bytes b) where
  pub places_within : (marks : List ℕ) → marks_in a b ≡ served marks → length marks ≤ 21666
  unfolding marks_in
  places_within marks e = go (records_of kinds a) (records_of kinds b) refl refl e
    where
      go : (p q : Answered (List LogRecord)) → records_of kinds a ≡ p → records_of kinds b ≡ q → marks_by p q ≡ served marks → length marks ≤ 21666
      go (refused n) q f g h = absurd (refused_not_served (sym (of_bad n q) ∙ h))
      go (served xs) (refused m) f g h = absurd (refused_not_served h)
      go (served xs) (served ys) f g h =
          let is : marks_of (reverse xs) (reverse ys) ≡ marks = cc in
          omega (
            arith,
            ap (λ (l : List ℕ). length l) is,
            length_places (reverse xs) (reverse ys),
            length-reverse xs,
            length-reverse ys,
            few a bytes-a xs f,
            few b bytes-b ys g,
          )

pub compares : Compares
unfolding marks_in
compares = record {
  good = λ xs ys good-x good-y.
      (λ i. marks_by (log_listed kinds xs good-x i) (log_listed kinds ys good-y i)) ∙ (λ i. served (marks_of (reverse-reverse xs i) (reverse-reverse ys i)));
  first_bad = λ a b n e. ap (λ (p : Answered (List LogRecord)). marks_by p (records_of kinds b)) e ∙ of_bad n (records_of kinds b);
  second_bad = λ a b records n e f. (λ i. marks_by (e i) (f i));
  most_places = λ a b marks bytes-a bytes-b e. places_within a b bytes-a bytes-b marks e;
}
