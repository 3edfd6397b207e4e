-- `lines::put_decimal`, which calls itself, meets its contract. Assumes nothing.
use Prim.Native.Nat.{ℕ, ◌+◌, ◌/◌, ◌%◌, ◌≤◌, ◌<◌}
use native.Mathlib.Omega.{arith}
use mathlib.Core.Path.{◌≡◌, refl, sym, ap, ◌∙◌}
use mathlib.Core.List.{List, [], ◌∷◌}
use lib.ListN.{length, set, length-append}
use Rattle.refusal.specs.Room.{overlay}
use Rattle.refusal.proofs.Room.{set-overlay, overlay_then, length-overlay}
use Rattle.lines.specs.Text.{digit, decimal}
use Rattle.lines.proofs.Decimal.{decimal_digit, decimal-more}
use Rattle.lines.proofs.+put_decimal.Goals as goal

-- one digit
one : (room : List ℕ) (place n r : ℕ) → n < 10 → place + length (decimal n) ≤ length room → r ≡ place + 1
    → (r ≡ place + length (decimal n)) × (set room place (48 + n) ≡ overlay room place (decimal n))
one room place n r h fits e = rw (decimal_digit n h) (e, set-overlay room place (48 + n) (omega (arith, rw (decimal_digit n h) at fits)))

-- the last digit after the others
last-digit : (room after : List ℕ) (place n last : ℕ) → 10 ≤ n → place + length (decimal n) ≤ length room
    → (last ≡ place + length (decimal (n / 10))) × (after ≡ overlay room place (decimal (n / 10)))
    → (last + 1 ≡ place + length (decimal n)) × (set after last (48 + n % 10) ≡ overlay room place (decimal n))
last-digit room after place n last h fits e =
    let more = decimal-more n h in
    let longer = length-append (decimal (n / 10)) (digit (n % 10) ∷ []) in
    let size : length (decimal n) ≡ length (decimal (n / 10)) + 1 = ap length more ∙ longer in
    let kept : length (overlay room place (decimal (n / 10))) ≡ length room = length-overlay room place (decimal (n / 10)) (omega arith) in (
      omega (arith, e.0),
      rw (e.1, set-overlay (overlay room place (decimal (n / 10))) last (48 + n % 10) (omega (arith, e.0)))
          (overlay_then room place (decimal (n / 10)) (digit (n % 10) ∷ []) last (omega arith) e.0 ∙ ap (overlay room place) (sym more)),
    )

-- one digit less is written first
fewer : (place n size : ℕ) → 10 ≤ n → place + length (decimal n) ≤ size → place + length (decimal (n / 10)) ≤ size
fewer place n size h fits = omega (arith, ap length (decimal-more n h), length-append (decimal (n / 10)) (digit (n % 10) ∷ []))

pub bounds-out-place : goal.bounds-out-place
bounds-out-place t c = omega (arith, rw (decimal_digit c.args.n c.if-n-lt10.true) at c.requires)

pub returns-then-n-lt10 : goal.returns-then-n-lt10
returns-then-n-lt10 t c = let a = c.args in one a.out.now a.place a.n _ c.if-n-lt10.true c.requires refl

pub put_decimal-last-requires : goal.put_decimal-last-requires
put_decimal-last-requires t c =
    let a = c.args in (omega (arith, c.decreases), fewer a.place a.n (length a.out.now) c.if-n-lt10.false c.requires)

pub bounds-out-last : goal.bounds-out-last
bounds-out-last t c =
    let a = c.args in
    omega (arith, c.put_decimal-last.auto.out, (last-digit a.out.now _ a.place a.n _ c.if-n-lt10.false c.requires c.put_decimal-last.ensures).0)

pub overflow_add-result-2 : goal.overflow_add-result-2
overflow_add-result-2 t c =
    let a = c.args in omega (arith, (last-digit a.out.now _ a.place a.n _ c.if-n-lt10.false c.requires c.put_decimal-last.ensures).0)

pub returns : goal.returns
returns t c = let a = c.args in last-digit a.out.now _ a.place a.n _ c.if-n-lt10.false c.requires c.put_decimal-last.ensures
