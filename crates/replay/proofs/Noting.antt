-- What the run keeps, and what it notes of a receiver's answer: one law for each return. Assumes nothing.
use Prim.Native.Nat.{ℕ}
use mathlib.Core.Path.{◌≡◌, refl, ap}
use mathlib.Core.Bool.{Bool, true, false, cond}
use mathlib.Core.List.{List, [], ◌∷◌, ◌++◌, map}
use lib.ListN.{take}
use Rattle.refusal.specs.Refusals.{Numbered, served, refused}
use Rattle.shdlc.specs.declared.Kind.{Kind}
use Rattle.shdlc.specs.declared.Kind.TheVariants.{Request, Reply}
use Rattle.shdlc.specs.Stream.{Item}
use Rattle.receiver.specs.Calls.{nothing, gave}
use Rattle.receiver.specs.Series.{refuses_call}
use Rattle.sfc6.specs.Reading.{read_request}
use Rattle.replay.specs.Replay.{Told, yielded}
use Rattle.replay.specs.Private.{after, Kept, known, put, answer, noted, noted_answer}

pub by_test : {A : Type 0} (P : A → Type 0) (t : Bool) {a b : A} → P a → P b → P (cond t a b)
by_test P true p q = p
by_test P false p q = q

pub after-append : {S : Type 0} (act : S → Told → S) (s : S) (ts us : List Told) → after act s (ts ++ us) ≡ after act (after act s ts) us
unfolding after
after-append act s [] us = refl
after-append act s (t ∷ ts) us = after-append act (act s t) ts us

pub map_yielded : (side : Kind) (is js : List Item) → map (yielded side) (is ++ js) ≡ map (yielded side) is ++ map (yielded side) js
map_yielded side [] js = refl
map_yielded side (i ∷ is) js = ap (λ (ts : List Told). yielded side i ∷ ts) (map_yielded side is js)

-- nothing, a refusal, a frame
module _ (lease : ℕ) (k : Kept) (frame : List ℕ) where
  pub nothing_noted : (side : Kind) → k ≡ noted_answer lease side k nothing frame
  unfolding noted_answer after
  nothing_noted side = refl

  pub refused_noted : (side : Kind) (n : Numbered) → k ≡ noted_answer lease side k (gave (refused n)) frame
  unfolding noted_answer after noted
  refused_noted side n = go side (refuses_call n)
    where
      go : (s : Kind) (t : Bool) → k ≡ after (noted lease) k (map (yielded s) (cond t [] (refused n ∷ [])))
      go Request true = refl
      go Request false = refl
      go Reply true = refl
      go Reply false = refl

  pub frame-request : (n : ℕ) (x : Kept) → x ≡ record { latest = known (read_request (take n frame)); board = k.board } → x ≡ noted_answer lease Request k (gave (served n)) frame
  unfolding noted_answer after noted
  frame-request n x e = e

  pub frame-reply : (n : ℕ) (x : Kept) → x ≡ record { latest = k.latest; board = put k.board (answer k.latest (take n frame) lease) } → x ≡ noted_answer lease Reply k (gave (served n)) frame
  unfolding noted_answer after noted
  frame-reply n x e = e

pub ruleset answering = (nothing_noted, refused_noted, frame-request, frame-reply)
