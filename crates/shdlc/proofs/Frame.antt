-- Laws of a frame: its parts, its length, and that it is laid down part by part. Assumes nothing.
use mathlib.Core.Path.{◌≡◌, refl, sym, ap, ◌∙◌}
use mathlib.Core.Bool.{Bool, true, false, not}
use mathlib.Core.List.{List, [], ◌∷◌, ◌++◌, append_assoc}
use Prim.Native.Nat.{ℕ, ◌+◌, ◌-◌, ◌/◌, ◌%◌, ◌≤◌, ◌<◌}
use native.Mathlib.Omega.{arith}
use lib.Dec.{ltb}
use borrow.Author.Tests.{lt-ltb, le-ltb, ltb-true, ltb-false}
use lib.ListN.{length, set, length-append}
use Rattle.refusal.specs.Refusals.{number, Answered, served, refused}
use Rattle.refusal.specs.Room.{overlay}
use Rattle.refusal.proofs.Room.{write_then, set-overlay, emit_served, emit_refused}
use Rattle.shdlc.specs.Checksum.{sum, checksum_of}
use Rattle.shdlc.specs.Stuffing.{stuff_byte, stuff}
use Rattle.shdlc.specs.Frame.{put_at, frame_of, write_frame}
use Rattle.shdlc.proofs.Stuffing.{stuff-append, stuff-one, stuff_short, byte_short}

pub frame-parts : (body : List ℕ) → frame_of body ≡ (((0x7E ∷ []) ++ stuff body) ++ stuff_byte (checksum_of body)) ++ (0x7E ∷ [])
unfolding frame_of
frame-parts body = rw (stuff-append, stuff-one)

pub frame-length : (body : List ℕ) → length (frame_of body) ≡ length (stuff body) + length (stuff_byte (checksum_of body)) + 2
frame-length body =
    let a = length-append (((0x7E ∷ []) ++ stuff body) ++ stuff_byte (checksum_of body)) (0x7E ∷ []) in
    let b = length-append (stuff body) (stuff_byte (checksum_of body)) in
    ap length (frame-parts body) ∙ omega arith

-- a frame that fits, laid down part by part
module _ (body room : List ℕ) (fits : length (frame_of body) ≤ length room) where
  pub first_fits : 0 < length room
  first_fits = omega (arith, frame-length body)

  module _ (after : List ℕ) (place total : ℕ) (sum_is_lem : 255 - total ≡ checksum_of body)
      (laid : (place ≡ 1 + length (stuff body)) × (after ≡ overlay (set room 0 0x7E) 1 (stuff body))) where
    pub end_fits : length after ≡ length room → place + length (stuff_byte (255 - total)) < length after
    end_fits h = rw sum_is_lem (omega (arith, frame-length body, laid.0))

    pub frame-laid : (end : List ℕ) (n : ℕ)
        → (n ≡ place + length (stuff_byte (255 - total) ++ (0x7E ∷ []))) × (end ≡ overlay after place (stuff_byte (255 - total) ++ (0x7E ∷ [])))
        → (served n, end) ≡ write_frame body room
    frame-laid end n e =
        let open₁ = set-overlay room 0 0x7E first_fits in
        let in₁ : 0 ≤ length room = omega arith in
        let one = write_then room (set room 0 0x7E) after (0x7E ∷ []) (stuff body) 0 1 place in₁ (refl, open₁) laid in
        let two = write_then room after end ((0x7E ∷ []) ++ stuff body) (stuff_byte (255 - total) ++ (0x7E ∷ [])) 0 place n in₁ one e in
        let whole : ((0x7E ∷ []) ++ stuff body) ++ (stuff_byte (255 - total) ++ (0x7E ∷ [])) ≡ frame_of body =
        rw sum_is_lem (sym (append_assoc ((0x7E ∷ []) ++ stuff body) (stuff_byte (checksum_of body)) (0x7E ∷ [])) ∙ sym (frame-parts body)) in
        let same = ap length whole in
        let long : n ≡ length (frame_of body) = omega (arith, two.0) in
        rw (emit_served (frame_of body) room fits) (rw (← long, ← whole, two.1))

pub sum-append : (xs ys : List ℕ) → sum (xs ++ ys) ≡ sum xs + sum ys
unfolding sum
sum-append [] ys = omega arith
sum-append (x ∷ xs) ys = omega (arith, sum-append xs ys)

-- a body in three parts
module _ (a b c : List ℕ) where
  abbrev Body : List ℕ
  Body = a ++ (b ++ c)

  -- its checksum, from the sums of one part on top of the other
  pub parts_checksum : (s t u : ℕ) → s ≡ (0 + sum a) % 256 → t ≡ (s + sum b) % 256 → u ≡ (t + sum c) % 256 → 255 - u ≡ checksum_of Body
  unfolding checksum_of
  parts_checksum s t u e f g = rw (sum-append a (b ++ c), sum-append b c) (omega (arith, e, f, g))

  parts_stuffed : stuff Body ≡ (stuff a ++ stuff b) ++ stuff c
  parts_stuffed = rw (stuff-append a (b ++ c), stuff-append b c) (sym (append_assoc (stuff a) (stuff b) (stuff c)))

  pub parts-length : length (frame_of Body) ≡ length (stuff a) + length (stuff b) + length (stuff c) + length (stuff_byte (checksum_of Body)) + 2
  parts-length =
      let k = ap length parts_stuffed in
      let m = length-append (stuff a ++ stuff b) (stuff c) in
      let n = length-append (stuff a) (stuff b) in
      omega (arith, frame-length Body)

  -- its parts, laid down one after the other
  pub parts-laid : (room o₁ o₂ o₃ : List ℕ) (p q r : ℕ) → 1 ≤ length room
      → (p ≡ 1 + length (stuff a)) × (o₁ ≡ overlay room 1 (stuff a)) → (q ≡ p + length (stuff b)) × (o₂ ≡ overlay o₁ p (stuff b))
      → (r ≡ q + length (stuff c)) × (o₃ ≡ overlay o₂ q (stuff c)) → (r ≡ 1 + length (stuff Body)) × (o₃ ≡ overlay room 1 (stuff Body))
  parts-laid room o₁ o₂ o₃ p q r h e f g =
      let one = write_then room o₁ o₂ (stuff a) (stuff b) 1 p q h e f in
      rw parts_stuffed (write_then room o₂ o₃ (stuff a ++ stuff b) (stuff c) 1 q r h one g)

  -- whether the room is too short, from what is left of it after each part
  pub parts_longer : (room s t u x y z l m n size : ℕ)
      → s ≡ (0 + sum a) % 256 → t ≡ (s + sum b) % 256 → u ≡ (t + sum c) % 256
      → x ≡ length (stuff a) → l ≡ room - x → y ≡ length (stuff b) → m ≡ l - y → z ≡ length (stuff c) → n ≡ m - z
      → size ≡ length (stuff_byte (255 - u)) → ltb n (size + 2) ≡ ltb room (length (frame_of Body))
  parts_longer room s t u x y z l m n size es et eu ex el ey em ez en e =
      let sized : size ≡ length (stuff_byte (checksum_of Body)) = e ∙ ap (λ (k : ℕ). length (stuff_byte k)) (parts_checksum s t u es et eu) in
      let whole : length (frame_of Body) ≡ x + y + z + size + 2 = omega (arith, parts-length) in
      go (ltb room (length (frame_of Body))) refl whole
    where
      go : (test : Bool) → ltb room (length (frame_of Body)) ≡ test → length (frame_of Body) ≡ x + y + z + size + 2 → ltb n (size + 2) ≡ test
      go true h k =
          let short : room < length (frame_of Body) = ltb-true _ _ h in
          let less : n < size + 2 = omega (arith, el, em, en) in
          lt-ltb _ _ less
      go false h k =
          let fits : length (frame_of Body) ≤ room = ltb-false _ _ h in
          let more : size + 2 ≤ n = omega (arith, el, em, en) in
          le-ltb _ _ more

  -- a room of so much holds the frame, whatever the bytes are
  pub parts_roomy : (room : ℕ) → length a + (length b + length c) + 2 ≤ room / 2 → length (frame_of Body) ≤ room
  parts_roomy room h =
      omega (arith, parts-length, stuff_short a, stuff_short b, stuff_short c, (byte_short (checksum_of Body)).1)

not_true : (test : Bool) → not test ≡ true → test ≡ false
not_true true e = sym e
not_true false e = refl

pub roomy_holds : (half n : ℕ) (test : Bool) → test ≡ not (ltb half n) → test ≡ true → n ≤ half
roomy_holds half n test e h = ltb-false _ _ (not_true _ (sym e ∙ h))

-- a test of the room, where it is too short and where it is not
module _ (body room : List ℕ) {test : Bool} (e : test ≡ ltb (length room) (length (frame_of body))) where
  pub no_frame : test ≡ true → (refused (number 1), room) ≡ write_frame body room
  no_frame h = sym (emit_refused (frame_of body) room (ltb-true _ _ (sym e ∙ h)))

  pub fits_room : test ≡ false → length (frame_of body) ≤ length room
  fits_room h = ltb-false _ _ (sym e ∙ h)

-- one byte at a place, where it fits
module _ (room : List ℕ) (place b : ℕ) where
  pub put_served : place + length (stuff_byte b) ≤ length room → {n : ℕ} {after : List ℕ}
      → (n ≡ place + length (stuff_byte b)) × (after ≡ overlay room place (stuff_byte b)) → (served n, after) ≡ put_at room place b
  put_served h e = rw (le-ltb _ _ h, e.0, e.1)

  -- and back: where it fits, what such a call answered and did
  pub put-done : place + length (stuff_byte b) ≤ length room → {a : Answered ℕ} {after : List ℕ} → (a, after) ≡ put_at room place b
      → (a ≡ served (place + length (stuff_byte b))) × (after ≡ overlay room place (stuff_byte b))
  put-done h e =
      let f = rw (le-ltb _ _ h) at e in
      (ap (λ (x : Answered ℕ × List ℕ). x.0) f, ap (λ (x : Answered ℕ × List ℕ). x.1) f)
