-- The bytes of a line: how many, and each at its place. Assumes nothing.
use Prim.Native.Nat.{ℕ, ◌+◌, ◌*◌, ◌≤◌}
use native.Mathlib.Omega.{arith}
use mathlib.Core.Path.{◌≡◌, refl}
use mathlib.Core.Bool.{Bool, true, false, cond}
use mathlib.Core.List.{List, [], ◌∷◌, ◌++◌}
use lib.Dec.{eqb}
use lib.ListN.{length, length-append}
use Rattle.payload.specs.Field.{big_endian}
use Rattle.payload.proofs.Big.{length-big_endian}
use Rattle.wire_log.specs.Log.{LogRecord, record_bytes, joined}
use Rattle.wire_log.specs.Text.{request_word, reply_word, silence_word, word_of, hex_byte, hex_bytes, line_of, lines_of, refused_line}

short : (t u : Bool) → length (cond t request_word (cond u reply_word silence_word)) ≤ 7
short true u = omega arith
short false true = omega arith
short false false = omega arith

pub word_short : (kind : ℕ) → length (word_of kind) ≤ 7
unfolding word_of
word_short kind = short (eqb kind 1) (eqb kind 2)

pub length_hex : (body : List ℕ) → length (hex_bytes body) ≡ 3 * length body
unfolding hex_bytes hex_byte
length_hex [] = refl
length_hex (b ∷ body) = omega (arith, length_hex body)

pub length-line : (r : LogRecord) → length (line_of r) ≡ length (word_of r.kind) + (3 * length r.body + 1)
unfolding line_of
length-line r =
    omega (
      arith,
      length-append (word_of r.kind) (hex_bytes r.body ++ (10 ∷ [])),
      length-append (hex_bytes r.body) (10 ∷ []),
      length_hex r.body,
    )

pub length_refused : (n : ℕ) → length (refused_line n) ≡ 11
unfolding refused_line
length_refused n = refl

length_record : (r : LogRecord) → length (record_bytes r) ≡ length r.body + 3
unfolding record_bytes
length_record r =
    let size : ℕ = length r.body in
    omega (arith, length-append r.body (r.kind ∷ big_endian 2 size), length-big_endian 2 size)

-- a word is at most seven letters, and a trailer three bytes
pub lines_within : (records : List LogRecord) → length (lines_of records) ≤ 3 * length (joined records)
unfolding lines_of joined
lines_within [] = omega arith
lines_within (r ∷ records) =
    omega (
      arith,
      length-append (line_of r) (lines_of records),
      length-line r,
      word_short r.kind,
      length-append (record_bytes r) (joined records),
      length_record r,
      lines_within records,
    )
