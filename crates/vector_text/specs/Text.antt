-- The text of each piece of a line.
use Rattle.std.specs.Prelude.{ℕ, ◌-◌, ◌/◌, ◌%◌, ◌^◌, true, false, List, [], ◌∷◌, ◌++◌, codes, decimal, Option, Some, Result, Ok, Err}
use Rattle.std.specs.List.{flat_map}
use Rattle.std.specs.Fmt.{digit_glyph, digits, format_spec, option_append, padded_integral}
use Rattle.std.specs.Float.{Float, binary32}
use Rattle.std.specs.Float.Ieee.{to_bits}
use Rattle.refusal.specs.declared.Refusal.{Refusal}
use Rattle.refusal.specs.declared.Refusal.TheVariants.{BadEscape, BareControl, WrongCrc}
use Rattle.refusal.specs.Refusals.{number_of}

-- a space, and a byte's two digits in capitals
abbrev pub byte_text : ℕ → List ℕ
byte_text b = 32 ∷ digit_glyph true (b / 16) ∷ digit_glyph true (b % 16) ∷ []

abbrev pub bytes_text : List ℕ → List ℕ
bytes_text bytes = flat_map byte_text bytes

-- the bits of a float as `{:08X}` writes them, and thus eight digits
abbrev pub bits_text : Float → List ℕ
bits_text x = padded_integral (format_spec 32 0 4 8 (2 ^ 64 - 1)) false [] (digits 16 true (to_bits binary32 x))

-- ` at ` and what a refusal carries of where it arose
abbrev pub where_text : Refusal → List ℕ
where_text (BadEscape place) = codes " at " ++ decimal place
where_text (BareControl place) = codes " at " ++ decimal place
where_text (WrongCrc index) = codes " at " ++ decimal index
where_text _ = []

abbrev pub refused_text : Refusal → List ℕ
refused_text r = codes " refused " ++ (decimal (number_of r) ++ where_text r)

abbrev pub spaced_text : Option (List ℕ) → Option (List ℕ)
spaced_text text = option_append (Some (codes " ")) text

abbrev pub said_text : {A : Type 0} → (A → Option (List ℕ)) → Result A Refusal → Option (List ℕ)
said_text text (Ok a) = text a
said_text text (Err r) = Some (refused_text r)
