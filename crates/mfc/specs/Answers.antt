-- The C interface, its structs: an answer in 01's words as numbers. The refusal's number comes first, 0 for none, and every other
-- field is 0 where nothing is said of it.
use Rattle.std.specs.Prelude.{ℕ, ℤ, pos, Float, false, List}
use Rattle.std.specs.Float.{fin}
use Rattle.refusal.specs.Refusals.{Numbered, number, ◌carrying◌, number_in, Answered, served, refused}
use Rattle.mfc.specs.declared.answers.MfcWritten.{MfcWritten}
use Rattle.mfc.specs.declared.answers.MfcWords.{MfcWords}
use Rattle.mfc.specs.declared.answers.MfcCompared.{MfcCompared}
use Rattle.mfc.specs.declared.answers.MfcRegister.{MfcRegister}
use Rattle.mfc.specs.declared.answers.MfcThousandths.{MfcThousandths}
use Rattle.mfc.specs.declared.answers.MfcQuantity.{MfcQuantity}

-- the value that a number carries, else 0
abbrev pub carried_by : Numbered → ℕ
carried_by (number n) = 0
carried_by (n carrying value) = value

-- the bytes written, or a log's length
abbrev pub written : Answered ℕ → MfcWritten
written (served n) = record { refusal = 0; length = n }
written (refused n) = record { refusal = number_in n; length = 0 }

-- the words stored, or the index that 17 carries; the records of a log, or the rows listed
abbrev pub counted : Answered ℕ → MfcWords
counted (served n) = record { refusal = 0; count = n }
counted (refused n) = record { refusal = number_in n; count = carried_by n }

-- the places of two logs, and how many of them are the same
abbrev pub compared : Answered (ℕ × ℕ) → MfcCompared
compared (served (places, same)) = record { refusal = 0; places = places; same = same }
compared (refused n) = record { refusal = number_in n; places = 0; same = 0 }

-- the register edited
abbrev pub register : Answered ℕ → MfcRegister
register (served n) = record { refusal = 0; value = n }
register (refused n) = record { refusal = number_in n; value = 0 }

-- a reading in thousandths
abbrev pub thousandths : Answered ℤ → MfcThousandths
thousandths (served z) = record { refusal = 0; value = z }
thousandths (refused n) = record { refusal = number_in n; value = pos 0 }

-- a reading in single precision
abbrev pub quantity : Answered Float → MfcQuantity
quantity (served x) = record { refusal = 0; value = x }
quantity (refused n) = record { refusal = number_in n; value = fin false 0 (pos 0) }

-- an answer as a struct, beside the lent room afterwards
abbrev pub beside : {A B : Type 0} → (A → B) → A × List ℕ → B × List ℕ
beside struct outcome = (struct outcome.0, outcome.1)
