-- Words: high byte, low byte, CRC.
use Rattle.std.specs.Prelude.{ℕ, suc, ◌+◌, ◌*◌, ◌/◌, ◌%◌, Bool, cond, not, ◌||◌, List, [], ◌∷◌, ◌++◌, eqb, length, Option, Some, None}
use Rattle.refusal.specs.Refusals.{number, ◌carrying◌}
use Rattle.refusal.specs.Room.{emit}
use Rattle.i2c.specs.Answer.{Outcome, refuse}
use Rattle.i2c.specs.Crc.{crc_of}
use Rattle.i2c.specs.declared.word.Family.{Family}
use Rattle.i2c.specs.declared.word.Family.TheVariants.{Liquid, Sfc6}

-- 01, Words on I2C: the start value, 00 for liquid sensors and FF for SFC6
abbrev pub start_of : Family → ℕ
start_of Liquid = 0x00
start_of Sfc6 = 0xFF

-- 01, Words on I2C: a word is high byte, low byte, CRC
unfoldable pub word_bytes : ℕ → ℕ → List ℕ
word_bytes start w = w / 256 ∷ w % 256 ∷ crc_of start (w / 256 ∷ w % 256 ∷ []) ∷ []

-- the bytes of several words
unfoldable pub bytes_of : ℕ → List ℕ → List ℕ
bytes_of start [] = []
bytes_of start (w ∷ ws) = word_bytes start w ++ bytes_of start ws

-- the numbers in the bytes of several words; one or two bytes at the end are no word
unfoldable pub words_of : List ℕ → List ℕ
words_of [] = []
words_of (h ∷ []) = []
words_of (h ∷ l ∷ []) = []
words_of (h ∷ l ∷ c ∷ rest) = (h * 256 + l) ∷ words_of rest

-- a check of words: no CRC is wrong, or the first wrong one is that of the word at an index
pub data Check : Type 0 where
  all_good : Check
  wrong_at : ℕ → Check

-- one word: its CRC is right, or the wrong one is its own
unfoldable pub check_word : ℕ → ℕ → ℕ → ℕ → Check
check_word start h l c = cond (eqb (crc_of start (h ∷ l ∷ [])) c) all_good (wrong_at 0)

-- the same, one word further on
abbrev pub later : Check → Check
later all_good = all_good
later (wrong_at k) = wrong_at (suc k)

-- a finding, or where there is none another
abbrev pub or_else : Check → Check → Check
or_else all_good other = other
or_else (wrong_at k) other = wrong_at k

-- 01, Refusal numbers: the first word whose CRC is wrong, its index from 0
unfoldable pub first_wrong : ℕ → List ℕ → Check
first_wrong start [] = all_good
first_wrong start (h ∷ []) = all_good
first_wrong start (h ∷ l ∷ []) = all_good
first_wrong start (h ∷ l ∷ c ∷ rest) = or_else (check_word start h l c) (later (first_wrong start rest))

-- the check's answer in the code, case by case
abbrev pub paper_checked : Option ℕ → Check
paper_checked None = all_good
paper_checked (Some k) = wrong_at k

-- 01, Refusal numbers: 16 where word bytes are empty or not a multiple of 3
unfoldable pub no_words : List ℕ → Bool
no_words bytes = eqb (length bytes) 0 || not (eqb (length bytes % 3) 0)

-- 01, Words on I2C: every word is checked before any is stored; 17 comes before 1
unfoldable pub read_checked : Check → List ℕ → List ℕ → Outcome
read_checked (wrong_at k) bytes lent = refuse (17 carrying k) lent
read_checked all_good bytes lent = emit (words_of bytes) lent

-- 01, Refusal numbers: reading words 16, 17, 1
unfoldable pub read_words : ℕ → List ℕ → List ℕ → Outcome
read_words start bytes lent = cond (no_words bytes) (refuse (number 16) lent) (read_checked (first_wrong start bytes) bytes lent)

-- 01, Refusal numbers: I2C writers 16, 12, 1; no word is out of range
unfoldable pub write_words : ℕ → List ℕ → List ℕ → Outcome
write_words start [] lent = refuse (number 16) lent
write_words start (w ∷ ws) lent = emit (bytes_of start (w ∷ ws)) lent
