-- The loop's invariant: to store the words from here on is to store all.
use Rattle.std.proofs.Common.{◌≡◌, drop, map}
use lib.Seq.{sets}
use Rattle.i2c.proofs.WordLaws.{word_in}
use Rattle.i2c.proofs.word.store_words.Given as goal

abbrev pub invariant-loop-k : goal.invariant-loop-k
invariant-loop-k l = sets l.words l.k (map word_in (drop l.k l.chunks)) ≡ sets l.initial.words 0 (map word_in l.chunks)
