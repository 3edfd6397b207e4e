-- The loop's invariant: to store the bytes of the words from here on is to store all.
use Rattle.std.proofs.Common.{◌≡◌, ◌*◌, drop}
use lib.Seq.{sets}
use Rattle.i2c.specs.Word.{bytes_of}
use Rattle.i2c.proofs.word.store_by.Given as goal

abbrev pub invariant-loop-k : goal.invariant-loop-k
invariant-loop-k l = sets l.out (3 * l.k) (bytes_of l.start (drop l.k l.words)) ≡ sets l.initial.out 0 (bytes_of l.start l.words)
