-- The invariant: the table begins with the words before this one.
use mathlib.Core.Path.{◌≡◌}
use Rattle.promise.specs.Place.{filled}
use Rattle.text.specs.Bytes.{word_at}
use Rattle.text.proofs.words.Given as goal

abbrev pub invariant-loop-i : goal.invariant-loop-i
invariant-loop-i l = l.table ≡ filled (word_at l.bytes) l.i l.initial.table
