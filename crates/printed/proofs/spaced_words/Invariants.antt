-- The invariant: the first words are written, and p is the place after them.
use lib.ListN.{take}
use Rattle.text.proofs.Put.{Placed}
use Rattle.printed.specs.Lists.{spaced_all}
use Rattle.printed.proofs.spaced_words.Given as goal

abbrev pub invariant-loop-word : goal.invariant-loop-word
invariant-loop-word l = Placed l.initial.out l.at (spaced_all (take l.word-index l.words)) l.out l.p
