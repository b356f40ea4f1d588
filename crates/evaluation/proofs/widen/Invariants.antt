-- The invariant: the table begins with the numbers before this one.
use mathlib.Core.Path.{◌≡◌}
use lib.ListN.{get_or}
use Rattle.promise.specs.Place.{filled}
use Rattle.evaluation.proofs.widen.Given as goal

abbrev pub invariant-loop-i : goal.invariant-loop-i
invariant-loop-i l = l.dst ≡ filled (λ j. get_or l.src j 0) l.i l.initial.dst
