-- The invariant: `at` is where the thing of this turn begins, and the table has where each before it does.
use mathlib.Core.Path.{◌≡◌}
use Rattle.promise.specs.Place.{place, filled}
use Rattle.promise.proofs.starts.Given as goal

abbrev pub invariant-loop-start : goal.invariant-loop-start
invariant-loop-start g l =
    (l.at ≡ place (g.T.Thing.next l.s) l.p l.start-index) × (l.table ≡ filled (place (g.T.Thing.next l.s) l.p) l.start-index l.initial.table)
