-- The invariant: `at` is where literal number `counter` begins.
use mathlib.Core.Path.{◌≡◌}
use Rattle.promise.specs.Place.{place}
use Rattle.promise.specs.Line.{literal}
use Rattle.promise.proofs.after_literals.Given as goal

abbrev pub invariant-loop : goal.invariant-loop
invariant-loop l = l.at ≡ place (literal.next l.s) l.p l.counter
