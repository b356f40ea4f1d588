-- The invariant: each atom has the number of the round that first adds it, of those that are done.
use mathlib.Core.Path.{◌≡◌}
use Rattle.meaning.specs.Policy.{first_of}
use Rattle.promise.specs.Place.{rows}
use Rattle.evaluation.specs.Policy.{joined_in}
use Rattle.evaluation.proofs.PolicyAt.run.Given as goal

abbrev pub invariant-loop-done : goal.invariant-loop-done
invariant-loop-done l = l.table ≡ rows (first_of (joined_in l.self l.e) l.done) l.self.layout.atoms
