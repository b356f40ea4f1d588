-- The invariant: what is left of the body decides.
use Prim.Native.Nat.{◌+◌, ◌-◌}
use mathlib.Core.Path.{◌≡◌}
use Rattle.meaning.specs.Tests.{all}
use Rattle.promise.specs.Place.{part}
use Rattle.evaluation.specs.Table.{before}
use Rattle.evaluation.proofs.body_holds.Given as goal

abbrev pub invariant-loop-x : goal.invariant-loop-x
invariant-loop-x l = all (before l.round l.table) (part l.s l.p l.k) ≡ all (before l.round l.table) (part l.s (l.p + l.x-index) (l.k - l.x-index))
