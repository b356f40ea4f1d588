-- The invariant: `at` is where the next stands, and what is left to fire gives what all give.
use Prim.Native.Nat.{◌-◌}
use mathlib.Core.Path.{◌≡◌}
use Rattle.promise.specs.Place.{place}
use Rattle.evaluation.specs.Fired.{fired_all}
use Rattle.evaluation.proofs.fire_each.Given as goal

abbrev pub invariant-loop : goal.invariant-loop
invariant-loop g l =
    let next = g.F.Fireable.next l.each l.s in
    let one = g.F.Fireable.fired l.each l.round l.s in
    (l.at ≡ place next l.p l.counter) × (fired_all next one l.p l.k l.initial.table ≡ fired_all next one l.at (l.k - l.counter) l.table)
