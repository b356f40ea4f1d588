-- `evaluation::fire_each` meets its contract.
use Prim.Native.Nat.{ℕ, ◌+◌, ◌-◌, ◌<◌}
use mathlib.Core.Path.{◌≡◌, refl, sym, ap, subst, ◌∙◌}
use native.Mathlib.Omega.{arith}
use lib.ListN.{length}
use Rattle.promise.specs.Place.{place}
use Rattle.promise.specs.Thing.{Things}
use Rattle.promise.proofs.Place.{place_on}
use Rattle.evaluation.specs.Fired.{fired_all}
use Rattle.evaluation.proofs.Fired.{fired_none, fired_on, fired_step}
use Rattle.evaluation.proofs.fire_each.Goals as goal

pub loop-init : goal.loop-init
unfolding place
loop-init g c =
    let a = c.args in
    let e : a.k ≡ a.k - 0 = omega arith in
    (refl, ap (λ (k : ℕ). fired_all (g.F.Fireable.next a.each.now a.s.now) (g.F.Fireable.fired a.each.now a.round a.s.now) a.p k a.table.now) e)

pub fire_at-at-requires : goal.fire_at-at-requires
unfolding Things
fire_at-at-requires g c =
    let a = c.args in
    let ok = g.F.Fireable.ok a.each.now in
    let f = c.requires _ c.loop-test.true in
    subst (λ (n : ℕ). ok n a.s.now c.loop.at) (sym c.loop.auto.table) (subst (λ (p : ℕ). ok (length a.table.now) a.s.now p) (sym c.loop.invariant.0) f)

pub loop-preserved : goal.loop-preserved
loop-preserved g c =
    let a = c.args in
    let next = g.F.Fireable.next a.each.now a.s.now in
    let one = g.F.Fireable.fired a.each.now a.round a.s.now in
    let l = c.loop in
    let more : 0 < a.k - l.counter = omega arith in
    let e = fired_on next one l.at l.table (a.k - l.counter) more in
    let k : a.k - l.counter - 1 ≡ a.k - (l.counter + 1) = omega arith in
    (place_on next a.p l.counter l.invariant.0 c.fire_at-at.ensures.0, l.invariant.1 ∙ e ∙ fired_step next one k c.fire_at-at.ensures.0 c.fire_at-at.ensures.1)

pub returns : goal.returns
returns g c =
    let a = c.args in
    sym (c.loop.invariant.1 ∙ fired_none _ _ _ _ (omega arith))
