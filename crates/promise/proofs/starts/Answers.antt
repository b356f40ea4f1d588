-- `promise::starts` meets its contract.
use Prim.Native.Nat.{ℕ}
use mathlib.Core.Path.{◌≡◌, refl, sym, ap, subst, ◌∙◌}
use native.Mathlib.Omega.{arith}
use lib.ListN.{length}
use Rattle.promise.specs.Place.{place, filled}
use Rattle.promise.specs.Thing.{Things}
use Rattle.promise.proofs.Place.{place_on, filled_none, filled_on, filled_whole}
use Rattle.promise.proofs.starts.Goals as goal

pub loop-start-init : goal.loop-start-init
unfolding place
loop-start-init g c = (refl, filled_none _ _)

pub next_at-at-requires : goal.next_at-at-requires
unfolding Things
next_at-at-requires g c = subst (g.T.Thing.ok c.args.s.now) (sym c.loop-start.invariant.0) (c.requires _ (omega arith))

pub loop-start-preserved : goal.loop-start-preserved
loop-start-preserved g c =
    let a = c.args in
    let l = c.loop-start in
    (place_on (g.T.Thing.next a.s.now) a.p l.start-index l.invariant.0 c.next_at-at.ensures, filled_on _ _ _ l.invariant.1 l.invariant.0 (omega arith))

pub returns : goal.returns
returns g c =
    let a = c.args in
    let e : c.loop-start.start-index ≡ length a.table.now = omega arith in
    c.loop-start.invariant.1 ∙ ap (λ (n : ℕ). filled (place (g.T.Thing.next a.s.now) a.p) n a.table.now) e ∙ filled_whole _ _
