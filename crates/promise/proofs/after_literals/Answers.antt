-- `promise::after_literals` meets its contract.
use mathlib.Core.Path.{refl, ap}
use Rattle.promise.specs.Place.{place, Fit}
use Rattle.promise.specs.Line.{literal}
use Rattle.promise.specs.declared.LiteralAt.{LiteralAt}
use Rattle.promise.proofs.Place.{place_on}
use Rattle.promise.proofs.after_literals.Goals as goal

pub loop-init : goal.loop-init
unfolding place
loop-init c = refl

pub literal_at-at-requires : goal.literal_at-at-requires
unfolding Fit
literal_at-at-requires c = rw c.loop.invariant (c.requires _ c.loop-test.true)

pub loop-preserved : goal.loop-preserved
loop-preserved c = place_on (literal.next c.args.s.now) c.args.p _ c.loop.invariant (ap (λ (v : LiteralAt). v.next) c.literal_at-at.ensures)
