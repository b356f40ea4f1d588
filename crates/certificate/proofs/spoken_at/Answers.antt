-- `certificate::spoken_at` meets its contract: a literal that speaks of the statement answers for all, and after each that does not the rest answers.
use native.Mathlib.Omega.{arith}
use Prim.Native.Nat.{◌+◌, ◌-◌}
use mathlib.Core.Path.{◌≡◌, refl, sym, ap, ◌∙◌}
use Rattle.promise.specs.Line.{literal}
use Rattle.promise.specs.declared.LiteralAt.{LiteralAt}
use Rattle.promise.proofs.Place.{fit_first, fit_on}
use Rattle.certificate.proofs.Same.{spoken_none, spoken_yes, spoken_on}
use Rattle.promise.proofs.Seen.{held}
use Rattle.certificate.proofs.spoken_at.Goals as goal

pub loop-init : goal.loop-init
loop-init c =
    let z : c.args.count ≡ c.args.count - 0 = omega arith in
    rw (← z) (record { fit = c.requires.0; rest = refl })

pub literal_at-x-requires : goal.literal_at-x-requires
literal_at-x-requires c = fit_first literal _ _ _ (omega arith) c.loop.invariant.fit

pub same_said-requires : goal.same_said-requires
same_said-requires c =
    let a = c.args in
    let x = held a.s.now c.loop.at c.literal_at-x.ensures (fit_first literal _ _ _ (omega arith) c.loop.invariant.fit) in
    (x, held a.s.now a.p c.literal_at-l.ensures c.requires.1)

pub returns-then-same_said : goal.returns-then-same_said
returns-then-same_said c = sym (c.loop.invariant.rest ∙ spoken_yes _ _ _ _ (omega arith) (rw (c.literal_at-l.ensures, c.literal_at-x.ensures) at c.same_said.ensures) c.if-same_said.true)

pub loop-preserved : goal.loop-preserved
loop-preserved c =
    let a = c.args in
    let x = c.literal_at-x.ensures in
    let less : a.count - (c.loop.counter + 1) ≡ a.count - c.loop.counter - 1 = omega arith in
    rw (ap (λ (v : LiteralAt). v.next) x, less) (record {
      fit = fit_on literal a.s.now c.loop.at _ (omega arith) c.loop.invariant.fit;
      rest = c.loop.invariant.rest ∙ spoken_on _ _ _ _ (omega arith) (rw (c.literal_at-l.ensures, x) at c.same_said.ensures) c.if-same_said.false;
    })

pub returns : goal.returns
returns c = sym (c.loop.invariant.rest ∙ spoken_none _ _ _ _ (omega arith))
