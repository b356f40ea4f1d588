-- `run` meets its contract: after each round the table has the first rounds so far, and a round that adds nothing is the last.
use mathlib.Core.Path.{sym, ap, ◌∙◌}
use native.Mathlib.Omega.{arith}
use lib.ListN.{length}
use Rattle.promise.proofs.Place.{rows_length}
use Rattle.evaluation.proofs.Rounds.{numbers_none, numbers_on, numbers_stop, numbers_last}
use Rattle.evaluation.proofs.Entry.{asked_sources, sources_below}
use Rattle.evaluation.proofs.PolicyAt.run.Goals as goal

pub loop-done-init : goal.loop-done-init
loop-done-init c =
    let pre = rw (← c.self.view_is) at c.requires in
    rw (← c.self.view_is) (numbers_none _ _ (sources_below (asked_sources c.self.invariant pre.0)) pre.1)

pub one_round-requires : goal.one_round-requires
one_round-requires c = (c.requires.0, ap length c.loop-done.invariant ∙ rows_length _ _)

pub returns-then-not-one_round : goal.returns-then-not-one_round
returns-then-not-one_round c =
    let below = sources_below (asked_sources c.self.invariant (rw (← c.self.view_is) at c.requires.0)) in
    let before = rw (← c.self.view_is) at c.loop-done.invariant in
    let round = rw (← c.self.view_is) at c.one_round.ensures in
    rw (← c.self.view_is) (numbers_stop _ _ below _ (numbers_on _ _ below _ before round.0) (sym round.1 ∙ c.if-not-one_round.true))

pub loop-done-preserved : goal.loop-done-preserved
loop-done-preserved c =
    let below = sources_below (asked_sources c.self.invariant (rw (← c.self.view_is) at c.requires.0)) in
    let before = rw (← c.self.view_is) at c.loop-done.invariant in
    let round = rw (← c.self.view_is) at c.one_round.ensures in
    rw (← c.self.view_is) (numbers_on _ _ below _ before round.0)

pub returns : goal.returns
returns c =
    let below = sources_below (asked_sources c.self.invariant (rw (← c.self.view_is) at c.requires.0)) in
    let before = rw (← c.self.view_is) at c.loop-done.invariant in
    rw (← c.self.view_is) (numbers_last _ _ below c.loop-done.done before (omega (arith, c.self.invariant.laid.atoms)))
