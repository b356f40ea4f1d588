-- The next of a line's literals meets its contract.
use mathlib.Core.Path.{◌∙◌, ap, sym}
use native.Mathlib.Omega.{arith}
use lib.ListN.{length}
use Rattle.promise.specs.Line.{literal}
use Rattle.promise.proofs.Place.{many_none, fit_first}
use Rattle.lines.proofs.Names.{literals_on, literals_fit}
use Rattle.lines.proofs.line.LiteralsIterator.next.Goals as goal

pub returns-then-self-eq0-clause-steps : goal.returns-then-self-eq0-clause-steps
returns-then-self-eq0-clause-steps c = let e = sym c.self.view_is ∙ many_none literal _ _ _ (omega arith) in (e, e)

pub literal_at-at-requires : goal.literal_at-at-requires
literal_at-at-requires c = fit_first literal _ _ _ (omega arith) c.self.invariant

pub invariant_of-result : goal.invariant_of-result
invariant_of-result c = (literals_fit _ _ _ (omega arith) c.literal_at-at.ensures c.self.invariant).0

pub invariant_of-self : goal.invariant_of-self
invariant_of-self c = (literals_fit _ _ _ (omega arith) c.literal_at-at.ensures c.self.invariant).1

pub returns-clause-steps : goal.returns-clause-steps
returns-clause-steps c = sym c.self.view_is ∙ literals_on _ _ _ (omega arith) c.literal_at-at.ensures

pub returns-clause-goes : goal.returns-clause-goes
returns-clause-goes c =
    let e = ap length (sym c.self.view_is ∙ literals_on _ _ _ (omega arith) c.literal_at-at.ensures) in
    record { on = λ _. (tt, tt, omega (arith, e)); keeps = tt; rests = λ _. tt }
