-- `certificate::Line::literals_at` meets its contract.
use native.Mathlib.Omega.{arith}
use mathlib.Core.Path.{sym, ◌∙◌}
use Rattle.words.proofs.Steps.{kept}
use Rattle.certificate.proofs.Several.{state_first, state_none, state_bad, state_on}
use Rattle.certificate.proofs.Line.literals_at.Goals as goal

pub loop-done-init : goal.loop-done-init
loop-done-init c = state_first

pub next_literal-requires : goal.next_literal-requires
next_literal-requires c = c.loop-done.invariant.fit

pub returns-in_err-p : goal.returns-in_err-p
returns-in_err-p c = kept c.from_residual.ensures ∙ sym (state_bad c.loop-done.invariant c.loop-done-test.true c.next_literal.ensures c.in_err-p.was)

pub loop-done-preserved : goal.loop-done-preserved
loop-done-preserved c = state_on c.loop-done.invariant c.loop-done-test.true c.next_literal.ensures c.in_ok-p.was

pub returns : goal.returns
returns c = sym (state_none c.loop-done.invariant (omega arith))
