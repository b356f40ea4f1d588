-- `lines::line::Line::has` meets its contract: the first that is left is the one, or those after it answer for it.
use mathlib.Core.Path.{sym, ◌∙◌}
use Rattle.meaning.specs.Rules.{is_in}
use Rattle.promise.proofs.Step.{any_none, any_on, any_yes}
use Rattle.lines.proofs.line.Line.has.Goals as goal

pub returns-then-is_same_as : goal.returns-then-is_same_as
unfolding is_in
returns-then-is_same_as c = sym (c.loop-m.invariant ∙ any_yes _ c.in-Some.ensures.steps (sym c.is_same_as.ensures ∙ c.if-is_same_as.true))

pub loop-m-preserved : goal.loop-m-preserved
unfolding is_in
loop-m-preserved c = c.loop-m.invariant ∙ any_on _ c.in-Some.ensures.steps (sym c.is_same_as.ensures ∙ c.if-is_same_as.false)

pub returns : goal.returns
unfolding is_in
returns c = sym (c.loop-m.invariant ∙ any_none _ c.in-None.ensures.steps.0)
