-- `evaluation::was_there` meets its contract.
use mathlib.Core.Path.{◌∙◌}
use Rattle.evaluation.proofs.Firing.{before_word, before_not}
use Rattle.evaluation.proofs.was_there.Goals as goal

pub returns-then-is_there : goal.returns-then-is_there
returns-then-is_there c = before_word _ _ _ c.is_there.ensures c.if-is_there.true

pub returns-else-is_there : goal.returns-else-is_there
returns-else-is_there c = c.if-is_there.false ∙ before_not _ _ _ c.is_there.ensures c.if-is_there.false
