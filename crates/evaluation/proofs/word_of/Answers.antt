-- `evaluation::word_of` meets its contract.
use mathlib.Core.Path.{◌∙◌}
use Rattle.evaluation.proofs.Entry.{byte_bit}
use Rattle.evaluation.proofs.word_of.Goals as goal

pub returns : goal.returns
returns c = c.from.ensures ∙ byte_bit _
