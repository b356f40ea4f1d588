-- `certificate::data_at` meets its contract: so many words are there, or the paper ends before.
use native.Mathlib.Omega.{arith}
use mathlib.Core.Path.{sym, ap, ◌∙◌}
use Rattle.std.specs.Prelude.{Err}
use Rattle.words.proofs.Steps.{answer_bad}
use Rattle.certificate.proofs.Lines.{data_there, data_past}
use Rattle.certificate.proofs.data_at.Goals as goal

pub returns-then-s-at : goal.returns-then-s-at
returns-then-s-at c = ap Err c.at_end.ensures ∙ sym (answer_bad _ _ (data_past _ _ _ c.requires (omega arith)))

pub returns : goal.returns
returns c = sym (data_there _ _ _ (omega arith))
