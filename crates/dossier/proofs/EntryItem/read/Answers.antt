-- An entry is read as `entry` reads it: the credentials are refused or read, and the formula answers for the rest.
use mathlib.Core.Path.{◌∙◌}
use Rattle.words.proofs.Steps.{kept, handed_on, stepped, step_made}
use Rattle.words.proofs.Sections.{reading}
use Rattle.dossier.specs.Read.{entry}
use Rattle.dossier.proofs.Items.{in_entry}
use Rattle.dossier.proofs.EntryItem.read.Goals as goal

pub returns-in_err-p : goal.returns-in_err-p
unfolding entry
returns-in_err-p c = reading (entry _ _) (in_entry _ _) _ _ (kept c.from_residual.ensures ∙ handed_on _ _ _ _ _ c.list_at.ensures c.in_err-p.was)

pub returns : goal.returns
unfolding entry
returns c = reading (entry _ _) (in_entry _ _) _ _ (rw ((stepped _ _ c.list_at.ensures c.in_ok-p.was).1, step_made) c.formula_at.ensures)
