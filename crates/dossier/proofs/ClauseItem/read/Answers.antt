-- A clause is read as `clause` reads it: the head is refused or read, and the body answers for the rest.
use mathlib.Core.Path.{◌∙◌}
use Rattle.words.proofs.Steps.{kept, handed_on, read_word, step_made}
use Rattle.words.proofs.Sections.{reading}
use Rattle.dossier.specs.Read.{clause}
use Rattle.dossier.proofs.Items.{reads_clause}
use Rattle.dossier.proofs.ClauseItem.read.Goals as goal

pub returns-in_err-word_in : goal.returns-in_err-word_in
unfolding clause
returns-in_err-word_in c = reading (clause _) (reads_clause _).inside _ _ (kept c.from_residual.ensures ∙ handed_on _ _ _ _ _ c.word_in.ensures.0 c.in_err-word_in.was)

pub returns : goal.returns
unfolding clause
returns c = reading (clause _) (reads_clause _).inside _ _ (rw ((read_word _ _ _ _ _ _ c.word_in.ensures.0 c.in_ok-word_in.was).is, step_made) c.list_at.ensures)
