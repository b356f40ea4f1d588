-- A clause of the dossier is read as `marked` reads it: the mark is refused or read, and the clause answers for the rest.
use mathlib.Core.Path.{◌∙◌}
use Rattle.words.proofs.Steps.{kept, handed_on, read_word, step_made}
use Rattle.words.proofs.Sections.{reading}
use Rattle.dossier.specs.Read.{marked}
use Rattle.dossier.proofs.Items.{reads_marked}
use Rattle.dossier.proofs.MarkedItem.read.Goals as goal

pub returns-in_err-word_in : goal.returns-in_err-word_in
unfolding marked
returns-in_err-word_in c = reading (marked _) (reads_marked _).inside _ _ (kept c.from_residual.ensures ∙ handed_on _ _ _ _ _ c.word_in.ensures.0 c.in_err-word_in.was)

pub returns : goal.returns
unfolding marked
returns c = reading (marked _) (reads_marked _).inside _ _ (rw ((read_word _ _ _ _ _ _ c.word_in.ensures.0 c.in_ok-word_in.was).is, step_made) c.read.ensures.0)
