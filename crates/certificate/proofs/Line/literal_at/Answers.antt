-- `certificate::Line::literal_at` meets its contract: the sign is refused or read, and the statement answers for the rest.
use mathlib.Core.Path.{◌∙◌}
use Rattle.words.proofs.Steps.{kept, handed_on, read_word, step_made}
use Rattle.certificate.specs.Read.{literal}
use Rattle.certificate.proofs.Line.literal_at.Goals as goal

pub returns-in_err-word_in : goal.returns-in_err-word_in
unfolding literal
returns-in_err-word_in c = kept c.from_residual.ensures ∙ handed_on _ _ _ _ _ c.word_in.ensures.0 c.in_err-word_in.was

pub returns : goal.returns
unfolding literal
returns c = rw ((read_word _ _ _ _ _ _ c.word_in.ensures.0 c.in_ok-word_in.was).is, step_made) c.statement_at.ensures
