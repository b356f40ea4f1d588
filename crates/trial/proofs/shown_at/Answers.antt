-- `trial::shown_at` meets its contract: the two parts of the words are the papers.
use Rattle.printed.proofs.Read.{cut_part}
use Rattle.trial.proofs.Lines.{first_part}
use Rattle.trial.proofs.shown_at.Goals as goal

pub returns : goal.returns
returns c = let a = c.args in rw (← first_part a.words.now a.papers.dossier, ← cut_part a.words.now a.papers.dossier a.papers.certificate) c.shown_line.ensures
