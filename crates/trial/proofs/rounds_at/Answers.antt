-- `trial::rounds_at` meets its contract: the two parts of the words are the papers, and the table is lent as it was filled.
use mathlib.Core.Path.{sym}
use Rattle.printed.proofs.Read.{cut_part}
use Rattle.trial.proofs.Lines.{first_part}
use Rattle.trial.proofs.rounds_at.Goals as goal

pub returns : goal.returns
returns c =
    let a = c.args in
    rw (← first_part a.words.now a.papers.dossier, ← cut_part a.words.now a.papers.dossier a.papers.certificate, sym (c.fill.ensures.after (λ y e. e))) (c.rounds_line.ensures.0, c.rounds_line.ensures.1)
