-- `reply::shown` meets its contract: in each arm the paper is known, and of that paper `part_of` ensures the rest. Assumes nothing.
use Rattle.reply.specs.Shown.{shown_of, shown_at}
use Rattle.reply.proofs.shown.Goals as goal

pub returns-in-Dossier : goal.returns-in-Dossier
unfolding shown_of shown_at
returns-in-Dossier c = rw c.in-Dossier.is c.part_of.ensures

pub returns-in-Certificate : goal.returns-in-Certificate
unfolding shown_of shown_at
returns-in-Certificate c = rw c.in-Certificate.is c.part_of-in-Certificate.ensures
