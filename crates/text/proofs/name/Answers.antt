-- `text::name` meets its contract: in each arm the paper is known.
use Rattle.text.specs.Line.{name_of}
use Rattle.text.proofs.name.Goals as goal

pub returns-in-Dossier : goal.returns-in-Dossier
unfolding name_of
returns-in-Dossier c = rw c.in-Dossier.is c.write.ensures

pub returns-in-Certificate : goal.returns-in-Certificate
unfolding name_of
returns-in-Certificate c = rw c.in-Certificate.is c.write-in-Certificate.ensures
