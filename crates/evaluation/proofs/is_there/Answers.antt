-- `evaluation::is_there` meets its contract.
use Rattle.evaluation.proofs.Firing.{has_word}
use Rattle.evaluation.proofs.is_there.Goals as goal

pub returns : goal.returns
returns c = has_word _ _
