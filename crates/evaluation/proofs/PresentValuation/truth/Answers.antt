-- `truth` of the table's atoms meets its contract.
use mathlib.Core.Path.{refl}
use Rattle.evaluation.specs.Table.{in_table}
use Rattle.evaluation.proofs.PresentValuation.truth.Goals as goal

pub returns : goal.returns
unfolding in_table
returns c = refl
