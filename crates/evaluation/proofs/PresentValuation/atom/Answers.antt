-- `atom` of the table's atoms meets its contract.
use Rattle.evaluation.specs.Table.{in_table}
use Rattle.evaluation.proofs.PresentValuation.atom.Goals as goal

pub returns : goal.returns
unfolding in_table
returns c = c.is_there.ensures
