-- `either` of the table's atoms meets its contract: by its first argument.
use Rattle.meaning.specs.Tests.{◌or◌}
use Rattle.evaluation.specs.Table.{in_table}
use Rattle.evaluation.proofs.PresentValuation.either.Goals as goal

pub returns-then-a : goal.returns-then-a
unfolding in_table ◌or◌
returns-then-a c = rw c.if-a.true

pub returns-else-a : goal.returns-else-a
unfolding in_table ◌or◌
returns-else-a c = rw c.if-a.false
