-- `both` of the table's atoms meets its contract: by its first argument.
use Rattle.meaning.specs.Tests.{◌and◌}
use Rattle.evaluation.specs.Table.{in_table}
use Rattle.evaluation.proofs.PresentValuation.both.Goals as goal

pub returns-then-a : goal.returns-then-a
unfolding in_table ◌and◌
returns-then-a c = rw c.if-a.true

pub returns-else-a : goal.returns-else-a
unfolding in_table ◌and◌
returns-else-a c = rw c.if-a.false
