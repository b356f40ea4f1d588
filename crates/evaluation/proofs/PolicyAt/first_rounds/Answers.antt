-- `first_rounds` meets its contract: the rounds run on the front of a longer table.
use Rattle.evaluation.specs.Held.{table_of}
use Rattle.evaluation.proofs.Entry.{zeros, run_back}
use Rattle.evaluation.proofs.PolicyAt.first_rounds.Goals as goal

pub run-requires : goal.run-requires
run-requires c = rw (← c.self.view_is) (rw (← c.self.view_is) at c.requires, zeros c.none-table.ensures _ c.self.invariant.laid.atoms)

pub returns : goal.returns
unfolding table_of
returns c = rw (← c.self.view_is) (run_back _ _ c.none-table.ensures (rw (← c.self.view_is) at c.run.ensures))
