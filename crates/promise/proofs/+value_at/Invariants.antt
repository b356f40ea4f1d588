-- The measure is the depth that remains.
use Rattle.promise.proofs.+value_at.Given as goal

abbrev pub decreases-value_at : goal.decreases-value_at
decreases-value_at g l = l.deep
