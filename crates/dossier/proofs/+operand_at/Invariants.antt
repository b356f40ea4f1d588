-- The measure is the depth left.
use Rattle.dossier.proofs.+operand_at.Given as goal

abbrev pub decreases-operand_at : goal.decreases-operand_at
decreases-operand_at l = l.d
