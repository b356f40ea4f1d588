-- `dossier::whole_at` meets its contract: an atom is the whole formula, any other word is left to `operand_at`.
use mathlib.Core.Path.{sym}
use native.Mathlib.Omega.{arith}
use Rattle.dossier.proofs.Operand.{op_atom}
use Rattle.dossier.proofs.whole_at.Goals as goal

pub returns-then-x-n : goal.returns-then-x-n
returns-then-x-n c = sym (op_atom _ _ _ _ _ _ (λ z. omega arith) c.if-at-end.true c.if-x-n.true)
