-- `Memory::line` meets its contract: what is no case prints INPUT.
use native.Mathlib.Omega.{arith}
use Rattle.text.proofs.Put.{input_line_short}
use Rattle.trial.specs.Line.{case_line}
use Rattle.trial.proofs.Memory.line.Goals as goal

pub returns-in-None : goal.returns-in-None
unfolding case_line
returns-in-None c = rw c.in-None.is (c.input_line.ensures.0, c.input_line.ensures.1, omega (arith, c.input_line.ensures.1, input_line_short))
