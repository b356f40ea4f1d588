-- `text::input_line` meets its contract.
use Rattle.text.specs.Line.{input_line}
use Rattle.text.proofs.input_line.Goals as goal

pub returns : goal.returns
unfolding input_line
returns c = c.write.ensures
