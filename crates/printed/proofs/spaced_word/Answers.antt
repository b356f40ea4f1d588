-- `printed::spaced_word` meets its contract: a space, and the digits after it.
use native.Mathlib.Omega.{arith}
use Rattle.printed.specs.Lists.{spaced}
use Rattle.text.proofs.Put.{placed_more}
use Rattle.printed.proofs.spaced_word.Goals as goal

pub returns : goal.returns
unfolding spaced
returns c = placed_more c.args.out.now c.args.at (omega (arith, c.requires)) _ _ c.write-p.ensures (rw c.from.ensures at c.digits.ensures)
