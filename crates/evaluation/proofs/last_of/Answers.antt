-- `evaluation::last_of` meets its contract.
use mathlib.Core.Path.{sym}
use Rattle.evaluation.proofs.Entry.{last_none, last_some}
use Rattle.evaluation.proofs.last_of.Goals as goal

pub returns-then-k-eq0 : goal.returns-then-k-eq0
returns-then-k-eq0 c = sym (last_none _ _ c.if-k-eq0.true)

pub returns : goal.returns
returns c = sym (last_some _ _ c.if-k-eq0.false)
