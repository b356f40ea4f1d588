-- `printed::papers_line` meets its contract: the line of what the judge replies, with a table of 64 words lent to it.
use Rattle.judging.proofs.Table.{row_replied}
use Rattle.printed.proofs.papers_line.Goals as goal

pub returns : goal.returns
returns c = rw (← (row_replied _ _ _ c.judge.ensures).0) c.line.ensures
