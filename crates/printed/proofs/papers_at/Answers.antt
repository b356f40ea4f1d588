-- `printed::papers_at` meets its contract: the two parts of the words are the papers.
use Rattle.text.proofs.Put.{wrote_is}
use Rattle.printed.proofs.Read.{papers_cut}
use Rattle.printed.proofs.papers_at.Goals as goal

pub returns : goal.returns
returns c = let a = c.args in wrote_is a.out.now _ c.papers_line.ensures (papers_cut a.words.now a.at a.d a.c)
