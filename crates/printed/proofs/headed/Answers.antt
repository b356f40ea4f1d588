-- `printed::headed` meets its contract: the title, and the number after it.
use Rattle.text.specs.Line.{decimal}
use Rattle.text.proofs.Put.{wrote_first, wrote_more}
use Rattle.printed.proofs.Lists.{titled_short}
use Rattle.printed.proofs.headed.Goals as goal

pub returns : goal.returns
unfolding decimal
returns c =
    let a = c.args in
    let w = wrote_more a.out.now _ _ (wrote_first _ _ c.write-p.ensures) c.digits.ensures in
    (w.0, w.1, titled_short a.title.now a.n w.1)
