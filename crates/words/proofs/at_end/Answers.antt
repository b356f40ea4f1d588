-- `words::at_end` meets its contract: what it tells has the number 1, and so is what 1 tells.
use mathlib.Core.Path.{sym, ap}
use lib.ListN.{length}
use Rattle.words.proofs.Steps.{told_is}
use Rattle.words.proofs.at_end.Goals as goal

pub returns : goal.returns
returns g c = ap (λ f. record { fault = f; place = length c.args.s.now; count = 0 }) (sym (told_is g.W.Tells.as_number g.W.Tells.from_number (g.met.W.Tells.back c.of.result) c.of.ensures))
