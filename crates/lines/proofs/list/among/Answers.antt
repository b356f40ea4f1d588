-- `lines::list::among` meets its contract.
use Rattle.std.proofs.Common.{rules, tests}
use Rattle.meaning.specs.Tests.{◌is◌, mem}
use Rattle.lines.proofs.Lists.{any_over}
use Rattle.lines.proofs.list.among.Goals as goal

pub returns : goal.returns
unfolding mem ◌is◌
returns c = any_over (λ y. c.args.x is y) c.args.s.now c.any.ensures.ran (cc) (λ x b q k. search (rules, tests))
