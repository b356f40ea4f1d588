-- `lines::rules::clause_fires` meets its contract.
use native.Mathlib.Omega.{arith}
use Rattle.std.proofs.Common.{rules, tests}
use Rattle.meaning.specs.Rules.{denied, fires}
use Rattle.lines.proofs.Bools.{bools}
use Rattle.lines.proofs.Lists.{all_over}
use Rattle.lines.proofs.rules.clause_fires.Goals as goal

pub returns-then-atom-head : goal.returns-then-atom-head
unfolding fires
returns-then-atom-head c =
    let test = denied c.args.line.now.literals c.args.l.now.said in
    let h = all_over test c.body.result.now c.all.ensures.ran (cc) (λ x b q k. search (rules, tests)) in
    grind (arith, bools)
