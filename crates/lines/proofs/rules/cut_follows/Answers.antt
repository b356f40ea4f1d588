-- `lines::rules::cut_follows` meets its contract.
use native.Mathlib.Omega.{arith}
use Rattle.std.proofs.Common.{rules, tests}
use Rattle.meaning.specs.Rules.{follows}
use Rattle.lines.specs.Asks.{covered_cred, cuts}
use Rattle.lines.proofs.Bools.{bools}
use Rattle.lines.proofs.Lists.{all_over}
use Rattle.lines.proofs.rules.cut_follows.Goals as goal

pub returns-then-cut_holds : goal.returns-then-cut_holds
unfolding follows covered_cred cuts
returns-then-cut_holds c =
    let test = covered_cred c.args.grounds.now.creds c.args.line.now.literals c.in-Some.l.said in
    let h = all_over test c.creds.result.now c.all.ensures.ran (cc) (λ x b q k. search (rules, tests)) in
    λ e. grind (arith, bools)
