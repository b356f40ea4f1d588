-- `lines::rules::cut_holds` meets its contract.
use native.Mathlib.Omega.{arith}
use Prim.Native.Nat.{ℕ}
use Rattle.std.proofs.Common.{rules, tests}
use Rattle.meaning.specs.Tests.{◌or◌, mem}
use Rattle.meaning.specs.Rules.{denied}
use Rattle.lines.specs.Asks.{cuts}
use Rattle.lines.proofs.Bools.{bools}
use Rattle.lines.proofs.Lists.{all_over}
use Rattle.lines.proofs.rules.cut_holds.Goals as goal

pub returns-then-atom : goal.returns-then-atom
unfolding cuts
returns-then-atom c =
    let test = λ (x : ℕ). mem x c.args.l.now.said.atoms or denied c.args.line.now.literals c.args.l.now.said x in
    let h = all_over test c.atoms.result.now c.all.ensures.ran (cc) (λ x b q k. search (rules, tests)) in
    grind (arith, bools)
