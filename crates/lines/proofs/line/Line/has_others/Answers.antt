-- `lines::line::Line::has_others` meets its contract.
use Prim.Native.Nat.{ℕ}
use mathlib.Core.Path.{◌∙◌, refl}
use native.Mathlib.Omega.{arith}
use lib.ListN.{length}
use Rattle.std.proofs.lemmas.Iterator.{YieldsList-from_range, YieldsList-from_zip}
use Rattle.std.proofs.lemmas.Iterator.Consumers.{YieldsList-from_first, YieldsList-at}
use Rattle.std.proofs.lemmas.Iterator.Search.{all_from_yields_List}
use Rattle.meaning.specs.Papers.{Literal}
use Rattle.meaning.specs.Tests.{◌or◌, ◌is◌}
use Rattle.meaning.specs.Rules.{is_in}
use Rattle.lines.proofs.Bools.{bools}
use Rattle.lines.proofs.Lists.{others_is}
use Rattle.lines.proofs.line.Line.has_others.Goals as goal

pub returns : goal.returns
returns c =
    let ls = c.args.u.now.literals in
    let test : ℕ × Literal → _ = λ p. p.0 is c.args.i or is_in c.args.self.now.literals p.1 in
    all_from_yields_List test _ _ _ c.all.ensures.ran
    (YieldsList-from_zip (YieldsList-at c.zip.ensures.first (YieldsList-from_range 0 c.count.result (length ls) refl (omega (arith, c.count.ensures)))) (YieldsList-at c.zip.ensures.second (YieldsList-from_first (λ x. x) (λ s. s) ls c.literals.ensures)))
    (λ x b q k. grind (arith, bools))
    ∙ others_is (is_in c.args.self.now.literals) c.args.i ls 0 c.args.i (omega arith)
