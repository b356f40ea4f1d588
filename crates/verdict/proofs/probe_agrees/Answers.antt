-- `verdict::probe_agrees` meets its contract.
use Prim.Native.Nat.{ℕ}
use mathlib.Core.Path.{ap, ◌∙◌}
use lib.ListN.{get_or}
use Rattle.meaning.specs.Tests.{◌is◌}
use Rattle.promise.specs.Code.{bit}
use Rattle.evaluation.proofs.Entry.{byte_bit}
use Rattle.verdict.proofs.probe_agrees.Goals as goal

pub returns : goal.returns
unfolding ◌is◌
returns c =
    let a = c.args in
    ap (λ (x : ℕ). x is get_or a.told.now a.i 0) (c.from.ensures ∙ byte_bit _ ∙ ap bit c.answer_in.ensures)
