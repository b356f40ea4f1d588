-- Firing a witness's clause meets its contract.
use mathlib.Core.Path.{ap, ◌∙◌}
use Rattle.promise.specs.Clause.{clause_of}
use Rattle.promise.specs.declared.ClauseAt.{ClauseAt}
use Rattle.evaluation.specs.Table.{fire_one}
use Rattle.evaluation.proofs.Firing.{fires}
use Rattle.evaluation.proofs.ClausesFireable.fire_at.Goals as goal

pub fire-requires : goal.fire-requires
fire-requires c = fires c.clause_at-c.ensures c.requires

pub returns : goal.returns
returns c =
    let a = c.args in
    let e = c.clause_at-c.ensures in
    (ap (λ (v : ClauseAt). v.next) e, c.fire.ensures ∙ ap (λ (v : ClauseAt). fire_one a.round (clause_of a.s.now v) a.table.now) e)
