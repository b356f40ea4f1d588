-- Firing a clause of the dossier meets its contract: it is fired where every clause counts, or it is visible.
use mathlib.Core.Path.{◌≡◌, ap, ◌∙◌}
use Rattle.std.proofs.Common.{inl, inr}
use Rattle.promise.specs.Clause.{clause_of, marked_of}
use Rattle.evaluation.specs.Table.{fire_one}
use Rattle.promise.specs.declared.MarkedAt.{MarkedAt}
use Rattle.evaluation.specs.Which.{fire_marked}
use Rattle.evaluation.proofs.Firing.{fires, marked_fires, marked_stays}
use Rattle.evaluation.proofs.MarkedFireable.fire_at.Goals as goal
use Rattle.evaluation.proofs.MarkedFireable.fire_at.Goals.{then-self-via-then-self, then-self-via-else-self+then-m}

pub fire-requires : goal.fire-requires
fire-requires c = fires (ap (λ (v : MarkedAt). v.clause) c.marked_at-m.ensures) c.requires

pub returns-then-self : goal.returns-then-self
returns-then-self c =
    let a = c.args in
    let e = c.marked_at-m.ensures in
    let fired : fire_one a.round (clause_of a.s.now c.marked_at-m.result.clause) a.table.now ≡ fire_marked a.self.now.every a.round (marked_of a.s.now c.marked_at-m.result) a.table.now = elim c.then-self.branch [
      | then-self-via-then-self w ↦ marked_fires a.self.now.every a.round a.s.now c.marked_at-m.result a.table.now (inl w.if-self.true)
      | then-self-via-else-self+then-m w ↦ marked_fires a.self.now.every a.round a.s.now c.marked_at-m.result a.table.now (inr w.if-m.true)
    ] in
    (ap (λ (m : MarkedAt). m.clause.next) e, c.fire.ensures ∙ fired ∙ ap (λ (m : MarkedAt). fire_marked a.self.now.every a.round (marked_of a.s.now m) a.table.now) e)

pub returns-else-m : goal.returns-else-m
returns-else-m c =
    let a = c.args in
    let e = c.marked_at-m.ensures in
    (ap (λ (m : MarkedAt). m.clause.next) e, marked_stays a.round a.s.now c.marked_at-m.result a.table.now c.if-self.false c.if-m.false ∙ ap (λ (m : MarkedAt). fire_marked a.self.now.every a.round (marked_of a.s.now m) a.table.now) e)
