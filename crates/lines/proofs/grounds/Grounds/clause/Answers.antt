-- `lines::grounds::Grounds::clause` meets its contract.
use Rattle.promise.specs.Clause.{marked}
use Rattle.promise.specs.Layout.{dossier_at}
use Rattle.lines.proofs.Names.{thing_at, thing_fits, thing_no}
use Rattle.lines.proofs.grounds.Grounds.clause.Goals as goal

pub returns-in_err-q : goal.returns-in_err-q
unfolding dossier_at
returns-in_err-q c = rw (c.from_residual.ensures, ← c.self.view_is) (thing_no (marked _) _ _ _ _ _ c.self.invariant.clauses c.in_err-q.ensures)

pub marked_at-m-requires : goal.marked_at-m-requires
marked_at-m-requires c = (thing_fits (marked _) _ _ _ _ _ c.self.invariant.clauses c.in_ok-q.ensures c.self.invariant.laid.clauses).ends

pub invariant_of-result : goal.invariant_of-result
invariant_of-result c = rw c.marked_at-m.ensures (thing_fits (marked _) _ _ _ _ _ c.self.invariant.clauses c.in_ok-q.ensures c.self.invariant.laid.clauses).ends

pub returns : goal.returns
unfolding dossier_at
returns c = rw (c.marked_at-m.ensures, ← c.self.view_is) (thing_at (marked _) _ _ _ _ _ c.self.invariant.clauses c.in_ok-q.ensures)
