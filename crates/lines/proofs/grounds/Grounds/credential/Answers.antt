-- `lines::grounds::Grounds::credential` meets its contract.
use Rattle.promise.specs.Clause.{credential}
use Rattle.promise.specs.Layout.{dossier_at}
use Rattle.lines.proofs.Names.{thing_at, thing_fits, thing_no}
use Rattle.lines.proofs.grounds.Grounds.credential.Goals as goal

pub returns-in_err-q : goal.returns-in_err-q
unfolding dossier_at
returns-in_err-q c = rw (c.from_residual.ensures, ← c.self.view_is) (thing_no (credential _) _ _ _ _ _ c.self.invariant.creds c.in_err-q.ensures)

pub clause_at-requires : goal.clause_at-requires
clause_at-requires c = (thing_fits (credential _) _ _ _ _ _ c.self.invariant.creds c.in_ok-q.ensures c.self.invariant.laid.creds).ends

pub invariant_of-result : goal.invariant_of-result
invariant_of-result c = rw c.clause_at.ensures (thing_fits (credential _) _ _ _ _ _ c.self.invariant.creds c.in_ok-q.ensures c.self.invariant.laid.creds).ends

pub returns : goal.returns
unfolding dossier_at
returns c = rw (c.clause_at.ensures, ← c.self.view_is) (thing_at (credential _) _ _ _ _ _ c.self.invariant.creds c.in_ok-q.ensures)
