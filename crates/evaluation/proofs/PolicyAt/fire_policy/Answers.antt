-- `fire_policy` meets its contract: in each arm the clauses that are fired are the policy's.
use mathlib.Core.Bool.{true, false}
use mathlib.Core.Path.{◌∙◌}
use native.Mathlib.Omega.{arith}
use lib.ListN.{length}
use Rattle.promise.specs.Clause.{credential, marked}
use Rattle.promise.proofs.Place.{things_fit}
use Rattle.evaluation.proofs.Fired.{fold_fired}
use Rattle.evaluation.proofs.Firing.{firing, keeping, own_fits, witness_fits, policy_own, policy_tried}
use Rattle.evaluation.proofs.PolicyAt.fire_policy.Goals as goal

pub fire_each-requires : goal.fire_each-requires
fire_each-requires c =
    let P = c.self.inside in
    things_fit (marked (length c.args.table.now)) _ _ _ (own_fits P.words.now P.layout P.witness.now P.which (rw (← c.self.view_is) at c.requires) c.self.invariant.laid.clauses _ (omega arith))

pub fire_each-requires-in-Tried : goal.fire_each-requires-in-Tried
fire_each-requires-in-Tried c =
    let P = c.self.inside in
    things_fit (credential (length c.args.table.now)) _ _ _ (witness_fits P.words.now P.layout P.witness.now P.which (rw (← c.self.view_is) at c.requires) c.in-Tried.is c.self.invariant.witness)

pub fire_each-requires-in-Tried-2 : goal.fire_each-requires-in-Tried-2
fire_each-requires-in-Tried-2 c =
    let P = c.self.inside in
    things_fit (marked (length c.fire_each-in-Tried.new.table)) _ _ _ (own_fits P.words.now P.layout P.witness.now P.which (c.fire_each-in-Tried.auto.table ∙ (rw (← c.self.view_is) at c.requires)) c.self.invariant.laid.clauses _ (omega arith))

pub returns-in-Own : goal.returns-in-Own
returns-in-Own c =
    let a = c.args in
    let P = c.self.inside in
    rw (← c.self.view_is) (policy_own P.words.now P.layout P.witness.now P.which (rw (← c.self.view_is) at c.requires) a.round a.table.now c.in-Own.is (c.fire_each.ensures ∙ fold_fired (keeping true a.round) (marked (length a.table.now)) P.words.now P.layout.nclauses P.layout.clauses a.table.now))

pub returns-in-Tried : goal.returns-in-Tried
returns-in-Tried c =
    let a = c.args in
    let P = c.self.inside in
    let u = c.fire_each-in-Tried.new.table in
    rw (← c.self.view_is) (policy_tried P.words.now P.layout P.witness.now P.which (rw (← c.self.view_is) at c.requires) a.round a.table.now c.in-Tried.is (c.fire_each-in-Tried.auto.table ∙ (rw (← c.self.view_is) at c.requires))
    (c.fire_each-in-Tried.ensures ∙ fold_fired (firing a.round) (credential (length a.table.now)) P.witness.now c.in-Tried.j 2 a.table.now)
    (c.fire_each-in-Tried-2.ensures ∙ fold_fired (keeping false a.round) (marked (length u)) P.words.now P.layout.nclauses P.layout.clauses u))
