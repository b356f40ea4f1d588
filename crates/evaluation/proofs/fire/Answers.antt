-- `evaluation::fire` meets its contract: in each arm the tests say whether the head is put in.
use Rattle.evaluation.proofs.Firing.{fire_there, fire_yes, fire_no}
use Rattle.evaluation.proofs.fire.Goals as goal
use Rattle.evaluation.proofs.fire.Goals.{else-not-is_there-via-then-not-is_there+else-body_holds, else-not-is_there-via-else-not-is_there}

pub returns-then-body_holds : goal.returns-then-body_holds
returns-then-body_holds c = fire_yes _ _ _ _ c.is_there.ensures c.body_holds.ensures c.if-not-is_there.true c.if-body_holds.true

pub returns-else-not-is_there : goal.returns-else-not-is_there
returns-else-not-is_there c =
    elim c.else-not-is_there.branch [
      | else-not-is_there-via-then-not-is_there+else-body_holds w ↦ fire_no _ _ _ _ c.is_there.ensures w.body_holds.ensures w.if-not-is_there.true w.if-body_holds.false
      | else-not-is_there-via-else-not-is_there w ↦ fire_there _ _ _ _ c.is_there.ensures w.if-not-is_there.false
    ]
