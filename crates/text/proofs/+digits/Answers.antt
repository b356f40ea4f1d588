-- `text::digits` meets its contract.
use native.Mathlib.Nat.{mod-lt}
use Rattle.text.proofs.Put.{write_none, write_one, write_room, write_last}
use native.Mathlib.Omega.{arith}
use Rattle.text.proofs.+digits.Goals as goal

pub returns-then-room-eq0 : goal.returns-then-room-eq0
returns-then-room-eq0 t c = write_none _ _ _ _ c.if-room-eq0.true

pub bounds-out-at : goal.bounds-out-at
bounds-out-at t c = omega (arith, c.requires)

pub returns-then-n-lt10 : goal.returns-then-n-lt10
returns-then-n-lt10 t c = write_one _ _ _ _ (omega arith) c.requires _ c.if-n-lt10.true c.digit.ensures

pub digits-p-requires : goal.digits-p-requires
digits-p-requires t c = (omega (arith, c.requires), omega (arith, c.requires))

pub digit-requires-2 : goal.digit-requires-2
digit-requires-2 t c = mod-lt _ (omega arith)

pub bounds-out-p : goal.bounds-out-p
bounds-out-p t c = let a = c.args in let r = write_room a.out.now a.at a.room a.n (omega arith) c.requires c.digits-p.ensures.1 in omega (arith, r, c.digits-p.auto.out)

pub overflow_add-result-2 : goal.overflow_add-result-2
overflow_add-result-2 t c = let a = c.args in let r = write_room a.out.now a.at a.room a.n (omega arith) c.requires c.digits-p.ensures.1 in omega (arith, r)

pub returns : goal.returns
returns t c = write_last _ _ _ _ (omega arith) c.requires _ (omega arith) c.digits-p.ensures.0 c.digits-p.ensures.1 c.digit-2.ensures
