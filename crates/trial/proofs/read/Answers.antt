-- `trial::read` meets its contract: what a read gives stands after what was given before.
use borrow.Author.Rules.{rules}
use Rattle.text.proofs.Put.{given_on}
use Rattle.trial.proofs.read.Goals as goal

pub loop-done-preserved : goal.loop-done-preserved
loop-done-preserved g c =
    let i = c.loop-done.invariant in
    (search rules, search rules, given_on _ _ _ _ _ _ _ _ i.0 c.in-Ok.ensures.bound.0 i.2 c.in-Ok.ensures.bytes.0)
