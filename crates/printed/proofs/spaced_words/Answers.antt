-- `printed::spaced_words` meets its contract.
use native.Mathlib.Omega.{arith}
use Rattle.printed.proofs.Lists.{spaced_none, spaced_on, spaced_room, spaced_whole}
use Rattle.printed.proofs.spaced_words.Goals as goal

pub loop-word-init : goal.loop-word-init
loop-word-init c = let a = c.args in spaced_none a.words.now a.out.now a.at c.requires

pub spaced_word-p-requires : goal.spaced_word-p-requires
spaced_word-p-requires c = let a = c.args in let r = spaced_room a.words.now a.out.now a.at c.requires _ c.loop-word.invariant (omega (arith, c.loop-word-test)) in omega (arith, r, c.requires)

pub loop-word-preserved : goal.loop-word-preserved
loop-word-preserved c = let a = c.args in spaced_on a.words.now a.out.now a.at c.requires _ c.loop-word.invariant c.spaced_word-p.ensures c.loop-word-test.true

pub returns : goal.returns
returns c = let a = c.args in spaced_whole a.words.now a.out.now a.at c.requires _ c.loop-word.invariant (omega arith)
