-- `words::word_in` meets its contract: at each `return` the tests that led there say which case of `ranged` holds.
use mathlib.Core.Path.{sym, ap, ◌∙◌}
use Rattle.std.specs.Prelude.{Err}
use Rattle.words.proofs.Steps.{answer_bad, answer_told, answer_got, ranged_past, ranged_out, ranged_in}
use Rattle.words.proofs.word_in.Goals as goal

pub returns-then-s-at : goal.returns-then-s-at
returns-then-s-at g c = (ap Err c.at_end.ensures ∙ sym (answer_bad _ _ (ranged_past _ _ _ _ _ c.if-s-at.true)), tt)

pub returns-then-not-contains : goal.returns-then-not-contains
returns-then-not-contains g c =
    let back = g.met.W.Tells.back c.args.fault in
    (ap Err c.at_word.ensures ∙ sym (answer_told _ _ back (ranged_out _ _ _ _ _ c.if-s-at.false c.if-not-contains.ensures.cases)), tt)

pub returns : goal.returns
returns g c = (sym (answer_got _ _ (ranged_in _ _ _ _ _ c.if-s-at.false c.if-not-contains.ensures.cases)), c.if-s-at.false)
