-- `words::next_word` meets its contract: at each `return` the tests that led there say which case of `next` holds.
use mathlib.Core.Path.{sym, ap, ◌∙◌}
use Rattle.std.specs.Prelude.{Err}
use lib.ListN.{get_or}
use Rattle.words.proofs.Steps.{Allowed, allowed_below, allowed_any, answer_bad, answer_told, told_is, answer_got, next_past, next_over, next_low, next_on}
use Rattle.words.proofs.next_word.Goals.{in-Some+else-limit-x, in_default}
use Rattle.words.proofs.next_word.Goals as goal

pub returns-then-s-p : goal.returns-then-s-p
returns-then-s-p g c = ap Err c.at_end.ensures ∙ sym (answer_bad _ _ (next_past _ _ _ _ _ c.if-s-p.true))

pub returns-then-limit-x : goal.returns-then-limit-x
returns-then-limit-x g c =
    let back = g.met.W.Tells.back c.in-Some.limit.fault in
    ap Err c.at_word.ensures ∙ sym (answer_told _ _ back (next_over _ _ _ _ _ c.if-s-p.false _ c.in-Some.is c.if-limit-x.true))

pub returns-then-x-low : goal.returns-then-x-low
returns-then-x-low g c =
    let a : Allowed c.args.limit (get_or c.args.s.now c.args.p 0) = elim c.match-limit.branch [ in-Some+else-limit-x w ↦ allowed_below w.in-Some.is w.if-limit-x.false | in_default w ↦ allowed_any _ w.in_default.is ] in
    let four = told_is g.W.Tells.as_number g.W.Tells.from_number (g.met.W.Tells.back c.of.result) c.of.ensures in
    ap Err c.at_word-then-x-low.ensures ∙ sym (answer_told _ _ four (next_low _ _ _ _ _ c.if-s-p.false a c.if-x-low.true))

pub returns : goal.returns
returns g c =
    let a : Allowed c.args.limit (get_or c.args.s.now c.args.p 0) = elim c.match-limit.branch [ in-Some+else-limit-x w ↦ allowed_below w.in-Some.is w.if-limit-x.false | in_default w ↦ allowed_any _ w.in_default.is ] in
    sym (answer_got _ _ (next_on _ _ _ _ _ c.if-s-p.false a c.if-x-low.false))
