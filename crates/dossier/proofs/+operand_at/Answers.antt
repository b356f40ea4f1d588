-- `dossier::operand_at` meets its contract: by the depth left, the length, and the kind of the word.
use mathlib.Core.Path.{sym, ap, ◌∙◌}
use Rattle.std.specs.Prelude.{Err}
use Rattle.words.proofs.Steps.{kept}
use Rattle.dossier.proofs.Operand.{op_deep, op_past, op_atom, op_strange, op_true, op_not, op_bad, op_both}
use Rattle.dossier.proofs.Formula.{high, unknown}
use Rattle.dossier.proofs.+operand_at.Goals as goal

pub returns-then-d-eq0 : goal.returns-then-d-eq0
returns-then-d-eq0 t c = ap Err c.at_word.ensures ∙ sym (op_deep _ _ _ _ _ _ c.if-d-eq0.true)

pub returns-then-end-at : goal.returns-then-end-at
returns-then-end-at t c = ap Err c.at_word-then-end-at.ensures ∙ sym (op_past _ _ _ _ _ _ c.if-end-at.true)

pub returns-then-x-n : goal.returns-then-x-n
returns-then-x-n t c = sym (op_atom _ _ _ _ _ _ c.if-d-eq0.false c.if-end-at.false c.if-x-n.true)

pub returns-then-x-lt256 : goal.returns-then-x-lt256
returns-then-x-lt256 t c = ap Err c.at_word-then-x-lt256.ensures ∙ sym (op_strange _ _ _ _ _ _ c.if-d-eq0.false c.if-end-at.false _ (high c.if-x-n.false c.if-x-lt256.true))

pub returns-then-x-eq256 : goal.returns-then-x-eq256
returns-then-x-eq256 t c = sym (op_true _ _ _ _ _ _ c.if-d-eq0.false c.if-end-at.false c.if-x-n.false c.if-x-lt256.false c.if-x-eq256.true)

pub returns-then-x-eq257 : goal.returns-then-x-eq257
returns-then-x-eq257 t c = c.operand_at.ensures ∙ sym (op_not _ _ _ _ _ _ c.if-d-eq0.false c.if-end-at.false c.if-x-n.false c.if-x-lt256.false c.if-x-eq256.false c.if-x-eq257.true)

pub returns-then-x-gt259 : goal.returns-then-x-gt259
returns-then-x-gt259 t c = ap Err c.at_word-then-x-gt259.ensures ∙ sym (op_strange _ _ _ _ _ _ c.if-d-eq0.false c.if-end-at.false _ (unknown c.if-x-n.false c.if-x-gt259.true))

pub returns-in_err-p : goal.returns-in_err-p
returns-in_err-p t c = kept c.from_residual.ensures ∙ sym (op_bad _ _ _ _ _ _ c.if-d-eq0.false c.if-end-at.false c.if-x-n.false c.if-x-lt256.false c.if-x-eq256.false c.if-x-eq257.false c.if-x-gt259.false c.operand_at-2.ensures c.in_err-p.was)

pub returns : goal.returns
returns t c = c.operand_at-3.ensures ∙ sym (op_both _ _ _ _ _ _ c.if-d-eq0.false c.if-end-at.false c.if-x-n.false c.if-x-lt256.false c.if-x-eq256.false c.if-x-eq257.false c.if-x-gt259.false c.operand_at-2.ensures c.in_ok-p.was)
