-- `dossier::formula_at` meets its contract: the length, then that so many words are there, then the words.
use native.Mathlib.Omega.{arith}
use Prim.Native.Nat.{◌+◌, ◌<◌, ◌≤◌}
use mathlib.Core.Path.{sym, ap, ◌∙◌}
use lib.ListN.{length}
use borrow.Author.Tests.{le-leb, lt-leb, eq-eqb, ne_eqb}
use Rattle.std.specs.Prelude.{Err}
use Rattle.words.proofs.Steps.{kept, handed_on, read_word, stepped, answer_bad, answer_fault, answer_got}
use Rattle.dossier.specs.Read.{formula}
use Rattle.dossier.proofs.formula_at.Goals as goal

pub returns-in_err-len : goal.returns-in_err-len
unfolding formula
returns-in_err-len c = kept c.from_residual.ensures ∙ handed_on _ _ _ _ _ c.word_in.ensures.0 c.in_err-len.was

pub returns-then-s-p : goal.returns-then-s-p
unfolding formula
returns-then-s-p c =
    let r = read_word _ _ _ _ _ _ c.word_in.ensures.0 c.in_ok-len.was in
    let h : length c.args.s.now < c.args.at + 1 + c.in_ok-len.len = omega arith in
    ap Err c.at_end.ensures ∙ sym (answer_bad _ _ (rw (r.is, lt-leb _ _ h)))

pub returns-in_err-q : goal.returns-in_err-q
unfolding formula
returns-in_err-q c =
    let r = read_word _ _ _ _ _ _ c.word_in.ensures.0 c.in_ok-len.was in
    let h : c.args.at + 1 + c.in_ok-len.len ≤ length c.args.s.now = omega (arith, r.here) in
    kept c.from_residual-in_err-q.ensures ∙ rw (r.is, le-leb _ _ h) (handed_on _ _ _ _ _ c.whole_at.ensures c.in_err-q.was)

pub returns-then-q-end : goal.returns-then-q-end
unfolding formula
returns-then-q-end c =
    let r = read_word _ _ _ _ _ _ c.word_in.ensures.0 c.in_ok-len.was in
    let h : c.args.at + 1 + c.in_ok-len.len ≤ length c.args.s.now = omega (arith, r.here) in
    let v = stepped _ _ c.whole_at.ensures c.in_ok-q.was in
    sym (answer_got _ _ {v = v.0} (simp (r.is, le-leb _ _ h, v.1, eq-eqb _ _ c.if-q-end.true)))

pub returns-else-q-end : goal.returns-else-q-end
unfolding formula
returns-else-q-end c =
    let r = read_word _ _ _ _ _ _ c.word_in.ensures.0 c.in_ok-len.was in
    let h : c.args.at + 1 + c.in_ok-len.len ≤ length c.args.s.now = omega (arith, r.here) in
    ap Err c.at_word.ensures ∙ sym (answer_fault _ (rw (r.is, le-leb _ _ h, (stepped _ _ c.whole_at.ensures c.in_ok-q.was).1, ne_eqb _ _ c.if-q-end.false)))
