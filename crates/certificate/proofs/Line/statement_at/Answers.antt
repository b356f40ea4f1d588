-- `certificate::Line::statement_at` meets its contract: each list and the atom is refused, or was read and the next answers for the rest.
use mathlib.Core.Path.{sym, ◌∙◌}
use Rattle.words.proofs.Steps.{kept, handed_on, read_word, stepped, step_made, answer_got, refused_as}
use Rattle.certificate.specs.Read as read
use Rattle.certificate.proofs.Line.statement_at.Goals as goal

pub returns-in_err-p : goal.returns-in_err-p
unfolding read.statement
returns-in_err-p c = kept c.from_residual.ensures ∙ handed_on _ _ _ _ _ c.list_at.ensures c.in_err-p.was

pub returns-in_err-q : goal.returns-in_err-q
unfolding read.statement
returns-in_err-q c =
    let S = stepped _ _ c.list_at.ensures c.in_ok-p.was in
    kept c.from_residual-in_err-q.ensures ∙ rw S.1 (handed_on _ _ _ _ _ c.list_at-2.ensures c.in_err-q.was)

pub returns-in_err-word_in : goal.returns-in_err-word_in
unfolding read.statement
returns-in_err-word_in c =
    let S = stepped _ _ c.list_at.ensures c.in_ok-p.was in
    let X = stepped _ _ c.list_at-2.ensures c.in_ok-q.was in
    kept c.from_residual-in_err-word_in.ensures ∙ rw (S.1, X.1, step_made) (refused_as _ _ _ _ c.word_in.ensures.0 c.in_err-word_in.was)

pub returns : goal.returns
unfolding read.statement
returns c =
    let S = stepped _ _ c.list_at.ensures c.in_ok-p.was in
    let X = stepped _ _ c.list_at-2.ensures c.in_ok-q.was in
    rw (S.1, X.1, step_made) (sym (answer_got _ _ (read_word _ _ _ _ _ _ c.word_in.ensures.0 c.in_ok-word_in.was).is))
