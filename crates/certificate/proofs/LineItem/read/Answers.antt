-- A line is read as `line` reads it: the rule, its data words and the count are refused or read, and the literals answer for the rest.
use mathlib.Core.Path.{◌∙◌}
use Rattle.words.proofs.Steps.{kept, handed_on, read_word}
use Rattle.words.proofs.Sections.{reading}
use Rattle.certificate.specs.Read.{line}
use Rattle.certificate.proofs.Lines.{data_bad, count_bad, line_on, reads_line}
use Rattle.certificate.proofs.LineItem.read.Goals as goal

pub returns-in_err-rule : goal.returns-in_err-rule
unfolding line
returns-in_err-rule c = reading (line _ _) (reads_line _ _).inside _ _ (kept c.from_residual.ensures ∙ handed_on _ _ _ _ _ c.word_in.ensures.0 c.in_err-rule.was)

pub returns-in_err-q : goal.returns-in_err-q
returns-in_err-q c =
    let r = read_word _ _ _ _ _ _ c.word_in.ensures.0 c.in_ok-rule.was in
    reading (line _ _) (reads_line _ _).inside _ _ (kept c.from_residual-in_err-q.ensures ∙ data_bad _ _ _ _ r.is c.data_count.ensures.0 c.data_at.ensures c.in_err-q.was)

pub returns-in_err-k : goal.returns-in_err-k
returns-in_err-k c =
    let r = read_word _ _ _ _ _ _ c.word_in.ensures.0 c.in_ok-rule.was in
    reading (line _ _) (reads_line _ _).inside _ _ (kept c.from_residual-in_err-k.ensures ∙ count_bad _ _ _ _ r.is c.data_count.ensures.0 c.data_at.ensures c.in_ok-q.was c.word_in-2.ensures.0 c.in_err-k.was)

pub returns : goal.returns
returns c =
    let r = read_word _ _ _ _ _ _ c.word_in.ensures.0 c.in_ok-rule.was in
    let k = read_word _ _ _ _ _ _ c.word_in-2.ensures.0 c.in_ok-k.was in
    reading (line _ _) (reads_line _ _).inside _ _ (c.literals_at.ensures ∙ line_on _ _ _ _ r.is c.data_count.ensures.0 c.data_at.ensures c.in_ok-q.was k.is)
