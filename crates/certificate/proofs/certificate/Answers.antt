-- `certificate::certificate` meets its contract: the length, then the kind, then the witness or the proof.
use mathlib.Core.Path.{◌∙◌}
use native.Mathlib.Omega.{arith}
use Rattle.words.proofs.Steps.{kept, read_word}
use Rattle.certificate.proofs.Whole.{too_long, kind_bad, witness_is, proof_is}
use Rattle.certificate.proofs.certificate.Goals as goal

pub returns-then-words-gt24000 : goal.returns-then-words-gt24000
returns-then-words-gt24000 c = too_long _ _ _ (omega arith)

pub returns-in_err-kind : goal.returns-in_err-kind
returns-in_err-kind c = kept c.from_residual.ensures ∙ kind_bad _ _ _ (omega arith) c.word_in.ensures.0 c.in_err-kind.was

pub returns-in_err-clauses : goal.returns-in_err-clauses
returns-in_err-clauses c = kept c.from_residual-in_err-clauses.ensures ∙ witness_is _ _ _ (omega arith) (read_word _ _ _ _ _ _ c.word_in.ensures.0 c.in_ok-kind.was).is c.if-kind-eq1.true c.last_section.ensures c.in_err-clauses.was

pub returns-then-kind-eq1 : goal.returns-then-kind-eq1
returns-then-kind-eq1 c = witness_is _ _ _ (omega arith) (read_word _ _ _ _ _ _ c.word_in.ensures.0 c.in_ok-kind.was).is c.if-kind-eq1.true c.last_section.ensures c.in_ok-clauses.was

pub returns-in_err-lines : goal.returns-in_err-lines
returns-in_err-lines c = kept c.from_residual-in_err-lines.ensures ∙ proof_is _ _ _ (omega arith) (read_word _ _ _ _ _ _ c.word_in.ensures.0 c.in_ok-kind.was).is c.if-kind-eq1.false c.last_section-2.ensures c.in_err-lines.was

pub returns : goal.returns
returns c = proof_is _ _ _ (omega arith) (read_word _ _ _ _ _ _ c.word_in.ensures.0 c.in_ok-kind.was).is c.if-kind-eq1.false c.last_section-2.ensures c.in_ok-lines.was
