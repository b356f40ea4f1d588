-- `certificate::Line::next_literal` meets its contract: the literal is refused, or was read, and is tested for 13.
use mathlib.Core.Path.{ap, ◌∙◌}
use Rattle.std.specs.Prelude.{Err}
use Rattle.words.proofs.Steps.{kept}
use Rattle.certificate.proofs.Several.{lit, one_stop, one_twice, one_on}
use Rattle.certificate.proofs.Line.next_literal.Goals as goal

pub returns-in_err-q : goal.returns-in_err-q
returns-in_err-q c = kept c.from_residual.ensures ∙ one_stop _ _ _ _ _ c.literal_at.ensures c.in_err-q.was

pub spoken_at-requires : goal.spoken_at-requires
spoken_at-requires c = (c.requires, (lit _ _ _ _ c.literal_at.ensures c.in_ok-q.was).ok)

pub returns-then-spoken_at : goal.returns-then-spoken_at
returns-then-spoken_at c = ap Err c.at_word.ensures ∙ one_twice _ _ _ _ _ (lit _ _ _ _ c.literal_at.ensures c.in_ok-q.was).is c.spoken_at.ensures c.if-spoken_at.true

pub returns : goal.returns
returns c = one_on _ _ _ _ _ (lit _ _ _ _ c.literal_at.ensures c.in_ok-q.was).is c.spoken_at.ensures c.if-spoken_at.false
