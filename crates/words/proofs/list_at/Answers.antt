-- `words::list_at` meets its contract: the count is refused, or the words after it are read.
use mathlib.Core.Path.{◌∙◌}
use Rattle.words.specs.Read.{listed}
use Rattle.words.proofs.Steps.{kept, handed_on, read_word, got_as}
use Rattle.words.proofs.list_at.Goals as goal

pub returns-in_err-k : goal.returns-in_err-k
unfolding listed
returns-in_err-k g c = kept c.from_residual.ensures ∙ handed_on _ _ _ _ _ (got_as _ _ _ _ _ c.of.ensures c.word_in.ensures.0) c.in_err-k.was

pub returns : goal.returns
unfolding listed
returns g c = rw (read_word _ _ _ _ _ _ (got_as _ _ _ _ _ c.of.ensures c.word_in.ensures.0) c.in_ok-k.was).is c.rising_words.ensures
