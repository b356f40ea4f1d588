-- `promise::marked_at` meets its contract: the words that it reads are those of the decoder.
use Rattle.meaning.specs.Tests.{◌is◌}
use Rattle.promise.proofs.marked_at.Goals as goal

pub returns : goal.returns
unfolding ◌is◌
returns c = rw (c.word.ensures.0, c.clause_at-c.ensures)
