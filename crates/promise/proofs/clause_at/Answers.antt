-- `promise::clause_at` meets its contract: the words that it reads are those of the decoder.
use Rattle.promise.proofs.clause_at.Goals as goal

pub returns : goal.returns
returns c = rw (c.word.ensures.0, c.word-k.ensures.0)
