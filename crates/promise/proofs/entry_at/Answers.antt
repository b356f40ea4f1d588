-- `promise::entry_at` meets its contract: the words that it reads are those of the decoder.
use Rattle.promise.proofs.entry_at.Goals as goal

pub returns : goal.returns
returns c = cc (c.word-len.ensures.0, c.word-k.ensures.0)
