-- `promise::literal_at` meets its contract: the words that it reads are those of the decoder.
use native.Mathlib.Omega.{arith}
use mathlib.Core.Path.{◌≡◌}
use Rattle.meaning.specs.Tests.{◌is◌}
use lib.ListN.{get_or}
use Rattle.promise.specs.Line.{atoms_at}
use Rattle.promise.proofs.literal_at.Goals as goal

pub word-requires-2 : goal.word-requires-2
word-requires-2 c =
    let a = c.args in
    let h : c.word-m.result ≡ get_or a.s.now (atoms_at a.s.now a.p) 0 = cc (c.word-n.ensures.0, c.word-m.ensures.0) in
    omega arith

pub returns : goal.returns
unfolding ◌is◌
returns c = cc (c.word-2.ensures.0, c.word.ensures.0, c.word-m.ensures.0, c.word-n.ensures.0)
