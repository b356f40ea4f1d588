-- `promise::line_at` meets its contract: the words that it reads are those of the decoder.
use native.Mathlib.Omega.{arith}
use mathlib.Core.Path.{ap, ◌∙◌}
use Rattle.promise.specs.Line.{data_count}
use Rattle.promise.proofs.line_at.Goals as goal

pub word-requires : goal.word-requires
word-requires c =
    let d = c.data_count.ensures.0 ∙ ap data_count c.word-r.ensures.0 in
    omega arith

pub returns : goal.returns
returns c =
    let d = c.data_count.ensures.0 ∙ ap data_count c.word-r.ensures.0 in
    cc (d, c.word-r.ensures.0, c.word.ensures.0)
