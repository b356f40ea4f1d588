-- `text::line` meets its contract: what the reply says, and a line feed after it.
use native.Mathlib.Omega.{arith}
use mathlib.Core.List.{[], ◌∷◌}
use Rattle.text.specs.Line.{line_of}
use Rattle.text.proofs.Put.{wrote_more, reply_short}
use Rattle.text.proofs.line.Goals as goal

pub write-requires : goal.write-requires
write-requires c = let a = c.args in omega (arith, reply_short a.reply)

pub returns : goal.returns
unfolding line_of
returns c = wrote_more c.args.out.now _ (10 ∷ []) c.reply_text-end.ensures c.write.ensures
