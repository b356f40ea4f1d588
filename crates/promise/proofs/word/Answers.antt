-- `promise::word` meets its contract: the words that it reads are those of the decoder.
use native.Mathlib.Omega.{arith}
use mathlib.Core.Path.{refl}
use Rattle.promise.proofs.word.Goals as goal

pub returns : goal.returns
returns c = (refl, omega (arith, c.type_inv.s c.args.p))
