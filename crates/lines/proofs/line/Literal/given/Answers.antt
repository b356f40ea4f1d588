-- `lines::line::Literal::given` meets its contract.
use Rattle.promise.proofs.Place.{part_none}
use Rattle.lines.proofs.Names.{part_all}
use native.Mathlib.Omega.{arith}
use Rattle.lines.proofs.line.Literal.given.Goals as goal

pub returns : goal.returns
returns c = rw (part_all c.args.creds.now, part_none c.args.creds.now 0 0 (omega arith))
