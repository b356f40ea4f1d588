-- `lines::line::Line::count` meets its contract.
use mathlib.Core.Path.{sym}
use Rattle.promise.specs.Line.{literal}
use Rattle.promise.proofs.Place.{many_length}
use Rattle.lines.proofs.line.Line.count.Goals as goal

pub returns : goal.returns
returns c = rw (← c.self.view_is) (sym (many_length literal _ _ _))
