-- `lines::line::Earlier::line` meets its contract.
use Rattle.promise.specs.Line.{line}
use Rattle.lines.proofs.Names.{thing_at, thing_fits, thing_no}
use Rattle.lines.proofs.line.Earlier.line.Goals as goal

pub returns-in_err-q : goal.returns-in_err-q
returns-in_err-q c = rw (c.from_residual.ensures, ← c.self.view_is) (thing_no line _ _ _ _ _ c.self.invariant.0 c.in_err-q.ensures)

pub at-requires : goal.at-requires
at-requires c = thing_fits line _ _ _ _ _ c.self.invariant.0 c.in_ok-q.ensures c.self.invariant.1

pub returns : goal.returns
returns c = rw (c.at.ensures, ← c.self.view_is) (thing_at line _ _ _ _ _ c.self.invariant.0 c.in_ok-q.ensures)
