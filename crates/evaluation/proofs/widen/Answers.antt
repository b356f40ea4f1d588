-- `evaluation::widen` meets its contract.
use native.Mathlib.Omega.{arith}
use mathlib.Core.Path.{◌≡◌}
use lib.ListN.{length}
use Rattle.promise.proofs.Place.{filled_none, filled_on}
use Rattle.evaluation.proofs.Entry.{widened}
use Rattle.evaluation.proofs.widen.Goals as goal

pub loop-i-init : goal.loop-i-init
loop-i-init c = filled_none _ _

pub loop-i-preserved : goal.loop-i-preserved
loop-i-preserved c = filled_on _ _ _ c.loop-i.invariant c.from.ensures (omega arith)

pub returns : goal.returns
returns c =
    let all : c.loop-i.i ≡ length c.args.src.now = omega arith in
    widened c.args.src.now c.args.dst.now _ c.loop-i.invariant all
