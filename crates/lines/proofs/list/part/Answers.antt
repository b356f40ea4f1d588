-- `lines::list::part` meets its contract.
use Prim.Native.Nat.{◌+◌, ◌-◌}
use mathlib.Core.Path.{◌≡◌}
use native.Mathlib.Omega.{arith}
use Rattle.promise.specs.Place.{part}
use Rattle.lines.proofs.list.part.Goals as goal

pub returns : goal.returns
unfolding part
returns c = let e : c.args.p + c.args.k - c.args.p ≡ c.args.k = omega arith in rw e
