-- `text::words` meets its contract.
use mathlib.Core.Path.{◌≡◌, ap, ◌∙◌}
use Prim.Native.Nat.{ℕ, ◌/◌, min}
use native.Mathlib.Omega.{arith}
use lib.ListN.{length}
use Rattle.promise.specs.Place.{filled}
use Rattle.promise.proofs.Place.{filled_none, filled_on}
use Rattle.text.specs.Bytes.{word_at}
use Rattle.text.proofs.words.Goals as goal

pub loop-i-init : goal.loop-i-init
loop-i-init c = filled_none _ _

pub loop-i-preserved : goal.loop-i-preserved
loop-i-preserved c = filled_on _ _ _ c.loop-i.invariant c.word_at.ensures.0 (omega arith)

pub returns : goal.returns
returns c =
    let e : c.loop-i.i ≡ min (length c.args.bytes.now / 2) (length c.args.table.now) = omega arith in
    c.loop-i.invariant ∙ ap (λ (n : ℕ). filled (word_at c.args.bytes.now) n c.args.table.now) e
