-- `text::word_at` meets its contract.
use Prim.Native.Nat.{ℕ, ◌+◌, ◌*◌}
use mathlib.Core.Path.{◌≡◌, ap, ◌∙◌}
use native.Mathlib.Omega.{arith}
use lib.ListN.{get_or}
use Rattle.text.specs.Bytes.{word_at}
use Rattle.text.proofs.word_at.Goals as goal

pub returns : goal.returns
unfolding word_at
returns c =
    let bs = c.args.bytes.now in
    let e : get_or bs (2 * c.args.i + 1) 0 * 256 ≡ 256 * get_or bs (2 * c.args.i + 1) 0 = omega arith in
    (c.from_le_bytes.ensures ∙ ap (λ (x : ℕ). get_or bs (2 * c.args.i) 0 + x) e, c.from_le_bytes.type_inv)
