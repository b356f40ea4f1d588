-- `text::is_whole` meets its contract.
use native.Mathlib.Omega.{arith}
use Rattle.text.proofs.Sizes.{whole_short, whole_long, whole_even}
use Rattle.text.proofs.is_whole.Goals as goal
use Rattle.text.proofs.is_whole.Goals.{then-n-lt2-via-then-n-lt2, then-n-lt2-via-else-n-lt2+then-n-gt65536}

pub returns-then-n-lt2 : goal.returns-then-n-lt2
returns-then-n-lt2 c =
    elim c.then-n-lt2.branch [
      | then-n-lt2-via-then-n-lt2 w ↦ whole_short _ w.if-n-lt2.true
      | then-n-lt2-via-else-n-lt2+then-n-gt65536 w ↦ whole_long _ (omega arith) (omega (arith, w.if-n-gt65536.true))
    ]

pub returns : goal.returns
returns c = whole_even _ (omega arith) (omega arith)
