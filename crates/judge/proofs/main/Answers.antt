-- `judge::main` is safe: the line is no longer than its table.
use native.Mathlib.Omega.{arith}
use mathlib.Core.Path.{sym}
use lib.Seq.{length-take-le}
use Rattle.printed.proofs.Read.{printed_count}
use Rattle.judge.proofs.main.Goals as goal

pub slice_bounds-out-end : goal.slice_bounds-out-end
slice_bounds-out-end c = let e = printed_count _ c.stdin_line-k.ensures.1 in omega (arith, e, c.stdin_line-k.auto.out)

pub slice_bounds-write_all-end : goal.slice_bounds-write_all-end
slice_bounds-write_all-end c =
    let e = printed_count _ c.stdin_line-k.ensures.1 in
    sym (length-take-le c.stdin_line-k.result c.stdin_line-k.new.out (omega (arith, e, c.stdin_line-k.auto.out)))
