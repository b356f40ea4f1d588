-- `printed::stdin_line` meets its contract: the table begins with the input's words, and papers fill the input.
use Rattle.text.proofs.Put.{wrote_is}
use native.Mathlib.Omega.{arith}
use Prim.Native.Nat.{◌/◌, ◌≤◌}
use lib.ListN.{length}
use Rattle.text.proofs.Sizes.{papers_fill}
use Rattle.printed.proofs.Read.{printed_bad, printed_papers, table_bad, table_papers}
use Rattle.printed.proofs.stdin_line.Goals as goal

pub papers_at-requires : goal.papers_at-requires
papers_at-requires c = let pf = papers_fill c.args.bytes.now c.split.ensures c.in-Some.is in (omega (arith, pf, c.words.auto.table), omega arith)

pub returns-in-None : goal.returns-in-None
returns-in-None c =
    let a = c.args in
    let e = printed_bad a.bytes.now c.split.ensures c.in-None.is in
    let w = wrote_is a.out.now _ c.input_line.ensures e in
    (w.0, w.1, table_bad a.bytes.now a.table.now c.split.ensures c.in-None.is)

pub returns-in-Some : goal.returns-in-Some
returns-in-Some c =
    let a = c.args in
    let pf = papers_fill a.bytes.now c.split.ensures c.in-Some.is in
    let room : length a.bytes.now / 2 ≤ length a.table.now = omega (arith, pf, c.requires.0) in
    let e = printed_papers a.bytes.now a.table.now _ c.split.ensures c.in-Some.is c.words.ensures room pf.0 in
    let w = wrote_is a.out.now _ c.papers_at.ensures e in
    (w.0, w.1, table_papers a.bytes.now a.table.now _ c.split.ensures c.in-Some.is c.words.ensures room)
