-- `printed::answers_line` meets its contract: what the entry replied, and the table after it.
use mathlib.Core.List.{[]}
use native.Mathlib.Omega.{arith}
use Rattle.printed.proofs.Lists.{head_short, answers_line_is}
use Rattle.text.proofs.Put.{wrote_more, wrote_is}
use Rattle.judging.proofs.Table.{row_kept}
use Rattle.printed.proofs.answers_line.Goals as goal

pub list-requires : goal.list-requires
list-requires c = omega (arith, c.requires, head_short c.answers-answer.result, c.answers-answer.auto.table)

pub returns : goal.returns
returns c =
    let t = c.args.out.now in
    let k = row_kept _ _ (c.answers-answer.ensures []) in
    let w = wrote_is t _ (wrote_more t _ _ c.answers_head-p.ensures c.list.ensures) (answers_line_is c.args.dossier.now c.args.table.now k.0 k.1) in
    (w.0, w.1, k.1)
