-- `printed::rounds_line` meets its contract: what the judge replied, and the table after it.
use native.Mathlib.Omega.{arith}
use Rattle.printed.proofs.Lists.{rounds_line_is}
use Rattle.text.proofs.Put.{reply_short, wrote_more, wrote_is}
use Rattle.judging.proofs.Table.{row_replied}
use Rattle.printed.proofs.rounds_line.Goals as goal

pub list-requires : goal.list-requires
list-requires c = omega (arith, c.requires, reply_short c.judge-reply.result, c.judge-reply.auto.rounds)

pub returns : goal.returns
returns c =
    let a = c.args in
    let says = row_replied _ _ _ c.judge-reply.ensures in
    let w = wrote_is a.out.now _ (wrote_more a.out.now _ _ c.reply_text-p.ensures c.list.ensures) (rounds_line_is a.dossier.now a.certificate.now a.rounds.now says.0 says.1) in
    (w.0, w.1, says.1)
