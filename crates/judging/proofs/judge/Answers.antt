-- `judging::judge` meets its contract: the dossier is refused, or read.
use Rattle.judging.proofs.Judged.{judge_refused}
use Rattle.judging.proofs.Table.{replied_row}
use Rattle.judging.proofs.Sound.{dossier_sound_lem, dossier_refused}
use Rattle.judging.proofs.judge.Goals as goal

pub judge_with-requires : goal.judge_with-requires
judge_with-requires c = dossier_sound_lem c.args.dossier.now c.dossier.ensures c.in-Ok.is

pub returns-in-Err : goal.returns-in-Err
returns-in-Err c =
    let a = c.args in
    replied_row a.dossier.now a.certificate.now a.rounds.now
    (judge_refused a.dossier.now a.certificate.now a.rounds.now (dossier_refused a.dossier.now c.dossier.ensures c.in-Err.is) c.refused.ensures)

pub returns-in-Ok : goal.returns-in-Ok
returns-in-Ok c = replied_row _ _ _ c.judge_with.ensures
