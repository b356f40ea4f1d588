-- `judging::answers` meets its contract: the dossier is refused, or read.
use Rattle.judging.proofs.Judged.{answers_refused}
use Rattle.judging.proofs.Table.{kept_row}
use Rattle.judging.proofs.Sound.{dossier_sound_lem, dossier_refused}
use Rattle.judging.proofs.answers.Goals as goal

pub answers_with-requires : goal.answers_with-requires
answers_with-requires c =
    let a = c.args in
    dossier_sound_lem a.dossier.now c.dossier.ensures c.in-Ok.is

pub returns-in-Err : goal.returns-in-Err
returns-in-Err c =
    let a = c.args in
    λ w. kept_row a.dossier.now a.table.now w
    (answers_refused a.dossier.now a.table.now (dossier_refused a.dossier.now c.dossier.ensures c.in-Err.is) c.refused.ensures)

pub returns-in-Ok : goal.returns-in-Ok
returns-in-Ok c = λ w. kept_row _ _ w c.answers_with.ensures
