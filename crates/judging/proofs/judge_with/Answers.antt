-- `judging::judge_with` meets its contract: the certificate is refused, or offers what is then judged.
use Rattle.judging.proofs.Judged.{judge_unsound}
use Rattle.judging.proofs.Sound.{certificate_sound_lem, certificate_refused}
use Rattle.judging.proofs.judge_with.Goals as goal

pub judge_papers-requires : goal.judge_papers-requires
judge_papers-requires c =
    let a = c.args in
    (c.requires, certificate_sound_lem a.o.atoms a.o.ncreds a.c.now c.certificate.ensures c.in-Ok.is)

pub returns-in-Err : goal.returns-in-Err
returns-in-Err c =
    let a = c.args in
    judge_unsound a.d.now a.c.now a.rounds.now a.o c.requires (certificate_refused a.o.atoms a.o.ncreds a.c.now c.certificate.ensures c.in-Err.is) c.refused.ensures
