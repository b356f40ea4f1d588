-- `judging::judge_papers` meets its contract: 18, or the judgement.
use native.Mathlib.Omega.{arith}
use Rattle.judging.proofs.Judged.{judge_short, judge_meant}
use Rattle.judging.proofs.Sound.{sound_laid, offered_there}
use Rattle.judging.proofs.judge_papers.Goals as goal

pub returns-then-rounds-o : goal.returns-then-rounds-o
returns-then-rounds-o c =
    let a = c.args in
    judge_short a.d.now a.c.now a.rounds.now a.o c.requires.0 a.x c.requires.1 c.if-rounds-o.true c.refused.ensures

pub judge_sound-requires : goal.judge_sound-requires
judge_sound-requires c =
    let a = c.args in
    (sound_laid a.d.now a.o c.requires.0, offered_there a.o.atoms a.o.ncreds a.c.now a.x c.requires.1, omega (arith, c.if-rounds-o.false))

pub returns : goal.returns
returns c =
    let a = c.args in
    judge_meant a.d.now a.c.now a.rounds.now a.o c.requires.0 a.x c.requires.1 (omega (arith, c.if-rounds-o.false)) c.judge_sound.ensures
