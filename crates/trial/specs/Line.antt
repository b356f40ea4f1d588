-- The line that a case prints.
use Rattle.std.specs.Prelude.{ℕ, List, take, replicate, Option, None, Some}
use Rattle.promise.specs.Place.{part}
use Rattle.judging.specs.Judge.{judge_of}
use Rattle.text.specs.Line.{line_of, input_line}
use Rattle.printed.specs.Printed.{words_of, printed}
use Rattle.printed.specs.Lists.{answers_line, rounds_line, asking, shown_line}
use Rattle.trial.specs.declared.case.Case.{Case}
use Rattle.trial.specs.declared.case.Case.TheVariants.{Judge, Answers, Shown, Bytes, Rounds}

-- With the words ws, or the bytes bs, that follow its numbers: a paper, and the second after the first. "Kind 1 lends 64 words"; for kind 5 "the table is lent with the fill in
-- every word" (request A5); kind 2 lends a table with 7 in every word.
unfoldable pub line_for : Case → List ℕ → List ℕ → List ℕ
line_for (Judge p) ws bs = line_of (judge_of (part ws 0 p.dossier) (part ws p.dossier p.certificate) 64)
line_for (Answers t d) ws bs = answers_line (part ws 0 d) (replicate t 7)
line_for (Shown paper place count p) ws bs = shown_line (part ws 0 p.dossier) (part ws p.dossier p.certificate) (asking paper place count)
line_for (Bytes n) ws bs = printed (take n bs)
line_for (Rounds fill t p) ws bs = rounds_line (part ws 0 p.dossier) (part ws p.dossier p.certificate) (replicate t fill)

-- what is no case prints INPUT
unfoldable pub case_line : Option Case → List ℕ → List ℕ
case_line None bs = input_line
case_line (Some case) bs = line_for case (words_of bs) bs
