-- The answers entry: "writes every probe's answer, 0 or 1, one word each, into a lent table and replies with the count; words beyond stay".
-- It refuses by the dossier's form, then 18; "each refusal leaves the table untouched".
use Rattle.std.specs.Prelude.{ℕ, List, leb, length, Result, Ok, Err}
use Rattle.words.specs.Out.{Out, got, bad}
use Rattle.meaning.specs.Tests.{choose}
use Rattle.meaning.specs.Papers as papers
use Rattle.promise.specs.Place.{filled}
use Rattle.dossier.specs.Read.{dossier}
use Rattle.reply.specs.Answer.{refused}
use Rattle.reply.specs.declared.Paper.TheVariants.{Dossier}
use Rattle.judging.specs.Table.{word_to}
use Rattle.reply.specs.declared.Reply.{Reply}

-- the reply, with the table t lent; 18 "answers table shorter than the probe count": "empty part at the dossier's start"
unfoldable pub count_of : Out papers.Dossier → List ℕ → Result ℕ Reply
count_of (got D q) t = choose (leb (length D.probes) (length t)) (Ok (length D.probes)) (Err (refused 18 Dossier 0 0))
count_of (bad e p w) t = Err (refused e Dossier p w)

-- what the table then holds
unfoldable pub table_of : Out papers.Dossier → List ℕ → List ℕ
table_of (got D q) t = choose (leb (length D.probes) (length t)) (filled (word_to D) (length D.probes) t) t
table_of (bad e p w) t = t

unfoldable pub answers_of : List ℕ → List ℕ → Result ℕ Reply
answers_of d t = count_of (dossier d) t

unfoldable pub table_after : List ℕ → List ℕ → List ℕ
table_after d t = table_of (dossier d) t
