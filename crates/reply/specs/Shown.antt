-- 'A further entry takes both papers and a reply. It shows a part of the dossier or of the certificate'. The verdict is not read.
use Rattle.std.specs.Prelude.{ℕ, List, [], Result, Ok, Err}
use Rattle.std.specs.Borrow.{Bor}
use Rattle.reply.specs.declared.Paper.{Paper}
use Rattle.reply.specs.declared.Paper.TheVariants.{Dossier, Certificate}
use Rattle.reply.specs.declared.Reply.{Reply}
use Rattle.reply.specs.Part.{part_of, part_at}

-- 'the paper's name': the one of the dossier d and the certificate c that it names
abbrev pub of_paper : {A : Type 0} → Paper → A → A → A
of_paper Dossier d c = d
of_paper Certificate d c = c

-- the words of the part that a reply shows
unfoldable pub shown_of : List ℕ → List ℕ → Reply → List ℕ
shown_of d c reply = part_of (of_paper reply.paper d c) reply.place reply.count

-- and those of what an entry that writes a table answers: its refusal's; a count shows none
abbrev pub shown_by : List ℕ → List ℕ → Result ℕ Reply → List ℕ
shown_by d c (Ok k) = []
shown_by d c (Err reply) = shown_of d c reply

-- where in memory the part begins
unfoldable pub shown_at : Bor (List ℕ) → Bor (List ℕ) → Reply → ℕ × ℕ
shown_at d c reply = part_at (of_paper reply.paper d c) reply.place reply.count
