-- 'The verdict is one of opaque, detectable, or refused with its number. The reply holds that verdict beside the paper's name, a place, and a count of words.'
use Rattle.std.specs.Prelude.{ℕ}
use Rattle.std.proofs.Math.Option.{Option, none, some}
use Rattle.reply.specs.declared.Paper.{Paper}
use Rattle.reply.specs.declared.Paper.TheVariants.{Certificate}
use Rattle.reply.specs.declared.Verdict.{Verdict}
use Rattle.reply.specs.declared.Verdict.TheVariants.{Opaque, Detectable, Refused}
use Rattle.reply.specs.declared.Reply.{Reply}

-- 'refused with its number': a refusal's number; opaque and detectable have none
abbrev pub number_of : Verdict → Option ℕ
number_of Opaque = none
number_of Detectable = none
number_of (Refused k) = some k

-- the reply to accepted papers: the verdict, beside no words, from the start of the certificate
abbrev pub accepted : Verdict → Reply
accepted v = record { verdict = v; paper = Certificate; place = 0; count = 0 }

-- the reply to refused papers: the number, beside the paper, the place and the count of the words that it shows
abbrev pub refused : ℕ → Paper → ℕ → ℕ → Reply
refused number paper place count =
    record { verdict = Refused number; paper = paper; place = place; count = count }
