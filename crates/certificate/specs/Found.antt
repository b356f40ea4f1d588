-- The code's answer: what a sound certificate proposes, or the refusal.
use Rattle.std.specs.Prelude.{Result}
use Rattle.reply.specs.declared.Fault.{Fault}
use Rattle.reply.specs.declared.Refusal.{Refusal}
use Rattle.words.specs.Out.{Out}
use Rattle.words.specs.Answer.{answer}
use Rattle.meaning.specs.Papers.{Certificate}
use Rattle.promise.specs.Layout.{proposal_of}
use Rattle.promise.specs.declared.Proposal.{Proposal}

abbrev pub as_form : Out Certificate → Result Proposal (Refusal Fault)
as_form o = answer (λ C p. proposal_of C) o
