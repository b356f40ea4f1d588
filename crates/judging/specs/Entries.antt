-- Any two functions that might be the entries: what they give for words and a lent table.
use Rattle.std.specs.Prelude.{ℕ, List, Result}
use Rattle.reply.specs.declared.Reply.{Reply}

-- the reply, and what the lent table then holds
pub record Gives (R : Type 0) : Type 0 where
  pub reply : R
  pub table : List ℕ

-- of a dossier, a certificate and a table; of a dossier and a table
abbrev pub Judging : Type 0
Judging = List ℕ → List ℕ → List ℕ → Gives Reply

abbrev pub Answering : Type 0
Answering = List ℕ → List ℕ → Gives (Result ℕ Reply)
