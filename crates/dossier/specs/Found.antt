-- The code's answers: where the sections of a sound dossier stand, or the refusal.
use Rattle.std.specs.Prelude.{ℕ, ◌+◌, List, length, Result}
use Rattle.reply.specs.declared.Fault.{Fault}
use Rattle.reply.specs.declared.Refusal.{Refusal}
use Rattle.words.specs.Out.{Out, then, after}
use Rattle.words.specs.Read.{section}
use Rattle.words.specs.Answer.{answer}
use Rattle.words.specs.declared.item.Section.{Section}
use Rattle.meaning.specs.Papers.{Entry, Dossier}
use Rattle.words.specs.Code.{code_many}
use Rattle.promise.specs.Code.{code_entry}
use Rattle.promise.specs.Layout.{layout_of}
use Rattle.promise.specs.declared.Layout.{Layout}
use Rattle.dossier.specs.Read.{entry, secret, ended}

-- The probes, the secret, and no word after them, as the code reads them in one function.
pub record Asked : Type 0 where
  pub probes : List Entry
  pub secret : Entry

unfoldable pub asked : ℕ → ℕ → List ℕ → ℕ → Out Asked
asked n m ws p =
    then (after (section 0 65 (entry n m)) ws p) (λ es q.
    then (after (secret n m) ws q) (λ s r. ended ws (record { probes = es; secret = s }) r))

-- of the probes and the secret, whose sections begin at p: how many probes there are, and where the secret's section begins
abbrev pub as_asked : ℕ → Out Asked → Result Section (Refusal Fault)
as_asked p o = answer (λ a q. record { count = length a.probes; next = p + length (code_many code_entry a.probes) }) o

abbrev pub as_form : Out Dossier → Result Layout (Refusal Fault)
as_form o = answer (λ D p. layout_of D) o
