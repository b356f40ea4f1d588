-- The same, of a policy as the code hands it on: what is asked of it, what it makes true, and what is kept of it.
use Rattle.std.specs.Prelude.{ℕ, zero, suc, ◌+◌, ◌≤◌, ◌<◌, ◌≡◌, Bool, List, get_or, length, Option, None, Some}
use Rattle.meaning.specs.Tests.{◌∈◌}
use Rattle.meaning.specs.Policy as meant
use Rattle.promise.specs.Place.{part}
use Rattle.promise.specs.Formula.{entry_at, EntryFits}
use Rattle.promise.specs.declared.EntryAt.{EntryAt}
use Rattle.evaluation.specs.Which.{policy_at, joined_at}
use Rattle.evaluation.specs.Answer.{answer_of, round_of}
use Rattle.evaluation.specs.Held.{table_of}
use Rattle.evaluation.specs.Posed.{Posed}
use Rattle.evaluation.specs.declared.Kept.{Kept}

-- what is asked of the entry that e is a view of: the words of its credentials are there, and they are the dossier's
pub record Asked (P : Posed) (e : EntryAt) : Type 0 where
  pub there : e.creds + e.count ≤ length P.words
  pub names : (x : ℕ) → x ∈ part P.words e.creds e.count → x < P.layout.ncreds

-- its clauses, and those joined with the entry's credentials
abbrev pub policy_in : Posed → meant.Policy
policy_in P = policy_at P.words P.layout P.witness P.which

abbrev pub joined_in : Posed → EntryAt → meant.Policy
joined_in P e = joined_at P.words P.layout P.witness P.which e

-- an entry's answer, and the round that first adds an atom with its credentials
abbrev pub answer_in_policy : Posed → ℕ → Bool
answer_in_policy P p = answer_of P.words P.layout P.witness P.which p

abbrev pub round_in : Posed → ℕ → ℕ → ℕ
round_in P p a = round_of P.words P.layout P.witness P.which p a

-- the table of what holds at an entry; what is kept of one
abbrev pub table_in : Posed → EntryAt → List ℕ
table_in P e = table_of P.words P.layout P.witness P.which e

abbrev pub kept_at : Posed → ℕ → Kept
kept_at P p = record { entry = p; table = table_in P (entry_at P.words p) }

unfoldable pub Keeps : Posed → Option Kept → Type 0
Keeps P None = Unit {0}
Keeps P (Some k) = EntryFits P.layout.atoms P.layout.ncreds P.words k.entry × (k ≡ kept_at P k.entry)

-- what is kept after the first k of the entries whose places the table has: that of the last
unfoldable pub last_kept : Posed → List ℕ → ℕ → Option Kept
last_kept P t zero = None
last_kept P t (suc k) = Some (kept_at P (get_or t k 0))
