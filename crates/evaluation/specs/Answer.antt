-- An entry's answer in a policy, and the rounds that first add each atom in it.
use Rattle.std.specs.Prelude.{ℕ, Bool, List, []}
use Rattle.meaning.specs.Policy.{first_round}
use Rattle.meaning.specs.Papers.{answer}
use Rattle.promise.specs.Code.{bit}
use Rattle.promise.specs.Place.{place}
use Rattle.promise.specs.Formula.{entry_at, entry_of, entry}
use Rattle.promise.specs.Layout.{dossier_at}
use Rattle.promise.specs.declared.Layout.{Layout}
use Rattle.evaluation.specs.Which.{policy_at, joined_at}
use Rattle.evaluation.specs.declared.Which.{Which}
use Rattle.evaluation.specs.declared.Which.TheVariants.{Own}

-- the answer of the entry at p of the dossier's words d, in that policy with the entry's credentials
unfoldable pub answer_of : List ℕ → Layout → List ℕ → Which → ℕ → Bool
answer_of d o w which p = answer (dossier_at d o) (policy_at d o w which) (entry_of d (entry_at d p))

-- "for each atom, the number of the round that first adds it, 0 if none does" (request A5), with the credentials of the entry at p
unfoldable pub round_of : List ℕ → Layout → List ℕ → Which → ℕ → ℕ → ℕ
round_of d o w which p a = first_round (joined_at d o w which (entry_at d p)) a

-- probe j's answer in the dossier's own policy, as a word; no certificate is looked at
unfoldable pub answer_word : List ℕ → Layout → ℕ → ℕ
answer_word d o j = bit (answer_of d o [] Own (place ((entry o.atoms o.ncreds).next d) o.probes j))
