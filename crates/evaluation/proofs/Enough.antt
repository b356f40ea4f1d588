-- 64 rounds are enough: `enough`.
use Prim.Native.Nat.{ℕ}
use mathlib.Core.List.{List, []}
use native.Mathlib.Omega.{arith}
use lib.ListN.{length}
use Rattle.meaning.specs.Policy.{Clause, Policy}
use Rattle.meaning.specs.Formula.{joined}
use Rattle.meaning.specs.Papers.{Dossier}
use Rattle.meaning.proofs.Demands.{rounds_enough, first_rounds}
use Rattle.promise.specs.Form.{DossierForm, ClauseForm, PartsForm}
use Rattle.evaluation.specs.Enough.{Settled, Enough}
use Rattle.evaluation.proofs.Rounds.{Below}
use Rattle.evaluation.proofs.Atoms.{BelowOne, own_below, tried_below, sent_below}

form_below : {n : ℕ} {c : Clause} → ClauseForm n c → BelowOne n c
form_below f = (f.head, f.body.below)

and_also : {A B C : Type 0} → A × B → C → A × B × C
and_also (a, b) c = (a, b, c)

module _ (D : Dossier) (f : DossierForm D) where
  settled : (P : Policy) → Below (length D.labels) P → (S : List ℕ) → Settled (joined D.creds P S [])
  settled P h S a =
      let n = length D.labels in
      let J = joined D.creds P S [] in
      let below = sent_below n D (λ c m. form_below (f.creds.each c m)) P h S in
      and_also (rounds_enough n _ J (λ c m. (below c m).0) (omega (arith, f.labels.few)) a) (omega (arith, first_rounds.limit n J (λ c m. (below c m).0) a, f.labels.few))

pub enough : Enough
unfolding PartsForm
enough =
    record {
      own = λ D f. settled D f _ (own_below (length D.labels) D (λ m i. form_below (f.clauses.each m i)));
      with_witness = λ D W f g. settled D f _ (tried_below (length D.labels) D (λ m i. form_below (f.clauses.each m i)) W (λ c i. form_below (g.parts.each c i)));
    }
