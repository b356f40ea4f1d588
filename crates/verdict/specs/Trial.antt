-- A witness on trial: the policy that is tried for it, and what is known of that and of the tables.
use Rattle.std.specs.Prelude.{ℕ, ◌≡◌, Bool, List, Option, None, Some}
use Rattle.meaning.specs.Policy.{Policy}
use Rattle.meaning.specs.Papers.{Dossier}
use Rattle.meaning.specs.Looks.{aim}
use Rattle.promise.specs.Place.{many, place, filled}
use Rattle.promise.specs.Thing.{entry_next}
use Rattle.promise.specs.Clause.{credential}
use Rattle.promise.specs.Layout.{dossier_at, ProbeStarts}
use Rattle.promise.specs.declared.Layout.{Layout}
use Rattle.evaluation.specs.Posed.{Posed}
use Rattle.evaluation.specs.Answer.{round_of}
use Rattle.evaluation.specs.declared.Which.TheVariants.{Tried}
use Rattle.verdict.specs.Told.{Told}

-- the dossier behind a policy that is posed, and the witness of so many clauses
abbrev pub dossier_on : Posed → Dossier
dossier_on P = dossier_at P.words P.layout

abbrev pub witness_on : Posed → ℕ → Policy
witness_on P count = many (credential P.layout.atoms) P.witness 2 count

-- P is the policy tried for a witness of so many clauses; a table has where each probe begins, one the dossier's answers, and the goal is the secret's value
pub record OnTrial (P : Posed) (count : ℕ) (probes told : List ℕ) (goal : Bool) : Type 0 where
  pub tried : P.which ≡ Tried count
  pub probes_at : ProbeStarts P.words P.layout probes
  pub answers : Told P.words P.layout told
  pub aimed : goal ≡ aim (dossier_on P)

-- the lent table t after the search for a probe that the witness answers otherwise: "the words 0 to n - 1 of the lent table become these numbers", of probe j; with none it stays
unfoldable pub rounds_there : List ℕ → Layout → List ℕ → ℕ → Option ℕ → List ℕ → List ℕ
rounds_there d o w count None t = t
rounds_there d o w count (Some j) t = filled (round_of d o w (Tried count) (place (entry_next d) o.probes j)) o.atoms t
