-- E is D with additions (demand 3).
use Rattle.std.specs.Prelude.{◌≡◌, true, List, [], ◌∷◌, ◌++◌, ℕ, ◌<◌, length}
use Rattle.meaning.specs.Tests.{◌∈◌}
use Rattle.meaning.specs.Policy.{Clause}
use Rattle.meaning.specs.Papers.{Entry, Marked, Dossier}

-- the same clauses, with perhaps more of them marked visible
pub data MoreVisible : List Marked → List Marked → Type 0 where
  done : MoreVisible [] []
  next : {a b : Marked} {l m : List Marked} → a.clause ≡ b.clause → (a.visible ≡ true → b.visible ≡ true) → MoreVisible l m → MoreVisible (a ∷ l) (b ∷ m)

-- "E = D plus credentials or probes added after D's own, or more clauses marked visible"
pub record Extends (D E : Dossier) : Type 0 where
  pub labels : E.labels ≡ D.labels
  pub marks : MoreVisible D.clauses E.clauses
  pub new_creds : List Clause
  pub creds : E.creds ≡ D.creds ++ new_creds
  pub new_probes : List Entry
  pub probes : E.probes ≡ D.probes ++ new_probes
  pub secret : E.secret ≡ D.secret

-- All that demand 3 needs of "well formed": the entries of D name credentials that D has (else refusal 6).
unfoldable pub WellNamed : Dossier → Type 0
WellNamed D = (e : Entry) → e ∈ D.secret ∷ D.probes → (i : ℕ) → i ∈ e.creds → i < length D.creds
