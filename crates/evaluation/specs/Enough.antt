-- Why no more than 64 rounds are run. proofs/Enough.antt has it, as `enough`.
use Rattle.std.specs.Prelude.{ℕ, ◌≤◌, ◌≡◌, true, List, [], ◌↔◌, length}
use Rattle.meaning.specs.Policy.{Policy, after, Holds, first_round}
use Rattle.meaning.specs.Formula.{joined}
use Rattle.meaning.specs.Papers.{Dossier, policy, witness}
use Rattle.meaning.specs.Verdict.{tried}
use Rattle.promise.specs.Form.{DossierForm, CertificateForm}

-- 64 rounds give what holds, one more adds nothing, and "the number is at most 64" of the round that first adds an atom (request A5)
abbrev pub Settled : Policy → Type 0
Settled P = (a : ℕ) → (Holds P a ↔ (after P 64 a ≡ true)) × (after P 65 a ≡ after P 64 a) × (first_round P a ≤ 64)

pub record Enough : Type 0 where
  -- for every sound dossier, whichever credentials S names
  pub own : (D : Dossier) → DossierForm D → (S : List ℕ) → Settled (joined D.creds (policy D) S [])
  -- and for every witness that is sound for it, with the visible clauses
  pub with_witness : (D : Dossier) (W : Policy) → DossierForm D → CertificateForm (length D.labels) (length D.creds) (witness W) → (S : List ℕ) → Settled (joined D.creds (tried D W) S [])
