-- Policies that look the same, detectable and opaque, by the published meaning, with no test. (`AimMeant`, `DetectableTested` and `OpaqueTested` of Demands say them by the test.)
use Rattle.std.specs.Prelude.{◌≡◌, Bool, true, false, ◌↔◌, ℕ}
use Rattle.meaning.specs.Tests.{◌∈◌}
use Rattle.meaning.specs.Policy.{Clause, Policy}
use Rattle.meaning.specs.Formula.{Given}
use Rattle.meaning.specs.Papers.{Entry, Dossier, policy, visible, Yes, answer, Literal, Line}

-- A policy has a clause when one of its own has that head and the same body as a set.
pub record Has (P : Policy) (c : Clause) : Type 0 where
  pub own : Clause
  pub there : own ∈ P
  pub head : own.head ≡ c.head
  pub body : (b : ℕ) → b ∈ own.body ↔ b ∈ c.body

-- P and Q answer an entry alike
abbrev pub Alike : Dossier → Entry → Policy → Policy → Type 0
Alike D e P Q = Yes D P e ↔ Yes D Q e

-- "Two policies look the same when both have the dossier's visible clauses and answer every probe alike."
pub record LookTheSame (D : Dossier) (P Q : Policy) : Type 0 where
  pub first : (c : Clause) → c ∈ visible D → Has P c
  pub second : (c : Clause) → c ∈ visible D → Has Q c
  pub alike : (e : Entry) → e ∈ D.probes → Alike D e P Q

-- "detectable means that every policy that looks the same gives the secret the value it has in the dossier's policy" (A2)
unfoldable pub Detectable : Dossier → Type 0
Detectable D = (Q : Policy) → LookTheSame D (policy D) Q → Alike D D.secret (policy D) Q

-- "else opaque": in the second form that source document 001 gives it (definition 3.11), a policy that looks the same gives it the opposite value.
unfoldable pub Opaque : Dossier → Type 0
Opaque D = (Q : Policy) × LookTheSame D (policy D) Q × (Alike D D.secret (policy D) Q → ⊥)

-- The value of the secret that a proof shows and a witness denies, as the test that rule 2 and the judge cite: the one "it has in the dossier's policy" (A2).
unfoldable pub aim : Dossier → Bool
aim D = answer D (policy D) D.secret

-- A has the value b: it is so, or it is not so
unfoldable pub Value : Bool → Type 0 → Type 0
Value true A = A
Value false A = A → ⊥

-- ---- What a certificate's literal says in a policy

-- "sign (1 positive, 0 negative)"; "It speaks of the statement 'atom given these credentials, these atoms'."
unfoldable pub TrueLiteral : Dossier → Policy → Literal → Type 0
TrueLiteral D Q l = Value l.positive (Given D.creds Q l.said.creds l.said.atoms l.said.atom)

-- a line is true when a literal of it is
unfoldable pub TrueLine : Dossier → Policy → Line → Type 0
TrueLine D Q line = (l : Literal) × l ∈ line.literals × TrueLiteral D Q l
