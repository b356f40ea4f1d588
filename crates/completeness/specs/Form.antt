-- The form of the two papers, decoded (01, "The two papers"), with the limits on counts set aside.
use Rattle.std.specs.Prelude.{List, [], ◌∷◌, ◌≢◌, ℕ, ◌<◌, length}
use Rattle.meaning.specs.Tests.{◌∈◌}
use Rattle.meaning.specs.Policy.{Clause}
use Rattle.meaning.specs.Formula.{Formula, read}
use Rattle.meaning.specs.Papers.{Entry, Marked, Dossier, Statement, Literal, Line}
use Rattle.meaning.specs.Extends.{WellNamed}

-- each element stands so to every later one
unfoldable pub Pairwise : {A : Type 0} → (A → A → Type 0) → List A → Type 0
Pairwise R [] = Unit {0}
Pairwise {A} R (x ∷ l) = ((y : A) → y ∈ l → R x y) × Pairwise R l

-- "strictly rising"
abbrev pub Rising : List ℕ → Type 0
Rising l = Pairwise ◌<◌ l

-- n: "Label k names atom k."
abbrev pub size : Dossier → ℕ
size D = length D.labels

-- the atoms of a clause, and of a formula, are below n
pub record Within (n : ℕ) (c : Clause) : Type 0 where
  pub head : c.head < n
  pub body : (b : ℕ) → b ∈ c.body → b < n

unfoldable pub AtomsBelow : ℕ → Formula → Type 0
AtomsBelow n = read (record { always = Unit {0}; atom = λ a. a < n; neg = λ A. A; conj = λ A B. A × B; disj = λ A B. A × B })

-- All that completeness needs of a well-formed dossier; at each field the refusal that rules out its failure.
pub record WellFormed (D : Dossier) : Type 0 where
  -- 3, "an atom number not below n"
  pub clauses : (m : Marked) → m ∈ D.clauses → Within (size D) m.clause
  -- 3
  pub creds : (c : Clause) → c ∈ D.creds → Within (size D) c
  -- 3, "(in a formula, n to 255)"
  pub atoms : (e : Entry) → e ∈ (D.secret ∷ D.probes) → AtomsBelow (size D) e.formula
  -- 4, "a list not strictly rising"
  pub rising : (e : Entry) → e ∈ (D.secret ∷ D.probes) → Rising e.creds
  -- 6, "a credential number not below the count"
  pub named : WellNamed D

-- The form of a witness's clause: "clauses as credentials are laid out".
pub record ClauseForm (D : Dossier) (c : Clause) : Type 0 where
  -- 3
  pub within : Within (size D) c
  -- 4
  pub rising : Rising c.body

-- The form of a literal: "credential numbers rising, .. atoms rising, one atom".
pub record StatementForm (D : Dossier) (s : Statement) : Type 0 where
  -- 4
  pub creds_rising : Rising s.creds
  pub atoms_rising : Rising s.atoms
  -- 6
  pub creds_below : (i : ℕ) → i ∈ s.creds → i < length D.creds
  -- 3
  pub atoms_below : (x : ℕ) → x ∈ s.atoms → x < size D
  pub atom_below : s.atom < size D

pub record LineForm (D : Dossier) (l : Line) : Type 0 where
  pub each : (x : Literal) → x ∈ l.literals → StatementForm D x.said
  -- 13, "a statement named twice in a line"
  pub once : Pairwise (λ (x y : Literal). x.said ≢ y.said) l.literals
