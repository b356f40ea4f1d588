-- The two papers, decoded (01, "The two papers").
use Rattle.std.specs.Prelude.{Bool, List, map, ℕ}
use Rattle.meaning.specs.Tests.{keep}
use Rattle.meaning.specs.Policy.{Clause, Policy}
use Rattle.meaning.specs.Formula.{Formula, Truth, truth}

-- ---- The dossier

-- "A probe is a set of credentials and a formula", the credentials by their numbers. "The secret is one more entry of the same shape."
pub record Entry : Type 0 where
  pub creds : List ℕ
  pub formula : Formula

-- a clause with its mark
pub record Marked : Type 0 where
  pub visible : Bool
  pub clause : Clause

-- The five sections. Label k names atom k.
pub record Dossier : Type 0 where
  pub labels : List ℕ
  pub clauses : List Marked
  pub creds : List Clause
  pub probes : List Entry
  pub secret : Entry

-- the dossier's policy, and its visible clauses
unfoldable pub policy : Dossier → Policy
policy D = map (λ (m : Marked). m.clause) D.clauses

unfoldable pub visible : Dossier → Policy
visible D = map (λ (m : Marked). m.clause) (keep (λ (m : Marked). m.visible) D.clauses)

-- "Its answer is the formula's truth": that policy P answers an entry with yes, and the answer
unfoldable pub Yes : Dossier → Policy → Entry → Type 0
Yes D P e = Truth D.creds P e.creds e.formula

unfoldable pub answer : Dossier → Policy → Entry → Bool
answer D P e = truth D.creds P e.creds e.formula

-- ---- The certificate

-- "atom given these credentials, these atoms"
pub record Statement : Type 0 where
  pub creds : List ℕ
  pub atoms : List ℕ
  pub atom : ℕ

-- "sign (1 positive, 0 negative)" and the statement that the literal speaks of
pub record Literal : Type 0 where
  pub positive : Bool
  pub said : Statement

-- The rules with their data words, in the order of 01's table.
pub data Rule : Type 0 where
  -- 1: probe k
  probe : ℕ → Rule
  -- 2: none
  secret : Rule
  -- 3: clause i, literal j
  clause : ℕ → ℕ → Rule
  -- 4: literal j
  assumed : ℕ → Rule
  -- 5: credential c, literal j
  credential : ℕ → ℕ → Rule
  -- 6: literals j, i
  cut : ℕ → ℕ → Rule
  -- 7: c, literals i, j, k
  without : ℕ → ℕ → ℕ → ℕ → Rule
  -- 8: lines u, v, literals i, j
  resolve : ℕ → ℕ → ℕ → ℕ → Rule

-- "rule (1 to 8)"
abbrev pub number : Rule → ℕ
number (probe k) = 1
number secret = 2
number (clause i j) = 3
number (assumed j) = 4
number (credential c j) = 5
number (cut j i) = 6
number (without c i j k) = 7
number (resolve u v i j) = 8

pub record Line : Type 0 where
  pub rule : Rule
  pub literals : List Literal

pub data Certificate : Type 0 where
  witness : Policy → Certificate
  proof : List Line → Certificate
