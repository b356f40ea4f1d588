-- Formulas, and their truth in a policy given credentials.
use Rattle.std.specs.Prelude.{Bool, true, not, List, [], ◌∷◌, ◌++◌, map, ◌⊎◌, ℕ}
use Rattle.std.proofs.Math.Option.{Option, none, some}
use Rattle.meaning.specs.Tests.{◌and◌, ◌or◌, at}
use Rattle.meaning.specs.Policy.{Clause, Policy, fact, Holds, holds}

-- "a formula: true, an atom, not, and, or"
pub data Formula : Type 0 where
  always : Formula
  atom : ℕ → Formula
  neg : Formula → Formula
  conj disj : Formula → Formula → Formula

-- How these five are read, with values of any kind, and the value of a formula so read.
pub record Reading {ℓ} (A : Type ℓ) : Type ℓ where
  pub always : A
  pub atom : ℕ → A
  pub neg : A → A
  pub conj : A → A → A
  pub disj : A → A → A

unfoldable pub read {ℓ} : {A : Type ℓ} → Reading A → Formula → A
read r always = r.always
read r (atom a) = r.atom a
read r (neg f) = r.neg (read r f)
read r (conj f g) = r.conj (read r f) (read r g)
read r (disj f g) = r.disj (read r f) (read r g)

-- the credentials with these numbers; a number that names none adds none
unfoldable pub pick : Option Clause → List Clause → List Clause
pick none l = l
pick (some c) l = c ∷ l

unfoldable pub chosen : List Clause → List ℕ → List Clause
chosen cs [] = []
chosen cs (i ∷ S) = pick (at cs i) (chosen cs S)

-- "the policy joined with S and with each atom of X as a fact"; cs are the dossier's credentials, S their numbers
unfoldable pub joined : List Clause → Policy → List ℕ → List ℕ → Policy
joined cs P S X = P ++ (chosen cs S ++ map fact X)

-- "a given S, X", and its test
unfoldable pub Given : List Clause → Policy → List ℕ → List ℕ → ℕ → Type 0
Given cs P S X a = Holds (joined cs P S X) a

unfoldable pub given : List Clause → Policy → List ℕ → List ℕ → ℕ → Bool
given cs P S X a = holds (joined cs P S X) a

-- "the formula's truth with each atom read 'given the probe's credentials'", and its test (`TruthTested`)
unfoldable pub Truth : List Clause → Policy → List ℕ → Formula → Type 0
Truth cs P S =
    read (record { always = Unit {0}; atom = Given cs P S []; neg = λ A. A → ⊥; conj = λ A B. A × B; disj = λ A B. A ⊎ B })

unfoldable pub truth : List Clause → Policy → List ℕ → Formula → Bool
truth cs P S = read (record { always = true; atom = given cs P S []; neg = not; conj = ◌and◌; disj = ◌or◌ })
