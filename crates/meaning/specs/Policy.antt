-- What a policy makes true (01, "What a policy makes true"), for policies of any length and any atoms.
use Rattle.std.specs.Prelude.{◌≡◌, Bool, true, false, not, List, [], ℕ, zero, suc, length}
use Rattle.std.proofs.Math.Option.{Option, none, some}
use Rattle.meaning.specs.Tests.{◌∈◌, ◌and◌, ◌or◌, ◌is◌, all, any, lowest}

-- "A clause has a head and a body, a set of atoms; an empty body makes it a fact."
pub record Clause : Type 0 where
  pub head : ℕ
  pub body : List ℕ

abbrev pub fact : ℕ → Clause
fact a = record { head = a; body = [] }

-- "A policy is a finite set of clauses": a list, of which neither order nor repetition matters.
abbrev pub Policy : Type 0
Policy = List Clause

-- "one round adds the head of every clause whose body atoms are all there already"
unfoldable pub round : Policy → (ℕ → Bool) → ℕ → Bool
round P there a = there a or any (λ c. a is c.head and all there c.body) P

-- "Start from no atoms": whether a is there after k rounds.
unfoldable pub after : Policy → ℕ → ℕ → Bool
after P zero a = false
after P (suc k) a = round P (after P k) a

-- "An atom holds if some round adds it."
unfoldable pub Holds : Policy → ℕ → Type 0
Holds P a = (k : ℕ) × (after P k a ≡ true)

-- The test for it: as many rounds as there are clauses are enough (`HoldsTested`).
unfoldable pub holds : Policy → ℕ → Bool
holds P a = after P (length P) a

-- a number that was found, 0 where none was
unfoldable pub or_zero : Option ℕ → ℕ
or_zero none = 0
or_zero (some k) = k

-- "for each atom, the number of the round that first adds it, 0 if none does" (request A5): of the rounds 1 to k, the least that has a
unfoldable pub first_of : Policy → ℕ → ℕ → ℕ
first_of P k a = or_zero (lowest (λ j. not (after P j a)) 1 k)

-- and of all rounds: one that comes after as many as there are clauses adds nothing (`FirstRounds`)
unfoldable pub first_round : Policy → ℕ → ℕ
first_round P a = first_of P (length P) a

-- Derivable, as source document 000 says in formula (1) of its section II: a is the head of a clause of the policy whose
-- body atoms are all derivable, and nothing else is. (A fact is a clause with an empty body, so it is derivable.)
pub data Derivable (P : Policy) : ℕ → Type 0 where
  derived : {a : ℕ} (c : Clause) → c ∈ P → a ≡ c.head → ((b : ℕ) → b ∈ c.body → Derivable P b) → Derivable P a
