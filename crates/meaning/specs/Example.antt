-- 01's "Dossiers to try", decoded: T1 to T3, the proof P and a witness. (Judging's `NotEmpty` says that their words are those of 01.)
use Rattle.std.specs.Prelude.{Bool, true, false, List, [], ◌∷◌, ℕ}
use Rattle.meaning.specs.Policy.{Clause, Policy, fact}
use Rattle.meaning.specs.Formula.{atom}
use Rattle.meaning.specs.Papers.{Entry, Dossier, Literal, Rule, Line}

unfoldable pub clause_of : ℕ → List ℕ → Clause
clause_of h b = record { head = h; body = b }

unfoldable pub entry_of : List ℕ → ℕ → Entry
entry_of S a = record { creds = S; formula = atom a }

-- "Hidden fact 0; visible 2 from 1; credential 1 from 0; probes: ..; secret 0", with a mark for the first clause, credentials after the first, and the probes
unfoldable pub example_with : Bool → List Clause → List Entry → Dossier
example_with mark creds probes =
    record {
      labels = 10 ∷ 20 ∷ 30 ∷ [];
      clauses = record { visible = mark; clause = fact 0 } ∷ record { visible = true; clause = clause_of 2 (1 ∷ []) } ∷ [];
      creds = clause_of 1 (0 ∷ []) ∷ creds;
      probes = probes;
      secret = entry_of [] 0;
    }

-- "2 with it, 2 without"; "T2 is T1 without the second probe, T3 with no probe."
unfoldable pub t1 : Dossier
t1 = example_with false [] (entry_of (0 ∷ []) 2 ∷ entry_of [] 2 ∷ [])

unfoldable pub t2 : Dossier
t2 = example_with false [] (entry_of (0 ∷ []) 2 ∷ [])

unfoldable pub t3 : Dossier
t3 = example_with false [] []

unfoldable pub literal : Bool → List ℕ → ℕ → Literal
literal s S a = record { positive = s; said = record { creds = S; atoms = []; atom = a } }

unfoldable pub line : Rule → List Literal → Line
line r ls = record { rule = r; literals = ls }

-- the witness of (d) and (e): the fact 2
unfoldable pub fact_two : Policy
fact_two = fact 2 ∷ []

-- P, which shows T1 detectable
unfoldable pub p : List Line
p =
    line (Rule.probe 0) (literal true (0 ∷ []) 2 ∷ [])
    ∷ line (Rule.probe 1) (literal false [] 2 ∷ [])
    ∷ line Rule.secret (literal false [] 0 ∷ [])
    ∷ line (Rule.without 0 0 1 2) (literal false (0 ∷ []) 2 ∷ literal true [] 2 ∷ literal true [] 0 ∷ [])
    ∷ line (Rule.resolve 0 3 0 0) (literal true [] 2 ∷ literal true [] 0 ∷ [])
    ∷ line (Rule.resolve 4 1 0 0) (literal true [] 0 ∷ [])
    ∷ line (Rule.resolve 5 2 0 0) []
    ∷ []
