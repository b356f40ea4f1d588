-- The certificate, read from left to right (01, "The two papers"). n is the number of atoms, m that of the credentials.
use Rattle.std.specs.Prelude.{ℕ, zero, suc, Bool, not, List, [], ◌∷◌, ◌++◌, length, leb}
use Rattle.words.specs.Out.{Out, got, bad, then, made, need, word, after}
use Rattle.words.specs.Read.{Below, ranged, listed, times, section}
use Rattle.meaning.specs.Tests.{◌is◌, any, choose}
use Rattle.meaning.specs.Papers.{Statement, Literal, Line, Certificate, witness, proof}
use Rattle.meaning.specs.Rules.{same_statement}
use Rattle.promise.specs.Line.{data_count, rule_of}
use Rattle.dossier.specs.Read.{clause, ended}

-- "credential count (0 to 32), credential numbers rising, atom count (0 to 8), atoms rising, one atom"
unfoldable pub statement : ℕ → ℕ → List ℕ → ℕ → Out Statement
statement n m ws at =
    then (listed 0 33 (Below m 6) ws at) (λ S p.
    then (listed 0 9 (Below n 3) ws p) (λ X q.
    made (λ a. record { creds = S; atoms = X; atom = a }) (ranged 0 n 3 ws q)))

-- "A literal: sign (1 positive, 0 negative)" and its statement
unfoldable pub literal : ℕ → ℕ → List ℕ → ℕ → Out Literal
literal n m ws at = then (ranged 0 2 5 ws at) (λ g p. made (λ s. record { positive = g is 1; said = s }) (statement n m ws p))

-- one of these literals speaks of the statement
unfoldable pub spoken : Statement → List Literal → Bool
spoken s ls = any (λ l. same_statement l.said s) ls

-- k literals after those before; 13, "a statement named twice in a line": the later literal's sign, when its last word has passed
unfoldable pub literals : ℕ → ℕ → ℕ → List Literal → List ℕ → ℕ → Out (List Literal)
literals n m zero before ws at = got [] at
literals n m (suc k) before ws at =
    then (literal n m ws at) (λ l p.
    need (not (spoken l.said before)) 13 at (made (λ ls. l ∷ ls) (literals n m k (before ++ (l ∷ [])) ws p)))

-- "A line: rule (1 to 8), the rule's data words, literal count (0 to 8), literals." Of a data word form tests the presence alone.
unfoldable pub line : ℕ → ℕ → List ℕ → ℕ → Out Line
line n m ws at =
    then (ranged 1 9 12 ws at) (λ r p.
    then (times (data_count r) word ws p) (λ d q.
    then (ranged 0 9 2 ws q) (λ k t.
    made (λ ls. record { rule = rule_of ws r p; literals = ls }) (literals n m k [] ws t))))

-- "Witness: 1, clause count (0 to 128), clauses." "Proof: 2, line count (1 to 1,024), lines." 11, "certificate kind not 1 or 2".
unfoldable pub witness_from : ℕ → List ℕ → ℕ → Out Certificate
witness_from n ws p = then (after (section 0 129 (clause n)) ws p) (λ W q. ended ws (witness W) q)

unfoldable pub proof_from : ℕ → ℕ → List ℕ → ℕ → Out Certificate
proof_from n m ws p = then (after (section 1 1025 (line n m)) ws p) (λ ls q. ended ws (proof ls) q)

unfoldable pub proposal : ℕ → ℕ → List ℕ → Out Certificate
proposal n m ws = then (ranged 1 3 11 ws 0) (λ x p. choose (x is 1) (witness_from n ws p) (proof_from n m ws p))

-- 10, "certificate above 24,000 words": the empty part at its start
unfoldable pub certificate : ℕ → ℕ → List ℕ → Out Certificate
certificate n m ws = choose (leb (length ws) 24000) (proposal n m ws) (bad 10 0 0)
