-- The dossier, read from left to right (01, "The two papers"). n is the number of atoms, m that of the credentials.
use Rattle.std.specs.Prelude.{ℕ, zero, suc, ◌+◌, List, length, get_or, ltb, leb, eqb}
use Rattle.words.specs.Out.{Out, got, bad, then, made, need, present, after}
use Rattle.words.specs.Read.{Any, Below, ranged, listed, section}
use Rattle.meaning.specs.Tests.{◌is◌, choose}
use Rattle.meaning.specs.Policy.{Clause}
use Rattle.meaning.specs.Formula.{Formula, always, atom, neg, conj, disj}
use Rattle.meaning.specs.Papers.{Entry, Marked, Dossier}

-- "head, body count (0 to 8), body atoms strictly rising"
unfoldable pub clause : ℕ → List ℕ → ℕ → Out Clause
clause n ws at = then (ranged 0 n 3 ws at) (λ h p. made (λ b. record { head = h; body = b }) (listed 0 9 (Below n 3) ws p))

-- "mark (0 hidden, 1 visible)"
unfoldable pub marked : ℕ → List ℕ → ℕ → Out Marked
marked n ws at = then (ranged 0 2 5 ws at) (λ x p. made (λ c. record { visible = x is 1; clause = c }) (clause n ws p))

-- The formula that begins with the word x at `at`; r reads an operand. "below n an atom, 256 true, 257 not, 258 and, 259 or":
-- 3, "an atom number not below n (in a formula, n to 255)"; 7, "a formula word above 259".
unfoldable pub by_kind : ℕ → ℕ → ℕ → (ℕ → Out Formula) → Out Formula
by_kind n x at r =
    choose (ltb x n) (got (atom x) (at + 1))
    (choose (ltb x 256) (bad 3 at 1)
    (choose (x is 256) (got always (at + 1))
    (choose (x is 257) (made neg (r (at + 1)))
    (choose (ltb 259 x) (bad 7 at 1)
    (then (r (at + 1)) (λ f p. made (λ g. choose (x is 258) (conj f g) (disj f g)) (r p)))))))

-- "depth, then kind": the depth that remains, then a word before `end`, then that word; lp is the place of the length word.
-- 8, "a formula too deep, or not exactly its length": its length word.
unfoldable pub operand : ℕ → ℕ → ℕ → ℕ → List ℕ → ℕ → Out Formula
operand n lp end zero ws at = bad 8 lp 1
operand n lp end (suc d) ws at = need (ltb at end) 8 lp (by_kind n (get_or ws at 0) at (operand n lp end d ws))

-- "A formula's length is tested (2), then that so many words remain (1), then each word"; "the deepest allowed is 16".
unfoldable pub formula : ℕ → List ℕ → ℕ → Out Formula
formula n ws at =
    then (ranged 1 65 2 ws at) (λ len p.
    present (leb (p + len) (length ws)) ws
    (then (operand n at (p + len) 16 ws p) (λ f q. need (eqb q (p + len)) 8 at (got f q))))

-- "credential count (0 to 32), credential numbers strictly rising, formula length (1 to 64), formula words"
unfoldable pub entry : ℕ → ℕ → List ℕ → ℕ → Out Entry
entry n m ws at = then (listed 0 33 (Below m 6) ws at) (λ S p. made (λ f. record { creds = S; formula = f }) (formula n ws p))

-- "A count that must be 1, then the secret, laid out as a probe."
unfoldable pub secret : ℕ → ℕ → List ℕ → ℕ → Out Entry
secret n m ws at = then (ranged 1 2 2 ws at) (λ k p. entry n m ws p)

-- 9, "words left over": the first of them
unfoldable pub ended : {A : Type 0} → List ℕ → A → ℕ → Out A
ended ws x p = need (leb (length ws) p) 9 p (got x p)

-- "Sections stand in a fixed order, each after its count, and each section is read as the part that begins where the former ended."
unfoldable pub sections : List ℕ → ℕ → Out Dossier
sections ws at =
    then (listed 1 65 Any ws at) (λ ls p.
    then (after (section 0 129 (marked (length ls))) ws p) (λ cs q.
    then (after (section 0 33 (clause (length ls))) ws q) (λ ks r.
    then (after (section 0 65 (entry (length ls) (length ks))) ws r) (λ es t.
    made (λ s. record { labels = ls; clauses = cs; creds = ks; probes = es; secret = s }) (after (secret (length ls) (length ks)) ws t)))))

unfoldable pub dossier : List ℕ → Out Dossier
dossier ws = then (sections ws 0) (λ D p. ended ws D p)
