-- How the decoded papers lie in words (01, "The two papers").
use Rattle.std.specs.Prelude.{ℕ, List, [], ◌∷◌, ◌++◌, Bool, true, false}
use Rattle.words.specs.Code.{code_list, code_many}
use Rattle.meaning.specs.Policy.{Clause}
use Rattle.meaning.specs.Formula.{Formula, always, atom, neg, conj, disj}
use Rattle.meaning.specs.Papers.{Entry, Marked, Dossier, Statement, Literal, Rule, probe, secret, clause, assumed, credential, cut, without, resolve, number, Line, Certificate, witness, proof}

-- "mark (0 hidden, 1 visible)", "sign (1 positive, 0 negative)"
abbrev pub bit : Bool → ℕ
bit true = 1
bit false = 0

-- "head, body count, body"
abbrev pub code_clause : Clause → List ℕ
code_clause c = c.head ∷ code_list c.body

abbrev pub code_marked : Marked → List ℕ
code_marked m = bit m.visible ∷ code_clause m.clause

-- "Formula words are in prefix order: below n an atom, 256 true, 257 not, 258 and, 259 or."
unfoldable pub code_formula : Formula → List ℕ
code_formula (atom a) = a ∷ []
code_formula always = 256 ∷ []
code_formula (neg f) = 257 ∷ code_formula f
code_formula (conj f g) = 258 ∷ (code_formula f ++ code_formula g)
code_formula (disj f g) = 259 ∷ (code_formula f ++ code_formula g)

-- "credential count, credential numbers, formula length, formula words"
abbrev pub code_entry : Entry → List ℕ
code_entry e = code_list e.creds ++ code_list (code_formula e.formula)

-- Labels, clauses, credentials, probes; "a count that must be 1, then the secret, laid out as a probe".
unfoldable pub code_dossier : Dossier → List ℕ
code_dossier D =
    code_list D.labels
    ++ (code_many code_marked D.clauses
    ++ (code_many code_clause D.creds
    ++ (code_many code_entry D.probes
    ++ code_many code_entry (D.secret ∷ []))))

-- "sign, credential count, credential numbers, atom count, atoms, one atom"
abbrev pub code_statement : Statement → List ℕ
code_statement s = code_list s.creds ++ (code_list s.atoms ++ (s.atom ∷ []))

abbrev pub code_literal : Literal → List ℕ
code_literal l = bit l.positive ∷ code_statement l.said

-- the rule's data words
abbrev pub data_of : Rule → List ℕ
data_of (probe k) = k ∷ []
data_of secret = []
data_of (clause i j) = i ∷ j ∷ []
data_of (assumed j) = j ∷ []
data_of (credential c j) = c ∷ j ∷ []
data_of (cut j i) = j ∷ i ∷ []
data_of (without c i j k) = c ∷ i ∷ j ∷ k ∷ []
data_of (resolve u v i j) = u ∷ v ∷ i ∷ j ∷ []

-- "rule, the rule's data words, literal count, literals"
abbrev pub code_line : Line → List ℕ
code_line l = number l.rule ∷ (data_of l.rule ++ code_many code_literal l.literals)

-- "Witness: 1, clause count, clauses as credentials are laid out." "Proof: 2, line count, lines."
unfoldable pub code_certificate : Certificate → List ℕ
code_certificate (witness W) = 1 ∷ code_many code_clause W
code_certificate (proof lines) = 2 ∷ code_many code_line lines
