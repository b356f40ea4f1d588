-- When a line follows (01, "When a line follows"; rule 2 as request A2 has it: "with the literals false, the secret's formula takes the policy's value").
use Rattle.std.specs.Prelude.{Bool, true, false, not, List, [], ◌∷◌, ℕ, zero, suc, take}
use Rattle.std.proofs.Math.Option.{Option, none, some}
use Rattle.meaning.specs.Tests.{◌and◌, ◌or◌, ◌is◌, agree, same, all, any, keep, mem, at, named, choose}
use Rattle.meaning.specs.Policy.{Clause}
use Rattle.meaning.specs.Formula.{Formula, read}
use Rattle.meaning.specs.Papers.{Dossier, policy, answer, Statement, Literal, Rule, probe, secret, clause, assumed, credential, cut, without, resolve, Line}
use Rattle.meaning.specs.Looks.{aim}

-- ---- "suppose each literal false": the value of a formula then, which may be unknown

-- "Statements are one when all their numbers agree"
unfoldable pub same_statement : Statement → Statement → Bool
same_statement s t = same s.creds t.creds and same s.atoms t.atoms and s.atom is t.atom

-- the value of a statement when each literal is false; none: unknown
unfoldable pub supposed : List Literal → Statement → Option Bool
supposed [] s = none
supposed (l ∷ ls) s = choose (same_statement l.said s) (some (not l.positive)) (supposed ls s)

-- "Not of unknown is unknown. And is false if either side is false, true if both are true, else unknown; or likewise the other way."
unfoldable pub not₃ : Option Bool → Option Bool
not₃ none = none
not₃ (some b) = some (not b)

unfoldable pub and₃ : Option Bool → Option Bool → Option Bool
and₃ (some true) w = w
and₃ (some false) w = some false
and₃ none none = none
and₃ none (some true) = none
and₃ none (some false) = some false

unfoldable pub or₃ : Option Bool → Option Bool → Option Bool
or₃ v w = not₃ (and₃ (not₃ v) (not₃ w))

-- "only statements with exactly the entry's credentials and no atoms give a value; any other atom is unknown"
unfoldable pub value : List Literal → List ℕ → Formula → Option Bool
value ls S = read (record { always = some true; atom = λ a. supposed ls (record { creds = S; atoms = []; atom = a }); neg = not₃; conj = and₃; disj = or₃ })

-- "Unknown meets neither rule": the value is known, and is b
infix 40 ◌gives◌
unfoldable pub ◌gives◌ : Option Bool → Bool → Bool
none gives b = false
(some a) gives b = agree a b

-- ---- The rules

-- l is in the line: the same sign and statement
unfoldable pub is_in : List Literal → Literal → Bool
is_in ls l = any (λ m. agree m.positive l.positive and same_statement m.said l.said) ls

-- atom b has a negative literal sharing with s ("the same credentials and atoms")
unfoldable pub denied : List Literal → Statement → ℕ → Bool
denied ls s b = is_in ls (record { positive = false; said = record { creds = s.creds; atoms = s.atoms; atom = b } })

-- l is positive on the head of c, and each body atom has a negative literal sharing with l
unfoldable pub fires : List Literal → Clause → Literal → Bool
fires ls c l = l.positive and l.said.atom is c.head and all (denied ls l.said) c.body

-- l is positive, with the credentials S and the atoms X
unfoldable pub claims : List ℕ → List ℕ → Literal → Bool
claims S X l = l.positive and same l.said.creds S and same l.said.atoms X

-- the credentials without c
unfoldable pub omit : ℕ → List ℕ → List ℕ
omit c S = keep (λ i. not (i is c)) S

-- every element but number i
unfoldable pub others : {A : Type 0} → List A → ℕ → List A
others [] i = []
others (x ∷ l) zero = l
others (x ∷ l) (suc i) = x ∷ others l i

-- The table of rules: whether a line with these literals follows by this rule from the lines before it.
-- "A data word that names nothing means that the line doesn't follow."
unfoldable pub follows : Dossier → List Line → List Literal → Rule → Bool
follows D before ls (probe k) =
    named (at D.probes k) λ e.
    value ls e.creds e.formula gives not (answer D (policy D) e)
follows D before ls secret =
    value ls D.secret.creds D.secret.formula gives aim D
follows D before ls (clause i j) =
    named (at D.clauses i) λ m. named (at ls j) λ l.
    m.visible and fires ls m.clause l
follows D before ls (assumed j) =
    named (at ls j) λ l.
    l.positive and mem l.said.atom l.said.atoms
follows D before ls (credential c j) =
    named (at D.creds c) λ d. named (at ls j) λ l.
    mem c l.said.creds and fires ls d l
follows D before ls (cut j i) =
    named (at ls j) λ l. named (at ls i) λ m.
    l.positive and not m.positive and l.said.atom is m.said.atom
    and all (λ x. mem x l.said.atoms or denied ls l.said x) m.said.atoms
    and all (λ c. mem c l.said.creds or named (at D.creds c) λ d. denied ls l.said d.head) m.said.creds
follows D before ls (without c i j k) =
    named (at D.creds c) λ d. named (at ls i) λ m. named (at ls j) λ l. named (at ls k) λ h.
    not m.positive and mem c m.said.creds
    and claims (omit c m.said.creds) m.said.atoms l and l.said.atom is m.said.atom
    and claims (omit c m.said.creds) m.said.atoms h and mem h.said.atom d.body
follows D before ls (resolve u v i j) =
    named (at before u) λ a. named (at before v) λ b.
    named (at a.literals i) λ p. named (at b.literals j) λ q.
    p.positive and not q.positive and same_statement p.said q.said
    and all (is_in ls) (others a.literals i) and all (is_in ls) (others b.literals j)

-- the lines before line k
unfoldable pub earlier : List Line → ℕ → List Line
earlier lines k = take k lines

-- line k of a proof follows, by its own rule, from the lines before it; what a rule asks is told by the first argument
abbrev pub line_by : (List Line → List Literal → Rule → Bool) → List Line → ℕ → Bool
line_by asks lines k = named (at lines k) λ l. asks (earlier lines k) l.literals l.rule

unfoldable pub line_follows : Dossier → List Line → ℕ → Bool
line_follows D = line_by (follows D)
