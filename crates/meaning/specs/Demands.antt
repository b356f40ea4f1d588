-- What is proved of these definitions, each theorem as a type. proofs/Demands.antt has each under the same name in small letters.
use Rattle.std.specs.Prelude.{◌≡◌, true, false, not, List, [], ◌↔◌, ◌⊎◌, ℕ, suc, ◌<◌, ◌≤◌, length}
use Rattle.std.proofs.Math.Option.{some}
use Rattle.meaning.specs.Tests.{◌∈◌, at}
use Rattle.meaning.specs.Policy.{Clause, Policy, after, Holds, holds, first_round, Derivable}
use Rattle.meaning.specs.Formula.{Formula, Truth, truth}
use Rattle.meaning.specs.Papers as papers
use Rattle.meaning.specs.Papers.{Entry, Dossier, policy, Yes, answer, Rule, resolve, Line, Certificate, witness, proof}
use Rattle.meaning.specs.Looks.{Has, Alike, LookTheSame, Detectable, Opaque, aim, Value, TrueLine}
use Rattle.meaning.specs.Rules.{follows, line_follows}
use Rattle.meaning.specs.Verdict.{Outcome, opaque, detectable, probe_differs, secret_kept, line_fails, last_not_empty, tried, last_empty, judge, WitnessAccepted, ProofAccepted}
use Rattle.meaning.specs.Extends.{Extends, WellNamed}

-- k is the lowest number of which T is so
pub record Lowest (T : ℕ → Type 0) (k : ℕ) : Type 0 where
  pub here : T k
  pub below : (j : ℕ) → j < k → T j → ⊥

-- ---- What a policy makes true

-- The test `holds` is right.
abbrev pub HoldsTested : Type 0
HoldsTested = (P : Policy) (a : ℕ) → Holds P a ↔ (holds P a ≡ true)

-- What some round adds is what source document 000 calls derivable.
abbrev pub HoldsDerived : Type 0
HoldsDerived = (P : Policy) (a : ℕ) → Holds P a ↔ Derivable P a

-- With every head below n, and n at most k, k rounds give what holds and one more adds nothing. (01: n is at most 64, and 64 rounds are run.)
abbrev pub RoundsEnough : Type 0
RoundsEnough =
    (n k : ℕ) (P : Policy) → ((c : Clause) → c ∈ P → c.head < n) → n ≤ k → (a : ℕ)
    → (Holds P a ↔ (after P k a ≡ true)) × (after P (suc k) a ≡ after P k a)

-- clause c first adds its head in round k + 1: k rounds have all of its body and not the head
pub record FirstAdds (P : Policy) (c : Clause) (k : ℕ) : Type 0 where
  pub there : c ∈ P
  pub body : (b : ℕ) → b ∈ c.body → after P k b ≡ true
  pub head : after P k c.head ≡ false

-- "for each atom, the number of the round that first adds it, 0 if none does" (A5)
pub record FirstRounds : Type 0 where
  -- it is the least round that has the atom
  pub least : (P : Policy) (a k : ℕ) → (first_round P a ≡ suc k) ↔ Lowest (λ j. after P j a ≡ true) (suc k)
  -- and 0 where none has it: an atom holds exactly when its number is not 0
  pub holding : (P : Policy) (a : ℕ) → Holds P a ↔ (first_round P a ≡ 0 → ⊥)
  -- a fact's head has 1
  pub facts : (P : Policy) (c : Clause) → c ∈ P → c.body ≡ [] → first_round P c.head ≡ 1
  -- with every head below n, it is at most n
  pub limit : (n : ℕ) (P : Policy) → ((c : Clause) → c ∈ P → c.head < n) → (a : ℕ) → first_round P a ≤ n
  -- a clause which first adds an atom in round k has its body atoms added before round k
  pub before : (P : Policy) (c : Clause) (k : ℕ) → FirstAdds P c k
      → (first_round P c.head ≡ suc k) × ((b : ℕ) → b ∈ c.body → (1 ≤ first_round P b) × (first_round P b < suc k))
  -- and each atom that has a number is first added by such a clause
  pub added : (P : Policy) (a k : ℕ) → first_round P a ≡ suc k → (c : Clause) × (c.head ≡ a) × FirstAdds P c k

-- "A policy is a finite set of clauses": two that have each other's clauses
pub record SameSet (P Q : Policy) : Type 0 where
  pub there : (c : Clause) → c ∈ P → Has Q c
  pub back : (c : Clause) → c ∈ Q → Has P c

-- have the same atoms after each round, and answer every entry alike
pub record PolicyIsSet : Type 0 where
  pub rounds : (P Q : Policy) → SameSet P Q → (k a : ℕ) → after P k a ≡ after Q k a
  pub holding : (P Q : Policy) → SameSet P Q → (a : ℕ) → Holds P a ↔ Holds Q a
  pub first : (P Q : Policy) → SameSet P Q → (a : ℕ) → first_round P a ≡ first_round Q a
  pub answers : (D : Dossier) (P Q : Policy) → SameSet P Q → (e : Entry) → Alike D e P Q

-- The test `truth` is right.
abbrev pub TruthTested : Type 0
TruthTested = (cs : List Clause) (P : Policy) (S : List ℕ) (f : Formula) → Truth cs P S f ↔ (truth cs P S f ≡ true)

-- ---- Looks the same, detectable, opaque

-- The aim is "the value it has in the dossier's policy" (A2), by the published meaning. Rule 2 and the rows of demand 2 cite it.
abbrev pub AimMeant : Type 0
AimMeant = (D : Dossier) → Value (aim D) (Yes D (policy D) D.secret)

-- detectable and opaque, by the test
abbrev pub DetectableTested : Type 0
DetectableTested = (D : Dossier) → Detectable D ↔ ((Q : Policy) → LookTheSame D (policy D) Q → answer D Q D.secret ≡ aim D)

abbrev pub OpaqueTested : Type 0
OpaqueTested = (D : Dossier) → Opaque D ↔ ((Q : Policy) × LookTheSame D (policy D) Q × (answer D Q D.secret ≡ not (aim D)))

abbrev pub LooksLikeItself : Type 0
LooksLikeItself = (D : Dossier) → LookTheSame D (policy D) (policy D)

abbrev pub NotBoth : Type 0
NotBoth = (D : Dossier) → Detectable D → Opaque D → ⊥

-- ---- Demand 2

-- probe k is not answered by the policy tried as by the dossier's
abbrev pub Differs : Dossier → Policy → ℕ → Type 0
Differs D W k = (e : Entry) × (at D.probes k ≡ some e) × (Alike D e (policy D) (tried D W) → ⊥)

-- line k does not follow
abbrev pub Fails : Dossier → List Line → ℕ → Type 0
Fails D lines k = (k < length lines) × (line_follows D lines k ≡ false)

abbrev pub EachFollows : Dossier → List Line → Type 0
EachFollows D lines = (k : ℕ) → k < length lines → line_follows D lines k ≡ true

-- "with the visible clauses, it answers every probe as the dossier's policy does and" gives the secret "the opposite value" (A2); or the same
abbrev pub Witnesses : Dossier → Policy → Type 0
Witnesses D W = LookTheSame D (policy D) (tried D W) × (Alike D D.secret (policy D) (tried D W) → ⊥)

abbrev pub KeepsSecret : Dossier → Policy → Type 0
KeepsSecret D W = LookTheSame D (policy D) (tried D W) × Alike D D.secret (policy D) (tried D W)

-- "each line follows by its stated rule and the last is empty"; or it is not
abbrev pub Proves : Dossier → List Line → Type 0
Proves D lines = EachFollows D lines × (last_empty lines ≡ true)

abbrev pub EndsOpen : Dossier → List Line → Type 0
EndsOpen D lines = EachFollows D lines × (last_empty lines ≡ false)

-- When each outcome is given: the rows of 01's table, 14 to 17, and the two acceptances of demand 2.
unfoldable pub When : Dossier → Certificate → Outcome → Type 0
When D (witness W) opaque = Witnesses D W
When D (witness W) (probe_differs k) = Lowest (Differs D W) k
When D (witness W) secret_kept = KeepsSecret D W
When D (witness W) detectable = ⊥
When D (witness W) (line_fails k) = ⊥
When D (witness W) last_not_empty = ⊥
When D (proof lines) detectable = Proves D lines
When D (proof lines) (line_fails k) = Lowest (Fails D lines) k
When D (proof lines) last_not_empty = EndsOpen D lines
When D (proof lines) opaque = ⊥
When D (proof lines) (probe_differs k) = ⊥
When D (proof lines) secret_kept = ⊥

abbrev pub Demand2 : Type 0
Demand2 = (D : Dossier) (c : Certificate) (o : Outcome) → (judge D c ≡ o) ↔ When D c o

-- an accepted witness shows the secret opaque
abbrev pub WitnessShows : Type 0
WitnessShows = (D : Dossier) (W : Policy) → WitnessAccepted D W → Opaque D

-- ---- What a line that follows says

-- what rule 8 cites: the lines u and v; the other rules cite none
abbrev pub CitedTrue : Dossier → Policy → List Line → Rule → Type 0
CitedTrue D Q before r = (u v i j : ℕ) → r ≡ resolve u v i j → (m : Line) → (at before u ≡ some m) ⊎ (at before v ≡ some m) → TrueLine D Q m

-- A line which follows is true in every policy that looks the same and gives the secret the other value; by rule 8, if the lines that it cites are.
abbrev pub LineSound : Type 0
LineSound =
    (D : Dossier) (Q : Policy) → LookTheSame D (policy D) Q → (Alike D D.secret (policy D) Q → ⊥)
    → (before : List Line) (l : Line) → CitedTrue D Q before l.rule → follows D before l.literals l.rule ≡ true → TrueLine D Q l

-- ---- Demand 3, over demand 2's acceptance

-- "D plus credentials or probes added after D's own, or more clauses marked visible" has all else as D has it.
pub record ExtensionKeeps : Type 0 where
  pub labels : (D E : Dossier) → Extends D E → E.labels ≡ D.labels
  pub policy : (D E : Dossier) → Extends D E → papers.policy E ≡ papers.policy D
  pub secret : (D E : Dossier) → Extends D E → E.secret ≡ D.secret
  -- what was visible stays so, and what D's own numbers name they name in E
  pub visible : (D E : Dossier) → Extends D E → (c : Clause) → c ∈ papers.visible D → c ∈ papers.visible E
  pub credential : (D E : Dossier) → Extends D E → (i : ℕ) (c : Clause) → at D.creds i ≡ some c → at E.creds i ≡ some c
  pub probe : (D E : Dossier) → Extends D E → (k : ℕ) (e : Entry) → at D.probes k ≡ some e → at E.probes k ≡ some e

pub record Demand3 : Type 0 where
  -- "every policy of any length with D's visible clauses and D's probe answers": the secret "has the policy's value" (A2)
  pub every : (D : Dossier) (lines : List Line) → ProofAccepted D lines → Detectable D
  -- "the proof is accepted for E"
  pub proof_stays : (D E : Dossier) → Extends D E → WellNamed D → (lines : List Line) → ProofAccepted D lines → ProofAccepted E lines
  -- "and no witness is"
  pub no_witness : (D E : Dossier) → Extends D E → WellNamed D → (lines : List Line) → ProofAccepted D lines → (W : Policy) → WitnessAccepted E W → ⊥
  -- "Where no mark differs, a witness accepted for E is accepted for D."
  pub witness_stays : (D E : Dossier) → Extends D E → WellNamed D → E.clauses ≡ D.clauses → (W : Policy) → WitnessAccepted E W → WitnessAccepted D W
