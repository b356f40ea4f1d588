-- What form asks of the decoded papers: every limit of 01, "The two papers".
use Rattle.std.specs.Prelude.{ℕ, zero, suc, ◌≤◌, ◌<◌, ◌≡◌, List, [], ◌∷◌, length}
use Rattle.words.specs.Code.{RisingFrom}
use Rattle.meaning.specs.Tests.{◌∈◌}
use Rattle.meaning.specs.Policy.{Clause}
use Rattle.meaning.specs.Formula.{Formula, always, atom, neg, conj, disj}
use Rattle.meaning.specs.Papers.{Entry, Marked, Dossier, Statement, Literal, Line, Certificate, witness, proof}
use Rattle.promise.specs.Code.{code_formula, code_certificate}

-- at most so many numbers, below hi, strictly rising
pub record ListForm (most hi : ℕ) (l : List ℕ) : Type 0 where
  pub few : length l ≤ most
  pub rising : RisingFrom 0 l
  pub below : (x : ℕ) → x ∈ l → x < hi

-- n is the number of atoms, m that of the credentials
pub record ClauseForm (n : ℕ) (c : Clause) : Type 0 where
  pub head : c.head < n
  pub body : ListForm 8 n c.body

-- its atoms are below n, and it is at most d deep
unfoldable pub FormulaForm : ℕ → ℕ → Formula → Type 0
FormulaForm n zero f = ⊥
FormulaForm n (suc d) (atom a) = a < n
FormulaForm n (suc d) always = Unit {0}
FormulaForm n (suc d) (neg f) = FormulaForm n d f
FormulaForm n (suc d) (conj f g) = FormulaForm n d f × FormulaForm n d g
FormulaForm n (suc d) (disj f g) = FormulaForm n d f × FormulaForm n d g

pub record EntryForm (n m : ℕ) (e : Entry) : Type 0 where
  pub creds : ListForm 32 m e.creds
  pub formula : FormulaForm n 16 e.formula
  pub short : length (code_formula e.formula) ≤ 64

-- "n (1 to 64), then n labels, strictly rising"
pub record LabelsForm (ls : List ℕ) : Type 0 where
  pub some : 1 ≤ length ls
  pub few : length ls ≤ 64
  pub rising : RisingFrom 0 ls

-- a section: so many things, each well formed
pub record SectionForm {A : Type 0} (lo hi : ℕ) (Form : A → Type 0) (xs : List A) : Type 0 where
  pub least : lo ≤ length xs
  pub most : length xs ≤ hi
  pub each : (x : A) → x ∈ xs → Form x

abbrev pub MarkedForm : ℕ → Marked → Type 0
MarkedForm n c = ClauseForm n c.clause

-- "Clause count (0 to 128)", "Credential count (0 to 32)", "Probe count (0 to 64)"
abbrev pub ClausesForm : ℕ → List Marked → Type 0
ClausesForm n = SectionForm 0 128 (MarkedForm n)

abbrev pub CredsForm : ℕ → List Clause → Type 0
CredsForm n = SectionForm 0 32 (ClauseForm n)

abbrev pub ProbesForm : ℕ → ℕ → List Entry → Type 0
ProbesForm n m = SectionForm 0 64 (EntryForm n m)

pub record DossierForm (D : Dossier) : Type 0 where
  pub labels : LabelsForm D.labels
  pub clauses : ClausesForm (length D.labels) D.clauses
  pub creds : CredsForm (length D.labels) D.creds
  pub probes : ProbesForm (length D.labels) (length D.creds) D.probes
  pub secret : EntryForm (length D.labels) (length D.creds) D.secret

pub record StatementForm (n m : ℕ) (s : Statement) : Type 0 where
  pub creds : ListForm 32 m s.creds
  pub atoms : ListForm 8 n s.atoms
  pub atom : s.atom < n

-- "No two literals of a line speak of one statement."
unfoldable pub Apart : List Literal → Type 0
Apart [] = Unit {0}
Apart (l ∷ ls) = ((m : Literal) → m ∈ ls → l.said ≡ m.said → ⊥) × Apart ls

pub record LiteralsForm (n m : ℕ) (ls : List Literal) : Type 0 where
  pub each : (x : Literal) → x ∈ ls → StatementForm n m x.said
  pub apart : Apart ls

-- "literal count (0 to 8), literals"
pub record LineForm (n m : ℕ) (l : Line) : Type 0 where
  pub few : length l.literals ≤ 8
  pub literals : LiteralsForm n m l.literals

-- "Witness: 1, clause count (0 to 128), clauses." "Proof: 2, line count (1 to 1,024), lines."
unfoldable pub PartsForm : ℕ → ℕ → Certificate → Type 0
PartsForm n m (witness W) = SectionForm 0 128 (ClauseForm n) W
PartsForm n m (proof lines) = SectionForm 1 1024 (LineForm n m) lines

-- "Certificate, at most 24,000 words."
pub record CertificateForm (n m : ℕ) (C : Certificate) : Type 0 where
  pub parts : PartsForm n m C
  pub short : length (code_certificate C) ≤ 24000
