-- Where the sections of a sound paper stand, and how many things each has.
use Rattle.std.specs.Prelude.{ℕ, ◌+◌, ◌≤◌, List, length}
use Rattle.words.specs.Code.{code_list, code_many}
use Rattle.meaning.specs.Papers.{Dossier, Certificate, witness, proof}
use Rattle.promise.specs.Code.{code_marked, code_clause, code_entry}
use Rattle.promise.specs.Place.{part, many, Fit, Starts}
use Rattle.promise.specs.Clause.{credential, marked}
use Rattle.promise.specs.Formula.{entry_at, entry_of, entry, EntryFits}
use Rattle.promise.specs.Line.{line}
use Rattle.promise.specs.declared.Layout.{Layout}
use Rattle.promise.specs.declared.Proposal.{Proposal}
use Rattle.promise.specs.declared.Proposal.TheVariants.{Witness, Proof}

-- where each section's count stands; its first thing stands after it
abbrev pub clauses_at : Dossier → ℕ
clauses_at D = length (code_list D.labels)

abbrev pub creds_at : Dossier → ℕ
creds_at D = clauses_at D + length (code_many code_marked D.clauses)

abbrev pub probes_at : Dossier → ℕ
probes_at D = creds_at D + length (code_many code_clause D.creds)

abbrev pub secret_at : Dossier → ℕ
secret_at D = probes_at D + length (code_many code_entry D.probes)

unfoldable pub layout_of : Dossier → Layout
layout_of D =
    record {
      atoms = length D.labels;
      clauses = clauses_at D + 1;
      nclauses = length D.clauses;
      creds = creds_at D + 1;
      ncreds = length D.creds;
      probes = probes_at D + 1;
      nprobes = length D.probes;
      secret = secret_at D + 1;
    }

-- a witness's clauses or a proof's lines begin at place 2
unfoldable pub proposal_of : Certificate → Proposal
proposal_of (witness W) = Witness (length W)
proposal_of (proof lines) = Proof (length lines)

-- What the words say with that layout, for any words: the second half of the promise. (`Decoded`: of a sound paper's words it is the paper.)
unfoldable pub dossier_at : List ℕ → Layout → Dossier
dossier_at ws o =
    record {
      labels = part ws 1 o.atoms;
      clauses = many (marked o.atoms) ws o.clauses o.nclauses;
      creds = many (credential o.atoms) ws o.creds o.ncreds;
      probes = many (entry o.atoms o.ncreds) ws o.probes o.nprobes;
      secret = entry_of ws (entry_at ws o.secret);
    }

-- a table has where each clause, each credential, each probe of the dossier begins
abbrev pub ClauseStarts : List ℕ → Layout → List ℕ → Type 0
ClauseStarts d o t = Starts ((marked o.atoms).next d) o.clauses o.nclauses t

abbrev pub CredStarts : List ℕ → Layout → List ℕ → Type 0
CredStarts d o t = Starts ((credential o.atoms).next d) o.creds o.ncreds t

abbrev pub ProbeStarts : List ℕ → Layout → List ℕ → Type 0
ProbeStarts d o t = Starts ((entry o.atoms o.ncreds).next d) o.probes o.nprobes t

-- the words of each section are there
pub record Laid (ws : List ℕ) (o : Layout) : Type 0 where
  pub atoms : o.atoms ≤ 64
  pub few_clauses : o.nclauses ≤ 128
  pub few_creds : o.ncreds ≤ 32
  pub few : o.nprobes ≤ 64
  pub clauses : Fit (marked o.atoms) ws o.clauses o.nclauses
  pub creds : Fit (credential o.atoms) ws o.creds o.ncreds
  pub probes : Fit (entry o.atoms o.ncreds) ws o.probes o.nprobes
  pub secret : EntryFits o.atoms o.ncreds ws o.secret

-- n is the number of atoms
unfoldable pub certificate_at : ℕ → List ℕ → Proposal → Certificate
certificate_at n ws (Witness k) = witness (many (credential n) ws 2 k)
certificate_at n ws (Proof k) = proof (many line ws 2 k)

unfoldable pub Proposed : ℕ → List ℕ → Proposal → Type 0
Proposed n ws (Witness k) = Fit (credential n) ws 2 k
Proposed n ws (Proof k) = (1 ≤ k) × (k ≤ 1024) × Fit line ws 2 k
