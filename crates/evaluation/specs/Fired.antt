-- What is fired one after the other: the table after one, and what firing asks; then all of them. Where the next clause stands is `clause_next` and `marked_next` of promise.
use Rattle.std.specs.Prelude.{ℕ, zero, suc, ◌+◌, Bool, List}
use Rattle.promise.specs.Clause.{clause_at, clause_of, ClauseFits, marked_at, marked_of}
use Rattle.evaluation.specs.Table.{fire_one}
use Rattle.evaluation.specs.Which.{fire_marked, named_at, NamedFits}

-- the clauses of a witness, in round r, on tables with n atoms
abbrev pub clause_fired : ℕ → List ℕ → ℕ → List ℕ → List ℕ
clause_fired r ws p t = fire_one r (clause_of ws (clause_at ws p)) t

abbrev pub ClauseFires : ℕ → List ℕ → ℕ → Type 0
ClauseFires = ClauseFits

-- the dossier's clauses: all, or the visible ones
abbrev pub marked_fired : Bool → ℕ → List ℕ → ℕ → List ℕ → List ℕ
marked_fired every r ws p t = fire_marked every r (marked_of ws (marked_at ws p)) t

abbrev pub MarkedFires : ℕ → List ℕ → ℕ → Type 0
MarkedFires n ws p = ClauseFits n ws (p + 1)

-- credentials that their numbers name
abbrev pub named_end : List ℕ → ℕ → ℕ
named_end ws p = p + 1

abbrev pub named_fired : List ℕ → ℕ → List ℕ → ℕ → List ℕ → List ℕ
named_fired creds r ws p t = fire_one r (clause_of ws (named_at creds ws p)) t

abbrev pub NamedFires : List ℕ → ℕ → List ℕ → ℕ → Type 0
NamedFires creds n ws p = NamedFits n creds ws p

-- the table after the k from p on
unfoldable pub fired_all : (ℕ → ℕ) → (ℕ → List ℕ → List ℕ) → ℕ → ℕ → List ℕ → List ℕ
fired_all next one p zero t = t
fired_all next one p (suc k) t = fired_all next one (next p) k (one p t)
