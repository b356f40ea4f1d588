-- Of each kind of thing: where the next begins, and that the words which say so are there; and so of k things, one after the other.
use Rattle.std.specs.Prelude.{ℕ, ◌≤◌, ◌<◌, List, length}
use Rattle.promise.specs.Place.{place}
use Rattle.promise.specs.Clause.{clause_at, marked_at}
use Rattle.promise.specs.Formula.{entry_at}
use Rattle.promise.specs.Line.{line}

-- a credential, or a clause of a witness
abbrev pub clause_next : List ℕ → ℕ → ℕ
clause_next ws p = (clause_at ws p).next

abbrev pub ClauseOk : List ℕ → ℕ → Type 0
ClauseOk ws p = clause_next ws p ≤ length ws

-- a clause of the dossier
abbrev pub marked_next : List ℕ → ℕ → ℕ
marked_next ws p = (marked_at ws p).clause.next

abbrev pub MarkedOk : List ℕ → ℕ → Type 0
MarkedOk ws p = marked_next ws p ≤ length ws

-- a probe, or the secret
abbrev pub entry_next : List ℕ → ℕ → ℕ
entry_next ws p = (entry_at ws p).next

abbrev pub EntryOk : List ℕ → ℕ → Type 0
EntryOk ws p = entry_next ws p ≤ length ws

-- a line of a proof; that its words are there is `LineFits`
abbrev pub line_next : List ℕ → ℕ → ℕ
line_next = line.next

-- k things of a kind from p on
unfoldable pub Things : (List ℕ → ℕ → ℕ) → (List ℕ → ℕ → Type 0) → List ℕ → ℕ → ℕ → Type 0
Things next ok ws p k = (j : ℕ) → j < k → ok ws (place (next ws) p j)
