-- Clauses and credentials, seen at a place of the words.
use Rattle.std.specs.Prelude.{ℕ, ◌+◌, ◌≤◌, ◌<◌, List, length, get_or}
use Rattle.meaning.specs.Tests.{◌∈◌, ◌is◌}
use Rattle.meaning.specs.Policy.{Clause}
use Rattle.meaning.specs.Papers.{Marked}
use Rattle.promise.specs.Place.{part, Kind}
use Rattle.promise.specs.declared.ClauseAt.{ClauseAt}
use Rattle.promise.specs.declared.MarkedAt.{MarkedAt}

-- head, count of the body, body
abbrev pub clause_at : List ℕ → ℕ → ClauseAt
clause_at ws p = record { head = get_or ws p 0; body = p + 2; count = get_or ws (p + 1) 0; next = p + 2 + get_or ws (p + 1) 0 }

-- the clause that a view is of
abbrev pub clause_of : List ℕ → ClauseAt → Clause
clause_of ws c = record { head = c.head; body = part ws c.body c.count }

-- its words are there, and its atoms are below n
pub record ClauseFits (n : ℕ) (ws : List ℕ) (p : ℕ) : Type 0 where
  pub ends : (clause_at ws p).next ≤ length ws
  pub head : (clause_at ws p).head < n
  pub body : (x : ℕ) → x ∈ part ws (clause_at ws p).body (clause_at ws p).count → x < n

abbrev pub credential : ℕ → Kind Clause
credential n = record { read = λ ws p. clause_of ws (clause_at ws p); next = λ ws p. (clause_at ws p).next; ok = ClauseFits n }

-- a mark in front
abbrev pub marked_at : List ℕ → ℕ → MarkedAt
marked_at ws p = record { visible = get_or ws p 0 is 1; clause = clause_at ws (p + 1) }

abbrev pub marked_of : List ℕ → MarkedAt → Marked
marked_of ws m = record { visible = m.visible; clause = clause_of ws m.clause }

abbrev pub marked : ℕ → Kind Marked
marked n = record { read = λ ws p. marked_of ws (marked_at ws p); next = λ ws p. (marked_at ws p).clause.next; ok = λ ws p. ClauseFits n ws (p + 1) }
