-- What holds at an entry, as a table.
use Rattle.std.specs.Prelude.{ℕ, zero, suc, Bool, List, get_or, replicate}
use Rattle.meaning.specs.Policy.{first_round}
use Rattle.meaning.specs.Formula.{read}
use Rattle.promise.specs.Place.{filled}
use Rattle.promise.specs.Formula.{formula_at, entry_at}
use Rattle.promise.specs.declared.EntryAt.{EntryAt}
use Rattle.promise.specs.declared.Layout.{Layout}
use Rattle.evaluation.specs.Table.{in_table}
use Rattle.evaluation.specs.Which.{joined_at}
use Rattle.evaluation.specs.declared.Which.{Which}

-- for each atom the number of the round that first adds it, in a policy with the credentials of the entry that e is a view of; 0 beyond the atoms
unfoldable pub table_of : List ℕ → Layout → List ℕ → Which → EntryAt → List ℕ
table_of d o w which e = filled (first_round (joined_at d o w which e)) o.atoms (replicate 64 0)

-- where the last of the k things of a table begins; 0 if there is none
unfoldable pub last_of : List ℕ → ℕ → ℕ
last_of t zero = 0
last_of t (suc k) = get_or t k 0

-- the formula of the entry at p, read in a table that has the atoms alone
unfoldable pub read_in : List ℕ → ℕ → List ℕ → Bool
read_in d p t = read (in_table t) (formula_at 16 d (entry_at d p).formula)
