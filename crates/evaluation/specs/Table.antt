-- The atoms that are there, as a table with a byte for each atom: the number of the round that added it, 0 where none did; and a round on it.
use Rattle.std.specs.Prelude.{ℕ, Bool, true, not, List, [], ◌∷◌, ltb, get_or, set}
use Rattle.meaning.specs.Tests.{◌is◌, ◌and◌, ◌or◌, all, choose}
use Rattle.meaning.specs.Policy.{Clause, Policy}
use Rattle.meaning.specs.Formula.{Reading}

-- atom a is there; it was so before round r
unfoldable pub has : List ℕ → ℕ → Bool
has t a = not (get_or t a 0 is 0)

unfoldable pub before : ℕ → List ℕ → ℕ → Bool
before r t a = has t a and ltb (get_or t a 0) r

-- in round r a clause adds its head, where that is not there and its body atoms all were before the round
unfoldable pub fire_one : ℕ → Clause → List ℕ → List ℕ
fire_one r c t = choose (not (has t c.head) and all (before r t) c.body) (set t c.head r) t

unfoldable pub fire_all : ℕ → Policy → List ℕ → List ℕ
fire_all r [] t = t
fire_all r (c ∷ P) t = fire_all r P (fire_one r c t)

-- a formula read in the table
unfoldable pub in_table : List ℕ → Reading Bool
in_table t = record { always = true; atom = has t; neg = not; conj = ◌and◌; disj = ◌or◌ }
