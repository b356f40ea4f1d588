-- Formulas in prefix order, probes and the secret, seen at a place of the words.
use Rattle.std.specs.Prelude.{ℕ, zero, suc, ◌+◌, ◌≤◌, ◌<◌, Bool, true, false, List, ltb, length, get_or}
use Rattle.meaning.specs.Tests.{◌∈◌, ◌is◌, choose}
use Rattle.meaning.specs.Formula.{Formula, always, atom, neg, conj, disj}
use Rattle.meaning.specs.Papers.{Entry}
use Rattle.promise.specs.Form.{FormulaForm}
use Rattle.promise.specs.Place.{part, Kind}
use Rattle.promise.specs.declared.EntryAt.{EntryAt}
use Rattle.promise.specs.declared.Sign.{Sign}
use Rattle.promise.specs.declared.Sign.TheVariants.{Atom, True, Not, And, Or}

-- what a word of a formula stands for: "below n an atom, 256 true, 257 not, 258 and, 259 or"
unfoldable pub sign_of : ℕ → Sign
sign_of x = choose (ltb x 256) (Atom x) (choose (x is 256) True (choose (x is 257) Not (choose (x is 258) And Or)))

-- where the formula that begins at p ends, if it is at most so deep
unfoldable pub formula_end : ℕ → List ℕ → ℕ → ℕ
formula_end zero ws p = p
formula_end (suc d) ws p =
    choose (ltb (get_or ws p 0) 257) (p + 1)
    (choose (get_or ws p 0 is 257) (formula_end d ws (p + 1))
    (formula_end d ws (formula_end d ws (p + 1))))

-- the formula that begins at p
unfoldable pub formula_at : ℕ → List ℕ → ℕ → Formula
formula_at zero ws p = always
formula_at (suc d) ws p =
    choose (ltb (get_or ws p 0) 256) (atom (get_or ws p 0))
    (choose (get_or ws p 0 is 256) always
    (choose (get_or ws p 0 is 257) (neg (formula_at d ws (p + 1)))
    (choose (get_or ws p 0 is 258) (conj (formula_at d ws (p + 1)) (formula_at d ws (formula_end d ws (p + 1))))
    (disj (formula_at d ws (p + 1)) (formula_at d ws (formula_end d ws (p + 1)))))))

-- its words are there, it is at most so deep, and its atoms are below n
abbrev pub WhereTrue : Bool → Type 0 → Type 0
WhereTrue true A = A
WhereTrue false A = Unit {0}

unfoldable pub FormulaFits : ℕ → ℕ → List ℕ → ℕ → Type 0
FormulaFits n zero ws p = ⊥
FormulaFits n (suc d) ws p =
    (p < length ws) × WhereTrue (ltb (get_or ws p 0) 256) (get_or ws p 0 < n)
    × WhereTrue (ltb 256 (get_or ws p 0)) (FormulaFits n d ws (p + 1) × WhereTrue (ltb 257 (get_or ws p 0)) (FormulaFits n d ws (formula_end d ws (p + 1))))

-- count of credentials, credentials, length, formula
abbrev pub entry_at : List ℕ → ℕ → EntryAt
entry_at ws p =
    record {
      creds = p + 1;
      count = get_or ws p 0;
      formula = p + 1 + get_or ws p 0 + 1;
      next = p + 1 + get_or ws p 0 + 1 + get_or ws (p + 1 + get_or ws p 0) 0;
    }

abbrev pub entry_of : List ℕ → EntryAt → Entry
entry_of ws e = record { creds = part ws e.creds e.count; formula = formula_at 16 ws e.formula }

-- n is the number of atoms, m that of the credentials
pub record EntryFits (n m : ℕ) (ws : List ℕ) (p : ℕ) : Type 0 where
  pub ends : (entry_at ws p).next ≤ length ws
  pub creds : (x : ℕ) → x ∈ part ws (entry_at ws p).creds (entry_at ws p).count → x < m
  pub formula : FormulaFits n 16 ws (entry_at ws p).formula
  pub form : FormulaForm n 16 (formula_at 16 ws (entry_at ws p).formula)

abbrev pub entry : ℕ → ℕ → Kind Entry
entry n m = record { read = λ ws p. entry_of ws (entry_at ws p); next = λ ws p. (entry_at ws p).next; ok = EntryFits n m }
