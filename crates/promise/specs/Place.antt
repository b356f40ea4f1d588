-- Things that lie in the words one after the other: what is at a place, and where the next begins, for any words.
use Rattle.std.specs.Prelude.{ℕ, zero, suc, ◌≤◌, ◌<◌, ◌≡◌, List, [], ◌∷◌, ◌++◌, length, get_or, take, drop}

-- k words from p on
unfoldable pub part : List ℕ → ℕ → ℕ → List ℕ
part ws p k = take k (drop p ws)

-- a kind of thing: what lies at a place, where the next begins, and that its words are there
pub record Kind (A : Type 0) : Type 1 where
  pub read : List ℕ → ℕ → A
  pub next : List ℕ → ℕ → ℕ
  pub ok : List ℕ → ℕ → Type 0

-- where thing j from p on begins
unfoldable pub place : (ℕ → ℕ) → ℕ → ℕ → ℕ
place next p zero = p
place next p (suc j) = next (place next p j)

module _ {A : Type 0} (K : Kind A) (ws : List ℕ) where
  -- the k things from p on
  unfoldable pub many : ℕ → ℕ → List A
  many p zero = []
  many p (suc k) = K.read ws p ∷ many (K.next ws p) k

  -- the words of each of them are there
  unfoldable pub Fit : ℕ → ℕ → Type 0
  Fit p k = (j : ℕ) → j < k → K.ok ws (place (K.next ws) p j)

-- a table that has where each of k things from p on begins
pub record Starts (next : ℕ → ℕ) (p k : ℕ) (table : List ℕ) : Type 0 where
  pub long : k ≤ length table
  pub each : (j : ℕ) → j < k → get_or table j 0 ≡ place next p j

-- the values f 0, f 1, .. f (k - 1), and a table that begins with them and is old from there on
unfoldable pub rows : (ℕ → ℕ) → ℕ → List ℕ
rows f zero = []
rows f (suc k) = rows f k ++ (f k ∷ [])

unfoldable pub filled : (ℕ → ℕ) → ℕ → List ℕ → List ℕ
filled f k old = rows f k ++ drop k old
