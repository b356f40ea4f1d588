-- How lists lie in words, and what form asks of them.
use Rattle.std.specs.Prelude.{ℕ, suc, ◌≤◌, List, [], ◌∷◌, ◌++◌, length}

-- "each after its count"
abbrev pub code_list : List ℕ → List ℕ
code_list xs = length xs ∷ xs

-- things one after the other, and a section of them
unfoldable pub code_all : {A : Type 0} → (A → List ℕ) → List A → List ℕ
code_all code [] = []
code_all code (x ∷ xs) = code x ++ code_all code xs

abbrev pub code_many : {A : Type 0} → (A → List ℕ) → List A → List ℕ
code_many code xs = length xs ∷ code_all code xs

-- strictly rising, the first at least low
unfoldable pub RisingFrom : ℕ → List ℕ → Type 0
RisingFrom low [] = Unit {0}
RisingFrom low (x ∷ xs) = (low ≤ x) × RisingFrom (suc x) xs
